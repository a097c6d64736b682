-- `forecast_moves::own::clear_row` meets its contract. Assumes nothing.
use Rattle.forecast_doubles.specs.Moves.{summed_in}
use Rattle.forecast_moves.proofs.Cleared.{zeroed_same, zeroed_as, zeroed_at, held_other, held_own}
use Rattle.forecast_moves.proofs.own.clear_row.Goals as goal

pub returns-then-c-a : goal.returns-then-c-a
returns-then-c-a c =
    let s = c.args in
    zeroed_at c.row_start.ensures
    (zeroed_as c.row_start.result s.m (summed_in s.owner.now s.sharers.now s.a s.c) _ s.held.now _ (held_other s.owner.now s.sharers.now s.a s.c c.if-c-a.true)
    c.zero_words.ensures)

pub returns-else-c-a : goal.returns-else-c-a
returns-else-c-a c =
    let s = c.args in
    zeroed_same _ s.m _ s.held.now (held_own s.owner.now s.sharers.now s.a s.c c.if-c-a.false)
