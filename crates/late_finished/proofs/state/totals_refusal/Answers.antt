-- `late_finished::state::totals_refusal` meets its contract. Assumes nothing.
use Rattle.late_finished.proofs.Present.{short_edited, long_edited}
use Rattle.late_finished.proofs.state.totals_refusal.Goals as goal

pub returns-then-working-edited : goal.returns-then-working-edited
returns-then-working-edited c =
    let a = c.args in short_edited a.own a.edited a.working.now a.total_transit.now c.if-working-edited.true

pub returns : goal.returns
returns c =
    let a = c.args in
    long_edited a.own a.edited a.working.now a.total_transit.now _ c.packed_refusal.ensures c.if-working-edited.false
