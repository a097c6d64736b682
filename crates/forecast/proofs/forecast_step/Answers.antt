-- `forecast::forecast_step` meets its contract: refused under a number, or applied, kind by kind. Assumes nothing.
use Prim.Native.Nat.{◌≤◌}
use native.Mathlib.Omega.{arith}
use Rattle.std.proofs.lemmas.Result.{err_from_is_err_and}
use Rattle.refusals.proofs.Numbers.{number_positive}
use Rattle.forecast.specs.Answer.{answer_of}
use Rattle.forecast.proofs.Moved.{decided, refused_by, accepted_by, marking, counting, values_in, values_accepted, lines_in, row_of, lines_accepted, own_sizes, own_tables, sums_accepted, parts_in, parts_accepted}
use Rattle.forecast.proofs.forecast_step.Goals as goal

pub returns-in_err-words-clause-answer : goal.returns-in_err-words-clause-answer
unfolding answer_of
returns-in_err-words-clause-answer c =
    let p = err_from_is_err_and c.from_residual.result c.from_residual.ensures.1 in
    rw (p.1, p.2) (refused_by _ _ _ _ (decided _ _ _ _ _ _ _ _ c.view.ensures c.in_err-words.ensures).number_is (number_positive _))

pub mark-requires-clause-marks_in : goal.mark-requires-clause-marks_in
mark-requires-clause-marks_in c =
    (marking _ _ _ _ _ _ (decided _ _ _ _ _ _ _ _ c.view.ensures c.in_ok-words.ensures)).0

pub mark-requires-clause-done_value : goal.mark-requires-clause-done_value
mark-requires-clause-done_value c =
    (marking _ _ _ _ _ _ (decided _ _ _ _ _ _ _ _ c.view.ensures c.in_ok-words.ensures)).1

pub raise-requires-clause-in_bounds : goal.raise-requires-clause-in_bounds
raise-requires-clause-in_bounds c =
    (counting _ _ _ _ _ _ (decided _ _ _ _ _ _ _ _ c.view.ensures c.in_ok-words.ensures)).0

pub raise-requires-clause-more_bound : goal.raise-requires-clause-more_bound
raise-requires-clause-more_bound c =
    (counting _ _ _ _ _ _ (decided _ _ _ _ _ _ _ _ c.view.ensures c.in_ok-words.ensures)).1

pub add_lines-requires-clause-lines_in : goal.add_lines-requires-clause-lines_in
add_lines-requires-clause-lines_in c =
    lines_in _ _ _ _ _ _ (decided _ _ _ _ _ _ _ _ c.view.ensures c.in_ok-words.ensures) _ c.from.ensures

pub add_lines-requires-clause-row_in : goal.add_lines-requires-clause-row_in
add_lines-requires-clause-row_in c =
    row_of _ _ _ _ _ _ (decided _ _ _ _ _ _ _ _ c.view.ensures c.in_ok-words.ensures)

pub sum_own-requires-clause-k_bound : goal.sum_own-requires-clause-k_bound
sum_own-requires-clause-k_bound c =
    own_sizes _ _ _ _ _ _ (decided _ _ _ _ _ _ _ _ c.view.ensures c.in_ok-words.ensures)

pub sum_own-requires-clause-m_in_bounds : goal.sum_own-requires-clause-m_in_bounds
sum_own-requires-clause-m_in_bounds c =
    own_tables _ _ _ _ _ _ (decided _ _ _ _ _ _ _ _ c.view.ensures c.in_ok-words.ensures)

pub move_parts-requires-clause-m_bound : goal.move_parts-requires-clause-m_bound
move_parts-requires-clause-m_bound c =
    (parts_in _ _ _ _ _ _ (decided _ _ _ _ _ _ _ _ c.view.ensures c.in_ok-words.ensures) _ c.from-m.ensures (λ ne. omega (arith, ne))).0

pub move_parts-requires-clause-message_in : goal.move_parts-requires-clause-message_in
move_parts-requires-clause-message_in c =
    (parts_in _ _ _ _ _ _ (decided _ _ _ _ _ _ _ _ c.view.ensures c.in_ok-words.ensures) _ c.from-m.ensures (λ ne. omega (arith, ne))).1.0

pub move_parts-requires-clause-message_in_2 : goal.move_parts-requires-clause-message_in_2
move_parts-requires-clause-message_in_2 c =
    (parts_in _ _ _ _ _ _ (decided _ _ _ _ _ _ _ _ c.view.ensures c.in_ok-words.ensures) _ c.from-m.ensures (λ ne. omega (arith, ne))).1.1

pub move_values-requires-clause-n_bound : goal.move_values-requires-clause-n_bound
move_values-requires-clause-n_bound c =
    let most : c.args.x.kind ≤ 6 = (marking _ _ _ _ _ _ (decided _ _ _ _ _ _ _ _ c.view.ensures c.in_ok-words.ensures)).0.kind_to in
    let two : c.args.x.kind ≤ 2 = grind (arith, most, c.in_default) in
    (values_in _ _ _ _ _ _ (decided _ _ _ _ _ _ _ _ c.view.ensures c.in_ok-words.ensures) _ c.from-in_default.ensures two).0

pub move_values-requires-clause-message_in : goal.move_values-requires-clause-message_in
move_values-requires-clause-message_in c =
    let most : c.args.x.kind ≤ 6 = (marking _ _ _ _ _ _ (decided _ _ _ _ _ _ _ _ c.view.ensures c.in_ok-words.ensures)).0.kind_to in
    let two : c.args.x.kind ≤ 2 = grind (arith, most, c.in_default) in
    (values_in _ _ _ _ _ _ (decided _ _ _ _ _ _ _ _ c.view.ensures c.in_ok-words.ensures) _ c.from-in_default.ensures two).1

pub returns-in-3-clause-answer : goal.returns-in-3-clause-answer
unfolding answer_of
returns-in-3-clause-answer c =
    accepted_by _ _ _ (decided _ _ _ _ _ _ _ _ c.view.ensures c.in_ok-words.ensures).number_is _
    (lines_accepted _ _ _ _ _ _ (decided _ _ _ _ _ _ _ _ c.view.ensures c.in_ok-words.ensures) _ _ c.mark.ensures.0 c.raise.ensures _ _ c.from.ensures c.in-3.is c.add_lines.auto.part c.add_lines.ensures)

pub returns-in-6-clause-answer : goal.returns-in-6-clause-answer
unfolding answer_of
returns-in-6-clause-answer c =
    accepted_by _ _ _ (decided _ _ _ _ _ _ _ _ c.view.ensures c.in_ok-words.ensures).number_is _
    (sums_accepted _ _ _ _ _ _ (decided _ _ _ _ _ _ _ _ c.view.ensures c.in_ok-words.ensures) _ _ c.mark.ensures.0 c.raise.ensures _ _ _ c.in-6.is
    c.sum_own.auto.part c.sum_own.ensures.forecast_after c.sum_own.ensures.zeroed c.sum_own.ensures.held_after)

pub returns-in-4-clause-answer : goal.returns-in-4-clause-answer
unfolding answer_of
returns-in-4-clause-answer c =
    accepted_by _ _ _ (decided _ _ _ _ _ _ _ _ c.view.ensures c.in_ok-words.ensures).number_is _
    (parts_accepted _ _ _ _ _ _ (decided _ _ _ _ _ _ _ _ c.view.ensures c.in_ok-words.ensures) _ _ c.mark.ensures.0 c.raise.ensures _ _ _ _ c.from-m.ensures (λ ne. omega (arith, ne))
    c.move_parts.auto.part c.move_parts.auto.part_transit c.move_parts.auto.held c.move_parts.ensures)

pub returns-in_default-clause-answer : goal.returns-in_default-clause-answer
unfolding answer_of
returns-in_default-clause-answer c =
    let most : c.args.x.kind ≤ 6 = (marking _ _ _ _ _ _ (decided _ _ _ _ _ _ _ _ c.view.ensures c.in_ok-words.ensures)).0.kind_to in
    let two : c.args.x.kind ≤ 2 = grind (arith, most, c.in_default) in
    accepted_by _ _ _ (decided _ _ _ _ _ _ _ _ c.view.ensures c.in_ok-words.ensures).number_is _
    (values_accepted _ _ _ _ _ _ (decided _ _ _ _ _ _ _ _ c.view.ensures c.in_ok-words.ensures) _ _ c.mark.ensures.0 c.raise.ensures _ _ _ c.from-in_default.ensures two
    c.move_values.auto.known c.move_values.auto.value_transit c.move_values.ensures)
