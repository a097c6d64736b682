-- `late::add` meets its contract: the columns are edited, and the run is that of the edited job; a refusal changes nothing. Assumes nothing.
use mathlib.Core.Path.{ap₂, refl, ◌∙◌}
use Prim.Native.Nat.{◌<◌}
use native.Mathlib.Omega.{arith}
use Rattle.std.proofs.lemmas.Result.{err_from_is_err_and}
use Rattle.laws.specs.Checks.{first_met}
use Rattle.format.specs.Bytes.{from}
use Rattle.format.specs.Tables.{ReaderTables}
use Rattle.refusals.specs.Numbers.{number_of}
use Rattle.refusals.proofs.Numbers.{number_positive}
use Rattle.slices.specs.declared.sizes.Sizes.{Sizes}
use Rattle.tables.specs.Lent.{state_held}
use Rattle.late_rules.specs.Edit.{place_found}
use Rattle.late_rules.specs.Late.{add_rules}
use Rattle.late_checks.specs.Judged.{tally_with}
use Rattle.late.specs.Calls.{late_answer_of, sizes_head}
use Rattle.late.specs.Lent.{reader_now, entry_with}
use Rattle.late.proofs.Result.{add_refused, add_few, add_long, add_places, added, edited_is}
use Rattle.late.proofs.add.Goals as goal

pub returns-in_err-edit-clause-added : goal.returns-in_err-edit-clause-added
unfolding late_answer_of
returns-in_err-edit-clause-added c =
    let reader = reader_now c.args.tables.now in
    let head = sizes_head c.args.sizes in
    let state = state_held c.args.state.now in
    let tally = tally_with c.args.x c.args.code.now in
    let p = err_from_is_err_and c.from_residual.result c.from_residual.ensures.1 in
    let some : 0 < number_of c.in_err-edit.field-0.0 = number_positive c.in_err-edit.field-0.0 in
    rw (p.1, p.2) (
    add_refused head reader state tally (number_of c.in_err-edit.field-0.0)
    ((rw c.view.ensures at c.in_err-edit.ensures.met) ∙ ap₂ (λ (z : Sizes) (r : ReaderTables). first_met (add_rules (sizes_head z) r state tally)) c.lent-present.ensures.0
    c.lent-present.ensures.1) (λ z. omega (arith, some, z))
    )

pub edit_all-requires-clause-n_bound : goal.edit_all-requires-clause-n_bound
edit_all-requires-clause-n_bound c =
    let reader = reader_now c.args.tables.now in
    let head = sizes_head c.args.sizes in
    let state = state_held c.args.state.now in
    let tally = tally_with c.args.x c.args.code.now in
    let met = (rw c.view.ensures at c.in_ok-edit.ensures.met) ∙ ap₂ (λ (z : Sizes) (r : ReaderTables). first_met (add_rules (sizes_head z) r state tally)) c.lent-present.ensures.0 c.lent-present.ensures.1 in
    let few : c.args.sizes.tallies < 1000 = add_few head reader state tally 0 met refl in
    (omega arith, few)

pub edit_all-requires-clause-long : goal.edit_all-requires-clause-long
edit_all-requires-clause-long c =
    let reader = reader_now c.args.tables.now in
    let head = sizes_head c.args.sizes in
    let state = state_held c.args.state.now in
    let tally = tally_with c.args.x c.args.code.now in
    let met = (rw c.view.ensures at c.in_ok-edit.ensures.met) ∙ ap₂ (λ (z : Sizes) (r : ReaderTables). first_met (add_rules (sizes_head z) r state tally)) c.lent-present.ensures.0 c.lent-present.ensures.1 in
    add_long head reader state tally 0 met refl

pub edit_all-requires-clause-places : goal.edit_all-requires-clause-places
edit_all-requires-clause-places c =
    let reader = reader_now c.args.tables.now in
    let head = sizes_head c.args.sizes in
    let state = state_held c.args.state.now in
    let tally = tally_with c.args.x c.args.code.now in
    let met = (rw c.view.ensures at c.in_ok-edit.ensures.met) ∙ ap₂ (λ (z : Sizes) (r : ReaderTables). first_met (add_rules (sizes_head z) r state tally)) c.lent-present.ensures.0 c.lent-present.ensures.1 in
    add_places head reader state tally 0 met refl

pub overflow_add-edited : goal.overflow_add-edited
overflow_add-edited c =
    let reader = reader_now c.args.tables.now in
    let head = sizes_head c.args.sizes in
    let state = state_held c.args.state.now in
    let tally = tally_with c.args.x c.args.code.now in
    let met = (rw c.view.ensures at c.in_ok-edit.ensures.met) ∙ ap₂ (λ (z : Sizes) (r : ReaderTables). first_met (add_rules (sizes_head z) r state tally)) c.lent-present.ensures.0 c.lent-present.ensures.1 in
    let few : c.args.sizes.tallies < 1000 = add_few head reader state tally 0 met refl in
    omega (arith, few)

pub returns-clause-added : goal.returns-clause-added
returns-clause-added c =
    let reader = reader_now c.args.tables.now in
    let head = sizes_head c.args.sizes in
    let state = state_held c.args.state.now in
    let tally = tally_with c.args.x c.args.code.now in
    let met = (rw c.view.ensures at c.in_ok-edit.ensures.met) ∙ ap₂ (λ (z : Sizes) (r : ReaderTables). first_met (add_rules (sizes_head z) r state tally)) c.lent-present.ensures.0 c.lent-present.ensures.1 in
    let place_is = c.in_ok-edit.ensures.place
    ∙ ap₂ (λ (z : Sizes) (r : ReaderTables). place_found (sizes_head z) r (tally_with c.args.x c.args.code.now)) c.lent-present.ensures.0 c.lent-present.ensures.1 in
    c.run_edited.ensures.ran
    ∙ added head reader state tally 0 met refl _ c.in_ok-edit.edit.place place_is
    (edited_is c.args.tables.now _ c.args.sizes.tallies c.args.sizes.tallies (entry_with c.args.x c.args.code.now c.in_ok-edit.edit.place) (from c.args.code.now 0)
    c.edit_all.ensures.kept c.edit_all.ensures.left)
