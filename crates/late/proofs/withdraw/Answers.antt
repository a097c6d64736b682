-- `late::withdraw` meets its contract: the columns are edited, and the run is that of the edited job; a refusal changes nothing. Assumes nothing.
use mathlib.Core.Path.{◌≡◌, ap, ap₂, refl, ◌∙◌}
use Prim.Native.Nat.{◌+◌, ◌-◌, ◌<◌, ◌≤◌}
use native.Mathlib.Omega.{arith}
use lib.ListN.{replicate}
use Rattle.std.proofs.lemmas.Result.{err_from_is_err_and}
use Rattle.laws.specs.Checks.{first_met}
use Rattle.format.specs.Bytes.{from}
use Rattle.format.specs.Tables.{ReaderTables}
use Rattle.refusals.specs.Numbers.{number_of}
use Rattle.refusals.proofs.Numbers.{number_positive}
use Rattle.slices.specs.declared.sizes.Sizes.{Sizes}
use Rattle.tables.specs.Lent.{state_held}
use Rattle.late_rules.specs.Edit.{Entry}
use Rattle.late_rules.specs.Late.{withdraw_rules}
use Rattle.late_edits.specs.Columns.{edit_tables}
use Rattle.late.specs.Calls.{late_answer_of, sizes_head}
use Rattle.late.specs.Lent.{reader_now}
use Rattle.late.proofs.Result.{withdraw_refused, withdraw_there, withdraw_few, withdraw_long, withdraw_places, withdrawn, edited_is, freed_is}
use Rattle.late.proofs.withdraw.Goals as goal

pub returns-in_err-withdraw_refusal-clause-withdrawn : goal.returns-in_err-withdraw_refusal-clause-withdrawn
unfolding late_answer_of
returns-in_err-withdraw_refusal-clause-withdrawn c =
    let reader = reader_now c.args.tables.now in
    let head = sizes_head c.args.sizes in
    let state = state_held c.args.state.now in
    let p = err_from_is_err_and c.from_residual.result c.from_residual.ensures.1 in
    let some : 0 < number_of c.in_err-withdraw_refusal.field-0.0 = number_positive c.in_err-withdraw_refusal.field-0.0 in
    rw (p.1, p.2) (
    withdraw_refused head reader state c.args.place (number_of c.in_err-withdraw_refusal.field-0.0)
    ((rw c.view.ensures at c.in_err-withdraw_refusal.ensures) ∙ ap₂ (λ (z : Sizes) (r : ReaderTables). first_met (withdraw_rules (sizes_head z) r state c.args.place)) c.lent-present.ensures.0 c.lent-present.ensures.1) (λ z.
    omega (arith, some, z))
    )

pub overflow_sub-edited : goal.overflow_sub-edited
overflow_sub-edited c =
    let reader = reader_now c.args.tables.now in
    let head = sizes_head c.args.sizes in
    let state = state_held c.args.state.now in
    let met = (rw c.view.ensures at c.in_ok-withdraw_refusal.ensures) ∙ ap₂ (λ (z : Sizes) (r : ReaderTables). first_met (withdraw_rules (sizes_head z) r state c.args.place)) c.lent-present.ensures.0 c.lent-present.ensures.1 in
    let there : c.args.place < c.args.sizes.tallies = withdraw_there head reader state c.args.place 0 met refl in
    omega (arith, there)

pub edit_all-requires-clause-n_bound : goal.edit_all-requires-clause-n_bound
edit_all-requires-clause-n_bound c =
    let reader = reader_now c.args.tables.now in
    let head = sizes_head c.args.sizes in
    let state = state_held c.args.state.now in
    let met = (rw c.view.ensures at c.in_ok-withdraw_refusal.ensures) ∙ ap₂ (λ (z : Sizes) (r : ReaderTables). first_met (withdraw_rules (sizes_head z) r state c.args.place)) c.lent-present.ensures.0 c.lent-present.ensures.1 in
    let there : c.args.place < c.args.sizes.tallies = withdraw_there head reader state c.args.place 0 met refl in
    let few : c.args.sizes.tallies ≤ 1000 = withdraw_few head reader state c.args.place 0 met refl in
    (omega (arith, there), omega (arith, there, few))

pub edit_all-requires-clause-long : goal.edit_all-requires-clause-long
edit_all-requires-clause-long c =
    let reader = reader_now c.args.tables.now in
    let head = sizes_head c.args.sizes in
    let state = state_held c.args.state.now in
    let met = (rw c.view.ensures at c.in_ok-withdraw_refusal.ensures) ∙ ap₂ (λ (z : Sizes) (r : ReaderTables). first_met (withdraw_rules (sizes_head z) r state c.args.place)) c.lent-present.ensures.0 c.lent-present.ensures.1 in
    let there : c.args.place < c.args.sizes.tallies = withdraw_there head reader state c.args.place 0 met refl in
    let same : c.args.sizes.tallies - 1 + 1 ≡ c.args.sizes.tallies = omega (arith, there) in
    rw same (withdraw_long head reader state c.args.place 0 met refl)

pub edit_all-requires-clause-places : goal.edit_all-requires-clause-places
edit_all-requires-clause-places c =
    let reader = reader_now c.args.tables.now in
    let head = sizes_head c.args.sizes in
    let state = state_held c.args.state.now in
    let met = (rw c.view.ensures at c.in_ok-withdraw_refusal.ensures) ∙ ap₂ (λ (z : Sizes) (r : ReaderTables). first_met (withdraw_rules (sizes_head z) r state c.args.place)) c.lent-present.ensures.0 c.lent-present.ensures.1 in
    let there : c.args.place < c.args.sizes.tallies = withdraw_there head reader state c.args.place 0 met refl in
    let places = withdraw_places head reader state c.args.place 0 met refl in
    omega (arith, there, places)

pub returns-clause-withdrawn : goal.returns-clause-withdrawn
returns-clause-withdrawn c =
    let reader = reader_now c.args.tables.now in
    let head = sizes_head c.args.sizes in
    let state = state_held c.args.state.now in
    let met = (rw c.view.ensures at c.in_ok-withdraw_refusal.ensures) ∙ ap₂ (λ (z : Sizes) (r : ReaderTables). first_met (withdraw_rules (sizes_head z) r state c.args.place)) c.lent-present.ensures.0 c.lent-present.ensures.1 in
    c.run_edited.ensures.ran
    ∙ withdrawn head reader state c.args.place 0 met refl _
    (edited_is c.args.tables.now _ c.args.place (c.args.sizes.tallies - 1) _ (from (replicate 11 0) 0) c.edit_all.ensures.kept c.edit_all.ensures.left
    ∙ ap (λ (e : Entry). edit_tables c.args.place (c.args.sizes.tallies - 1) e reader) freed_is)
