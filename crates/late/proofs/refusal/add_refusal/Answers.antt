-- `late::refusal::add_refusal` meets its contract: the number is that of the first condition that is met. Assumes nothing.
use mathlib.Core.Path.{refl, sym, ap, ◌∙◌}
use Prim.Native.Nat.{ℕ, ◌<◌}
use native.Mathlib.Omega.{arith}
use Rattle.std.proofs.lemmas.Result.{err_from_is_err_and}
use Rattle.laws.specs.Checks.{first_met}
use Rattle.refusals.specs.Numbers.{number_of}
use Rattle.refusals.proofs.Numbers.{number_positive}
use Rattle.tables.specs.Lent.{state_viewed}
use Rattle.late_rules.specs.Edit.{added_head, added_tables}
use Rattle.late_rules.specs.Late.{room, add_faults, add_rules}
use Rattle.late_checks.specs.Judged.{tally_with, words_of}
use Rattle.late_checks.specs.Lent.{head_held, reader_held}
use Rattle.late_checks.specs.Present.{first_rules}
use Rattle.late.proofs.Rules.{first_met_lem, state_met, own_met, present_in, present_job, room_most}
use Rattle.late.proofs.refusal.add_refusal.Goals as goal

pub returns-in_err-present_refusal-clause-met : goal.returns-in_err-present_refusal-clause-met
unfolding add_rules
returns-in_err-present_refusal-clause-met c =
    let head = head_held c.args.tables.now in
    let reader = reader_held c.args.tables.now in
    let state = state_viewed c.args.state.now in
    let p = err_from_is_err_and c.from_residual.result c.from_residual.ensures.1 in
    let k = number_of c.in_err-present_refusal.field-0.0 in
    let some : 0 < number_of c.in_err-present_refusal.field-0.0 = number_positive c.in_err-present_refusal.field-0.0 in
    rw (p.1, p.2) (
    first_met_lem (room c.args.tables.now.sizes.tallies) (add_faults head reader (tally_with c.args.x c.args.code.now)) head (added_head head) reader (added_tables head reader (tally_with c.args.x c.args.code.now)) state k
    ((c.in_err-present_refusal.ensures state.working state.total_transit).number_is ∙ ap (λ (t : ℕ). first_met (first_rules t head reader state)) c.room_for-room.ensures.0)
    (λ z. omega (arith, some, z))
    )

pub added_job-edit-requires : goal.added_job-edit-requires
added_job-edit-requires c =
    let head = head_held c.args.tables.now in
    let reader = reader_held c.args.tables.now in
    let state = state_viewed c.args.state.now in
    let none = sym ((c.in_ok-present_refusal.ensures state.working state.total_transit).number_is ∙ ap (λ (t : ℕ). first_met (first_rules t head reader state)) c.room_for-room.ensures.0) in
    present_in (room c.args.tables.now.sizes.tallies) head reader state (room_most c.args.tables.now.sizes.tallies) none

pub state_refusal-requires : goal.state_refusal-requires
state_refusal-requires c =
    let head = head_held c.args.tables.now in
    let reader = reader_held c.args.tables.now in
    let state = state_viewed c.args.state.now in
    let none = sym ((c.in_ok-present_refusal.ensures state.working state.total_transit).number_is ∙ ap (λ (t : ℕ). first_met (first_rules t head reader state)) c.room_for-room.ensures.0) in
    let job = c.run_job-job.result in
    let stands = (c.in_ok-present_refusal.ensures state.working state.total_transit).standing_are refl in
    let shown = present_job (room c.args.tables.now.sizes.tallies) head reader state (room_most c.args.tables.now.sizes.tallies) none job c.run_job-job.ensures c.present_refusal.new.standing stands in
    record { list = job.tally_box.now; passes = record { list = job.tally_bag.now; passes = record { list = job.tally_revision.now; passes = shown } } }

pub returns-in_err-state_refusal-clause-met : goal.returns-in_err-state_refusal-clause-met
unfolding add_rules
returns-in_err-state_refusal-clause-met c =
    let head = head_held c.args.tables.now in
    let reader = reader_held c.args.tables.now in
    let state = state_viewed c.args.state.now in
    let none = sym ((c.in_ok-present_refusal.ensures state.working state.total_transit).number_is ∙ ap (λ (t : ℕ). first_met (first_rules t head reader state)) c.room_for-room.ensures.0) in
    let job = c.run_job-job.result in
    let stands = (c.in_ok-present_refusal.ensures state.working state.total_transit).standing_are refl in
    let shown = present_job (room c.args.tables.now.sizes.tallies) head reader state (room_most c.args.tables.now.sizes.tallies) none job c.run_job-job.ensures c.present_refusal.new.standing stands in
    let told = c.in_err-state_refusal.ensures job.tally_box.now job.tally_bag.now job.tally_revision.now shown in
    let p = err_from_is_err_and c.from_residual-in_err-state_refusal.result c.from_residual-in_err-state_refusal.ensures.1 in
    let k = number_of c.in_err-state_refusal.field-0.0 in
    let some : 0 < number_of c.in_err-state_refusal.field-0.0 = number_positive c.in_err-state_refusal.field-0.0 in
    rw (p.1, p.2) (
    state_met (room c.args.tables.now.sizes.tallies) (add_faults head reader (tally_with c.args.x c.args.code.now)) head (added_head head) reader (added_tables head reader (tally_with c.args.x c.args.code.now)) state none
    (words_of c.added_job-edit.result) c.added_job-edit.ensures.told.words_is k
    (rw (c.run_job-job.ensures, c.words_of.ensures) at told) (λ z. omega (arith, some, z))
    )

pub returns-clause-met : goal.returns-clause-met
unfolding add_rules
returns-clause-met c =
    let head = head_held c.args.tables.now in
    let reader = reader_held c.args.tables.now in
    let state = state_viewed c.args.state.now in
    let none = sym ((c.in_ok-present_refusal.ensures state.working state.total_transit).number_is ∙ ap (λ (t : ℕ). first_met (first_rules t head reader state)) c.room_for-room.ensures.0) in
    let job = c.run_job-job.result in
    let stands = (c.in_ok-present_refusal.ensures state.working state.total_transit).standing_are refl in
    let shown = present_job (room c.args.tables.now.sizes.tallies) head reader state (room_most c.args.tables.now.sizes.tallies) none job c.run_job-job.ensures c.present_refusal.new.standing stands in
    let told = c.in_ok-state_refusal.ensures job.tally_box.now job.tally_bag.now job.tally_revision.now shown in
    c.added_job-edit.ensures.told.met_is ∙ own_met (room c.args.tables.now.sizes.tallies) (add_faults head reader (tally_with c.args.x c.args.code.now)) head (added_head head) reader (added_tables head reader (tally_with
    c.args.x c.args.code.now)) state none (words_of c.added_job-edit.result) c.added_job-edit.ensures.told.words_is (sym (rw (c.run_job-job.ensures, c.words_of.ensures) at told))
