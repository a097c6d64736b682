-- `late::refusal::withdraw_refusal` meets its contract: the number is that of the first condition that is met. Assumes nothing.
use mathlib.Core.Path.{refl, sym, ◌∙◌}
use Prim.Native.Nat.{◌<◌}
use native.Mathlib.Nat.{le_refl}
use native.Mathlib.Omega.{arith}
use Rattle.std.proofs.lemmas.Result.{err_from_is_err_and}
use Rattle.refusals.specs.Numbers.{number_of}
use Rattle.refusals.proofs.Numbers.{number_positive}
use Rattle.tables.specs.Lent.{state_viewed}
use Rattle.late_rules.specs.Edit.{withdrawn_head, withdrawn_tables}
use Rattle.late_rules.specs.Late.{withdraw_faults, withdraw_rules}
use Rattle.late_checks.specs.Judged.{words_of}
use Rattle.late_checks.specs.Lent.{head_held, reader_held}
use Rattle.late.proofs.Rules.{first_met_lem, state_met, own_met, present_in, present_job}
use Rattle.late.proofs.refusal.withdraw_refusal.Goals as goal

pub returns-in_err-present_refusal : goal.returns-in_err-present_refusal
unfolding withdraw_rules
returns-in_err-present_refusal c =
    let head = head_held c.args.tables.now in
    let reader = reader_held c.args.tables.now in
    let state = state_viewed c.args.state.now in
    let p = err_from_is_err_and c.from_residual.result c.from_residual.ensures.1 in
    let k = number_of c.in_err-present_refusal.field-0.0 in
    let some : 0 < number_of c.in_err-present_refusal.field-0.0 = number_positive c.in_err-present_refusal.field-0.0 in
    rw (p.1, p.2) (
    first_met_lem c.args.tables.now.sizes.tallies (withdraw_faults head reader c.args.place) head (withdrawn_head head) reader (withdrawn_tables head reader c.args.place) state k
    ((c.in_err-present_refusal.ensures state.working state.total_transit).number_is)
    (λ z. omega (arith, some, z))
    )

pub withdrawn_job-edit-requires : goal.withdrawn_job-edit-requires
withdrawn_job-edit-requires c =
    let head = head_held c.args.tables.now in
    let reader = reader_held c.args.tables.now in
    let state = state_viewed c.args.state.now in
    let none = sym ((c.in_ok-present_refusal.ensures state.working state.total_transit).number_is) in
    present_in c.args.tables.now.sizes.tallies head reader state (le_refl c.args.tables.now.sizes.tallies) none

pub state_refusal-requires : goal.state_refusal-requires
state_refusal-requires c =
    let head = head_held c.args.tables.now in
    let reader = reader_held c.args.tables.now in
    let state = state_viewed c.args.state.now in
    let none = sym ((c.in_ok-present_refusal.ensures state.working state.total_transit).number_is) in
    let job = c.run_job-job.result in
    let stands = (c.in_ok-present_refusal.ensures state.working state.total_transit).standing_are refl in
    let shown = present_job c.args.tables.now.sizes.tallies head reader state (le_refl c.args.tables.now.sizes.tallies) none job c.run_job-job.ensures c.present_refusal.new.standing stands in
    record { list = job.tally_box.now; passes = record { list = job.tally_bag.now; passes = record { list = job.tally_revision.now; passes = shown } } }

pub returns-in_err-state_refusal : goal.returns-in_err-state_refusal
unfolding withdraw_rules
returns-in_err-state_refusal c =
    let head = head_held c.args.tables.now in
    let reader = reader_held c.args.tables.now in
    let state = state_viewed c.args.state.now in
    let none = sym ((c.in_ok-present_refusal.ensures state.working state.total_transit).number_is) in
    let job = c.run_job-job.result in
    let stands = (c.in_ok-present_refusal.ensures state.working state.total_transit).standing_are refl in
    let shown = present_job c.args.tables.now.sizes.tallies head reader state (le_refl c.args.tables.now.sizes.tallies) none job c.run_job-job.ensures c.present_refusal.new.standing stands in
    let told = c.in_err-state_refusal.ensures job.tally_box.now job.tally_bag.now job.tally_revision.now shown in
    let p = err_from_is_err_and c.from_residual-in_err-state_refusal.result c.from_residual-in_err-state_refusal.ensures.1 in
    let k = number_of c.in_err-state_refusal.field-0.0 in
    let some : 0 < number_of c.in_err-state_refusal.field-0.0 = number_positive c.in_err-state_refusal.field-0.0 in
    rw (p.1, p.2) (
    state_met c.args.tables.now.sizes.tallies (withdraw_faults head reader c.args.place) head (withdrawn_head head) reader (withdrawn_tables head reader c.args.place) state none (words_of c.withdrawn_job-edit.result)
    c.withdrawn_job-edit.ensures.words_is k
    (rw (c.run_job-job.ensures, c.words_of.ensures) at told) (λ z. omega (arith, some, z))
    )

pub returns-in-Ok : goal.returns-in-Ok
unfolding withdraw_rules
returns-in-Ok c =
    let head = head_held c.args.tables.now in
    let reader = reader_held c.args.tables.now in
    let state = state_viewed c.args.state.now in
    let none = sym ((c.in_ok-present_refusal.ensures state.working state.total_transit).number_is) in
    let job = c.run_job-job.result in
    let stands = (c.in_ok-present_refusal.ensures state.working state.total_transit).standing_are refl in
    let shown = present_job c.args.tables.now.sizes.tallies head reader state (le_refl c.args.tables.now.sizes.tallies) none job c.run_job-job.ensures c.present_refusal.new.standing stands in
    let told = c.in_ok-state_refusal.ensures job.tally_box.now job.tally_bag.now job.tally_revision.now shown in
    (rw c.in-Ok.is at c.withdrawn_job-edit.ensures.met_is) ∙ own_met c.args.tables.now.sizes.tallies (withdraw_faults head reader c.args.place) head (withdrawn_head head) reader (withdrawn_tables head reader c.args.place)
    state none (words_of c.withdrawn_job-edit.result) c.withdrawn_job-edit.ensures.words_is (sym (rw (c.run_job-job.ensures, c.words_of.ensures) at told))

pub returns-in-Err : goal.returns-in-Err
unfolding withdraw_rules
returns-in-Err c =
    let head = head_held c.args.tables.now in
    let reader = reader_held c.args.tables.now in
    let state = state_viewed c.args.state.now in
    let none = sym ((c.in_ok-present_refusal.ensures state.working state.total_transit).number_is) in
    let job = c.run_job-job.result in
    let stands = (c.in_ok-present_refusal.ensures state.working state.total_transit).standing_are refl in
    let shown = present_job c.args.tables.now.sizes.tallies head reader state (le_refl c.args.tables.now.sizes.tallies) none job c.run_job-job.ensures c.present_refusal.new.standing stands in
    let told = c.in_ok-state_refusal.ensures job.tally_box.now job.tally_bag.now job.tally_revision.now shown in
    (rw c.in-Err.is at c.withdrawn_job-edit.ensures.met_is) ∙ own_met c.args.tables.now.sizes.tallies (withdraw_faults head reader c.args.place) head (withdrawn_head head) reader (withdrawn_tables head reader c.args.place)
    state none (words_of c.withdrawn_job-edit.result) c.withdrawn_job-edit.ensures.words_is (sym (rw (c.run_job-job.ensures, c.words_of.ensures) at told))
