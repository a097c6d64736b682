-- `step::step_of_totals` meets its contract: refused under a number, or applied. Assumes nothing.
use mathlib.Core.Path.{ap, ◌∙◌}
use mathlib.Core.List.{List}
use Prim.Native.Nat.{ℕ}
use native.Mathlib.Omega.{arith}
use Rattle.std.proofs.lemmas.Result.{err_from_is_err_and}
use Rattle.refusals.proofs.Numbers.{number_positive}
use Rattle.tables.specs.Lent.{job_held, state_held}
use Rattle.step_apply.specs.Apply.{sent_more}
use Rattle.step.specs.Answer.{answer_of}
use Rattle.step.proofs.Zero.{refused_by}
use Rattle.step.proofs.Sides.{lists_in, marking, counting, totals_lent, few_totals, totals_accepted}
use Rattle.step.proofs.step_of_totals.Goals as goal

pub returns-in_err-span-clause-outcome : goal.returns-in_err-span-clause-outcome
unfolding answer_of
returns-in_err-span-clause-outcome c =
    let told = rw c.view.ensures at c.in_err-span.ensures.number_is in
    let p = err_from_is_err_and c.from_residual.result c.from_residual.ensures.1 in
    let some = number_positive c.in_err-span.field-0.0 in
    rw (p.1, p.2) (refused_by (job_held c.args.job.now) (state_held c.args.state.now) _ _ told (λ z. omega arith))

pub mark-requires-clause-marks_in : goal.mark-requires-clause-marks_in
mark-requires-clause-marks_in c =
    let told = rw c.view.ensures at c.in_ok-span.ensures.decided in
    (marking (job_held c.args.job.now) (state_held c.args.state.now) _ told).0

pub mark-requires-clause-done_value : goal.mark-requires-clause-done_value
mark-requires-clause-done_value c =
    let told = rw c.view.ensures at c.in_ok-span.ensures.decided in
    (marking (job_held c.args.job.now) (state_held c.args.state.now) _ told).1

pub width_of-width-requires : goal.width_of-width-requires
width_of-width-requires c =
    let told = rw c.view.ensures at c.in_ok-span.ensures.decided in
    lists_in (job_held c.args.job.now) (state_held c.args.state.now) _ told

pub total_step-more-requires : goal.total_step-more-requires
total_step-more-requires c =
    let told = rw c.view.ensures at c.in_ok-span.ensures.decided in
    rw c.width_of-width.ensures.0 (totals_lent (job_held c.args.job.now) (state_held c.args.state.now) _ told c.requires)

pub raise-requires-clause-in_bounds : goal.raise-requires-clause-in_bounds
raise-requires-clause-in_bounds c =
    let told = rw c.view.ensures at c.in_ok-span.ensures.decided in
    rw c.total_step-more.ensures.kept.sent_kept (counting (job_held c.args.job.now) (state_held c.args.state.now) _ told 0 (omega arith)).0

pub raise-requires-clause-more_bound : goal.raise-requires-clause-more_bound
raise-requires-clause-more_bound c =
    let told = rw c.view.ensures at c.in_ok-span.ensures.decided in
    few_totals (job_held c.args.job.now) (state_held c.args.state.now) _ told c.requires
    (rw c.width_of-width.ensures.0 at c.total_step-more.ensures.moved)

pub returns-clause-outcome : goal.returns-clause-outcome
unfolding answer_of
returns-clause-outcome c =
    let told = rw c.view.ensures at c.in_ok-span.ensures.decided in
    let kept = c.total_step-more.ensures.kept in
    totals_accepted (job_held c.args.job.now) (state_held c.args.state.now) _ told c.requires
    (rw c.width_of-width.ensures.0 at c.total_step-more.ensures.moved)
    kept.known_kept kept.price_transit_kept (kept.done_kept ∙ c.mark.ensures.0)
    (c.raise.ensures ∙ ap (λ (l : List ℕ). sent_more l c.total_step-more.result) kept.sent_kept)
