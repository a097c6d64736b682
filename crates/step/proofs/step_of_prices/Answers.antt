-- `step::step_of_prices` meets its contract: refused under a number, or applied. Assumes nothing.
use mathlib.Core.Path.{ap, ◌∙◌}
use mathlib.Core.List.{List}
use Prim.Native.Nat.{ℕ}
use native.Mathlib.Omega.{arith}
use Rattle.std.proofs.lemmas.Result.{err_from_is_err_and}
use Rattle.refusals.proofs.Numbers.{number_positive}
use Rattle.tables.specs.Lent.{job_held, state_held}
use Rattle.step_apply.specs.Apply.{sent_more}
use Rattle.step.specs.Answer.{answer_of}
use Rattle.step.proofs.Zero.{refused_by}
use Rattle.step.proofs.Sides.{marking, counting, prices_lent, offers_listed, few_prices, prices_accepted}
use Rattle.step.proofs.step_of_prices.Goals as goal

pub returns-in_err-span-clause-outcome : goal.returns-in_err-span-clause-outcome
unfolding answer_of
returns-in_err-span-clause-outcome c =
    let told = rw c.view.ensures at c.in_err-span.ensures.number_is in
    let p = err_from_is_err_and c.from_residual.result c.from_residual.ensures.1 in
    let some = number_positive c.in_err-span.field-0.0 in
    rw (p.1, p.2) (refused_by (job_held c.args.job.now) (state_held c.args.state.now) _ _ told (λ z. omega arith))

pub mark-requires-clause-marks_in : goal.mark-requires-clause-marks_in
mark-requires-clause-marks_in c =
    let told = rw c.view.ensures at c.in_ok-span.ensures.decided in
    (marking (job_held c.args.job.now) (state_held c.args.state.now) _ told).0

pub mark-requires-clause-done_value : goal.mark-requires-clause-done_value
mark-requires-clause-done_value c =
    let told = rw c.view.ensures at c.in_ok-span.ensures.decided in
    (marking (job_held c.args.job.now) (state_held c.args.state.now) _ told).1

pub move_prices-more-requires : goal.move_prices-more-requires
move_prices-more-requires c =
    let told = rw c.view.ensures at c.in_ok-span.ensures.decided in
    prices_lent (job_held c.args.job.now) (state_held c.args.state.now) _ told c.requires

pub raise-requires-clause-in_bounds : goal.raise-requires-clause-in_bounds
raise-requires-clause-in_bounds c =
    let told = rw c.view.ensures at c.in_ok-span.ensures.decided in
    rw c.move_prices-more.ensures.kept.sent_kept (counting (job_held c.args.job.now) (state_held c.args.state.now) _ told 0 (omega arith)).0

pub raise-requires-clause-more_bound : goal.raise-requires-clause-more_bound
raise-requires-clause-more_bound c =
    let told = rw c.view.ensures at c.in_ok-span.ensures.decided in
    let f = job_held c.args.job.now in
    let t = state_held c.args.state.now in
    few_prices f t _ told c.requires
    (c.move_prices-more.ensures.moved _ (offers_listed f t _ told c.requires))

pub returns-clause-outcome : goal.returns-clause-outcome
unfolding answer_of
returns-clause-outcome c =
    let told = rw c.view.ensures at c.in_ok-span.ensures.decided in
    let f = job_held c.args.job.now in
    let t = state_held c.args.state.now in
    let kept = c.move_prices-more.ensures.kept in
    prices_accepted f t _ told c.requires
    (c.move_prices-more.ensures.moved _ (offers_listed f t _ told c.requires))
    kept.total_transit_kept kept.statement_kept (kept.done_kept ∙ c.mark.ensures.0)
    (c.raise.ensures ∙ ap (λ (l : List ℕ). sent_more l c.move_prices-more.result) kept.sent_kept)
