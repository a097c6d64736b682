-- `step_refusal::tables_refusal` meets its contract: each number is that of the first condition that is met. Assumes nothing.
use mathlib.Core.Path.{refl, ap₂, ◌∙◌}
use Prim.Native.Nat.{ℕ, ◌*◌}
use Rattle.std.proofs.lemmas.Result.{err_from_is_err_and}
use Rattle.refusals.proofs.Numbers.{number_positive}
use Rattle.tables.specs.Lent.{job_held, state_viewed}
use Rattle.step_refusal.proofs.Told.{early_met, grocers_placed, few_lists, grocers_counted, packed_met, none_met}
use Rattle.step_refusal.proofs.tables_refusal.Goals as goal

pub returns-in_err-early_refusal-clause-number_is : goal.returns-in_err-early_refusal-clause-number_is
returns-in_err-early_refusal-clause-number_is c =
    let p = err_from_is_err_and c.from_residual.result c.from_residual.ensures.1 in
    rw (p.1, p.2) (early_met (job_held c.args.job.now) (state_viewed c.args.state.now) _ _ (c.in_err-early_refusal.ensures _ _) (number_positive _))

pub sharers-sharing-requires : goal.sharers-sharing-requires
sharers-sharing-requires c =
    grocers_placed (job_held c.args.job.now) (state_viewed c.args.state.now) _ (c.in_ok-early_refusal.ensures _ _)

pub box_start-places-requires : goal.box_start-places-requires
box_start-places-requires c =
    rw c.from.ensures (grocers_counted (job_held c.args.job.now) (state_viewed c.args.state.now) _ (c.in_ok-early_refusal.ensures _ _) _ c.sharers-sharing.ensures)

pub width_of-requires : goal.width_of-requires
width_of-requires c =
    few_lists (job_held c.args.job.now) (state_viewed c.args.state.now) _ (c.in_ok-early_refusal.ensures _ _)

pub returns-in_err-packed_refusal-clause-number_is : goal.returns-in_err-packed_refusal-clause-number_is
returns-in_err-packed_refusal-clause-number_is c =
    let p = err_from_is_err_and c.from_residual-in_err-packed_refusal.result c.from_residual-in_err-packed_refusal.ensures.1 in
    let words_are = c.words_at-words.ensures.0 ∙ ap₂ (λ (x y : ℕ). x * y) (c.from-2.ensures ∙ rw c.from.ensures at c.box_start-places.ensures.0) c.width_of.ensures.0 in
    rw (p.1, p.2) (packed_met (job_held c.args.job.now) (state_viewed c.args.state.now) _ (c.in_ok-early_refusal.ensures _ _) _ c.sharers-sharing.ensures _ _ words_are c.in_err-packed_refusal.ensures)

pub returns-clause-number_is : goal.returns-clause-number_is
returns-clause-number_is c =
    let words_are = c.words_at-words.ensures.0 ∙ ap₂ (λ (x y : ℕ). x * y) (c.from-2.ensures ∙ rw c.from.ensures at c.box_start-places.ensures.0) c.width_of.ensures.0 in
    packed_met (job_held c.args.job.now) (state_viewed c.args.state.now) _ (c.in_ok-early_refusal.ensures _ _) _ c.sharers-sharing.ensures _ _ words_are c.in_ok-packed_refusal.ensures

pub returns-clause-tested : goal.returns-clause-tested
returns-clause-tested c =
    let words_are = c.words_at-words.ensures.0 ∙ ap₂ (λ (x y : ℕ). x * y) (c.from-2.ensures ∙ rw c.from.ensures at c.box_start-places.ensures.0) c.width_of.ensures.0 in
    none_met (job_held c.args.job.now) (state_viewed c.args.state.now) _ (c.in_ok-early_refusal.ensures _ _) _ c.sharers-sharing.ensures _ _ words_are c.in_ok-packed_refusal.ensures refl
