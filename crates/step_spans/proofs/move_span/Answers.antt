-- `step_spans::move_span` meets its contract. The invariant: the span up to i is moved. Assumes nothing.
use mathlib.Core.Path.{refl, ◌∙◌}
use native.Mathlib.Omega.{arith}
use lib.IntN.{pos}
use lib.ListN.{length-set, get_or}
use Rattle.laws.proofs.Signed.{read64}
use Rattle.step_spans.proofs.Laws.{span_none, span_next, span_more}
use Rattle.step_spans.proofs.move_span.Goals as goal

pub loop-i-init : goal.loop-i-init
loop-i-init c =
    (omega arith, c.requires.0, refl, refl, span_none _ _ _, span_none _ _ _)

pub loop-i-preserved : goal.loop-i-preserved
loop-i-preserved c = (
  omega (arith, c.loop-i.invariant.0),
  omega arith,
  length-set c.loop-i.working c.loop-i.i (pos 0) ∙ c.loop-i.invariant.2,
  length-set c.loop-i.transit c.loop-i.i _ ∙ c.loop-i.invariant.3,
  span_more _ c.loop-i.i (λ k. pos 0) _ _ _ c.loop-i.invariant.4 c.loop-i.invariant.0 (omega (arith, c.requires.1)) refl,
  span_more _ c.loop-i.i _ _ _ _ c.loop-i.invariant.5 c.loop-i.invariant.0 (omega (arith, c.requires.2))
      (read64 (get_or c.loop-i.working c.loop-i.i (pos 0)) c.v-1.given ∙ span_next _ c.loop-i.i _ _ _ c.loop-i.invariant.4 (omega (arith, c.requires.1))),
)
