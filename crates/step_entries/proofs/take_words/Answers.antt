-- `step_entries::take_words` meets its contract. The invariant: the first i words of the entry are taken, and the others are as they were. Assumes nothing.
use mathlib.Core.Path.{ap, ◌∙◌}
use mathlib.Core.Bool.{cond}
use Prim.Native.Nat.{ℕ}
use native.Mathlib.Nat.{le_antisymm}
use lib.ListN.{get_or}
use Rattle.laws.proofs.Loops.{window}
use Rattle.model.specs.Spans.{in_span}
use Rattle.step_entries.proofs.take_words.Goals as goal

pub returns : goal.returns
unfolding in_span
returns c =
    let inv = c.loop-i.invariant in
    let end = le_antisymm inv.0 c.loop-i-test.false in (
      λ k. inv.3 k ∙ ap (λ (x : ℕ). cond (window c.args.at x k) (get_or c.args.transit.now k 0) (get_or c.args.known.now k 0)) end,
      λ k. inv.4 k ∙ ap (λ (x : ℕ). cond (window c.args.at x k) 0 (get_or c.args.transit.now k 0)) end,
    )
