-- `step_entries::copy_words` meets its contract. The invariant: the first i words of the entry are copied, and the others are as they were. Assumes nothing.
use mathlib.Core.Path.{ap, ◌∙◌}
use mathlib.Core.Bool.{cond}
use Prim.Native.Nat.{ℕ, ◌+◌, ◌-◌}
use native.Mathlib.Nat.{le_antisymm}
use lib.ListN.{get_or}
use Rattle.laws.proofs.Loops.{window}
use Rattle.model.specs.Spans.{in_span}
use Rattle.step_entries.proofs.copy_words.Goals as goal

pub returns : goal.returns
unfolding in_span
returns c =
    λ k. let inv = c.loop-i.invariant in
    inv.2 k
    ∙ ap (λ (x : ℕ). cond (window c.args.to x k) (get_or c.args.source.now (c.args.from + (k - c.args.to)) 0) (get_or c.args.words.now k 0))
    (le_antisymm inv.0 c.loop-i-test.false)
