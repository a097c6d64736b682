-- `file_blocks::shape::blocks_refusal` meets its contract. Assumes nothing.
use Prim.Native.Nat.{◌+◌, ◌-◌}
use mathlib.Core.Path.{◌≡◌}
use Rattle.format.specs.First.{first_below}
use Rattle.format.specs.Refusals.{block_refusal}
use Rattle.file_blocks.proofs.shape.blocks_refusal.Given as goal

abbrev pub invariant-loop-k : goal.invariant-loop-k
invariant-loop-k l =
    first_below (l.k - 1) (λ i. block_refusal l.f (1 + i)) ≡ 0
