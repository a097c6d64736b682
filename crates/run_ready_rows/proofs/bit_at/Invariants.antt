-- `run_ready_rows::bit_at` meets its contract: at bit b, what is left to pass and the bits before it make c. Assumes nothing.
use mathlib.Core.Path.{◌≡◌}
use Prim.Native.Nat.{◌+◌}
use Rattle.laws.specs.Below.{count}
use Rattle.laws.specs.Masks.{bit}
use Rattle.run_ready_rows.proofs.bit_at.Given as goal

abbrev pub invariant-loop-b : goal.invariant-loop-b
invariant-loop-b l =
    (l.left + count l.b (λ i. bit i l.word) ≡ l.c)
