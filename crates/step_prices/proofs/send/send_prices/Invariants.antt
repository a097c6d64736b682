-- `step_prices::send::send_prices` meets its contract. The invariant: the words of the offers before place i of the list are in transit. Assumes nothing.
use mathlib.Core.Path.{◌≡◌}
use mathlib.Core.Bool.{Bool, cond}
use Prim.Native.Nat.{ℕ, ◌≤◌, ◌+◌, ◌-◌}
use lib.ListN.{length, get_or}
use Rattle.laws.specs.Listed.{Listed}
use Rattle.step_prices.proofs.Words.{stored}
use Rattle.step_prices.proofs.send.send_prices.Given as goal

abbrev pub invariant-loop-i : goal.invariant-loop-i
invariant-loop-i l =
    (l.from ≤ l.i)
    × (l.i ≤ l.to)
    × (length l.transit ≡ length l.initial.transit)
    × ((passes : ℕ → Bool) → Listed l.n passes l.from l.to l.offers → (k : ℕ) →
    get_or l.transit k 0 ≡ cond (stored l.n l.width passes l.from l.receiver l.i k) (get_or l.known (l.sender + (k - l.receiver)) 0) (get_or l.initial.transit k 0))
