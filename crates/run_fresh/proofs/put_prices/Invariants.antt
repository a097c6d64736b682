-- `run_fresh::put_prices` meets its contract. The invariant: the words of the first q lists are written, and the others are as they were. Assumes nothing.
use mathlib.Core.Path.{◌≡◌}
use mathlib.Core.Bool.{cond}
use Prim.Native.Nat.{ℕ, ◌+◌, ◌-◌, ◌*◌}
use lib.ListN.{get_or}
use Rattle.laws.proofs.Loops.{window}
use Rattle.run_fresh.proofs.put_prices.Given as goal

abbrev pub invariant-loop-q : goal.invariant-loop-q
invariant-loop-q l =
    (k : ℕ) → get_or l.known k 0 ≡ cond (window l.at l.q k) (get_or l.price ((k - l.at) * l.n + l.o) 0) (get_or l.initial.known k 0)
