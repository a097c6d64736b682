-- `late_finished::prices::same_prices` meets its contract: at list q those before it are compared. Assumes nothing.
use mathlib.Core.Path.{◌≡◌}
use Prim.Native.Nat.{◌+◌, ◌*◌, ◌≤◌}
use lib.ListN.{get_or}
use lib.Dec.{eqb}
use Rattle.laws.specs.Below.{all}
use Rattle.late_finished.proofs.prices.same_prices.Given as goal

abbrev pub invariant-loop-q : goal.invariant-loop-q
invariant-loop-q l =
    (l.q ≤ l.width) × (l.all ≡ all l.q (λ k. eqb (get_or l.known (l.at + k) 0) (get_or l.price (k * l.n + l.o) 0)))
