-- `late_finished::totals::right_amounts` meets its contract: at grocer g those before it are compared. Assumes nothing.
use mathlib.Core.Path.{◌≡◌}
use Prim.Native.Nat.{◌+◌, ◌*◌, ◌≤◌}
use lib.IntN.{pos}
use lib.ListN.{get_or}
use Rattle.laws.specs.Below.{all}
use Rattle.late_rules.specs.Late.{same_amount}
use Rattle.late_finished.proofs.totals.right_amounts.Given as goal

abbrev pub invariant-loop-g : goal.invariant-loop-g
invariant-loop-g l =
    (l.g ≤ l.m) × (l.all ≡ all l.g (λ k. same_amount (get_or l.statement (k * l.width + l.q) (pos 0)) (get_or l.sums k (pos 0))))
