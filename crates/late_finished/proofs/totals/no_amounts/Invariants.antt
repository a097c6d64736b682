-- `late_finished::totals::no_amounts` meets its contract: at amount i those before it are tested. Assumes nothing.
use mathlib.Core.Path.{◌≡◌}
use Prim.Native.Nat.{◌≤◌}
use lib.ListN.{get_or}
use lib.IntN.{pos}
use Rattle.laws.specs.Below.{all}
use Rattle.late_rules.specs.Late.{same_amount}
use Rattle.late_finished.proofs.totals.no_amounts.Given as goal

abbrev pub invariant-loop-i : goal.invariant-loop-i
invariant-loop-i l =
    (l.i ≤ l.n) × (l.all ≡ all l.i (λ k. same_amount (get_or l.s k (pos 0)) (pos 0)))
