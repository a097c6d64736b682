-- `late_finished::prices::right_known` meets its contract: at box b the rows before it are tested. Assumes nothing.
use mathlib.Core.Path.{◌≡◌}
use Prim.Native.Nat.{◌≤◌}
use Rattle.laws.specs.Below.{all}
use Rattle.late_finished.specs.Tests.{right_row}
use Rattle.late_finished.proofs.prices.right_known.Given as goal

abbrev pub invariant-loop-b : goal.invariant-loop-b
invariant-loop-b l =
    (l.b ≤ l.k) × (l.all ≡ all l.b (right_row l.n l.width l.price l.offer_owner l.needs l.known))
