-- `late_checks::names::find_offer` meets its contract: at offer i none before it has the number. Assumes nothing.
use mathlib.Core.Path.{◌≡◌}
use mathlib.Core.Bool.{false}
use Prim.Native.Nat.{◌≤◌, ◌-◌}
use Rattle.laws.specs.Below.{any}
use Rattle.late_checks.specs.Named.{is_number}
use Rattle.late_checks.proofs.names.find_offer.Given as goal

abbrev pub invariant-loop-i : goal.invariant-loop-i
invariant-loop-i l =
    (l.i ≤ l.n) × (any l.i (is_number l.offer_code l.offer_issuer l.number) ≡ false)

abbrev pub decreases-loop-i : goal.decreases-loop-i
decreases-loop-i l =
    l.n - l.i
