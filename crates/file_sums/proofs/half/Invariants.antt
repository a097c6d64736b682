-- `file_sums::half` meets its contract. The invariant: both sums are those of the first i bytes. Assumes nothing.
use mathlib.Core.Path.{◌≡◌}
use Prim.Native.Nat.{◌≤◌, ◌*◌, ◌-◌}
use Rattle.laws.specs.Below.{naturals, sum}
use Rattle.format.specs.Bytes.{from}
use Rattle.file_sums.proofs.half.Given as goal

abbrev pub invariant-loop-i : goal.invariant-loop-i
invariant-loop-i l =
    (l.first ≤ 255 * l.i) × (l.second ≤ 64770 * l.i) × (l.first ≡ sum naturals l.i (from l.f l.at)) × (l.second ≡ sum naturals l.i (λ p. (254 - p) * from l.f l.at p))
