-- `file_sums::half` meets its contract. The invariant: both sums are those of the first i bytes. Assumes nothing.
use mathlib.Core.Path.{refl}
use Prim.Native.Nat.{◌+◌}
use native.Mathlib.Omega.{arith}
use Rattle.laws.specs.Below.{naturals, sum}
use Rattle.laws.proofs.Sums.{sum_next_lem}
use Rattle.file_sums.proofs.half.Goals as goal

pub loop-i-init : goal.loop-i-init
unfolding sum naturals
loop-i-init c = (omega arith, omega arith, refl, refl)

pub loop-i-preserved : goal.loop-i-preserved
unfolding naturals
loop-i-preserved c =
    let v = c.loop-i.invariant in
    let p = c.weighed-second.ensures in (
      omega (arith, c.byte16-b.ensures, c.type_inv.f (c.args.at + c.loop-i.i)),
      omega (arith, p.1),
      rw (sum_next_lem, v.2, c.byte16-b.ensures),
      rw (sum_next_lem, v.3, p.0, c.byte16-b.ensures),
    )
