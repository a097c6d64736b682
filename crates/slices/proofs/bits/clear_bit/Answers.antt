-- `slices::bits::clear_bit` meets its contract. Assumes nothing.
use mathlib.Core.Path.{ap}
use Prim.Native.Nat.{ℕ, ◌-◌, ◌^◌}
use lib.Bits.{bit_and}
use Rattle.laws.specs.Masks.{without}
use Rattle.laws.proofs.Masks.{shl_one}
use Rattle.slices.proofs.bits.clear_bit.Goals as goal

pub returns : goal.returns
unfolding without
returns c =
    ap (λ (x : ℕ). bit_and c.args.word ((2 ^ 16 - 1) - x)) (shl_one c.args.b c.requires)
