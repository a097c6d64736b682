-- `slices::bits::has_bit` meets its contract. Assumes nothing.
use Rattle.laws.proofs.Masks.{bit_test}
use Rattle.slices.proofs.bits.has_bit.Goals as goal

pub returns : goal.returns
returns c =
    bit_test c.args.b c.args.word
