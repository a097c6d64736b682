-- `book_places::totals_among` meets its contract. Assumes nothing.
use mathlib.Core.Path.{ap, ◌∙◌}
use Prim.Native.Nat.{ℕ, ◌≤◌}
use native.Mathlib.Omega.{arith}
use lib.Bits.{bit_and, and_le_r}
use lib.Count.{ones}
use Rattle.book_places.proofs.Starts.{ones_few, below-count}
use Rattle.book_places.proofs.totals_among.Goals as goal

pub returns : goal.returns
returns c =
    let few : ones (bit_and c.set_bit.result c.args.below) ≤ 16 =
    ones_few _ (omega (arith, and_le_r c.set_bit.result c.args.below, c.ranges.below.fits)) in
    (λ b l e. ap (λ (x : ℕ). ones (bit_and x c.args.below)) c.set_bit.ensures ∙ below-count c.args.owner c.args.word c.args.below b c.requires c.ranges.word.fits l e, few)
