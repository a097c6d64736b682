-- `settle_text::numbers::put_amount` meets its contract, by the sign. Assumes nothing.
use mathlib.Core.Path.{◌≡◌, ap, ◌∙◌}
use lib.IntN.{nat_abs}
use mir.Syntax.{w64}
use mir.Facts.{to_z-of_z}
use Rattle.laws.proofs.Signs.{below_zero, from_zero}
use Rattle.settle_text.proofs.Puts.{behind, reworded}
use Rattle.settle_text.proofs.Decimals.{signed_below, signed_from}
use Rattle.settle_text.proofs.numbers.put_amount.Goals as goal

pub returns-then-z-lt0 : goal.returns-then-z-lt0
returns-then-z-lt0 c =
    let sized : c.unsigned_abs-n.result ≡ nat_abs c.args.z =
    c.unsigned_abs-n.ensures.value ∙ ap nat_abs (to_z-of_z {w = w64} c.ranges.z) in
    let n = below_zero {w = w64} c.args.z c.ranges.z c.if-z-lt0.true in
    reworded (signed_below n.1 sized) (behind c.put_byte-next.ensures c.put_decimal.ensures)

pub returns : goal.returns
returns c =
    let sized : c.unsigned_abs-n.result ≡ nat_abs c.args.z =
    c.unsigned_abs-n.ensures.value ∙ ap nat_abs (to_z-of_z {w = w64} c.ranges.z) in
    let n = from_zero {w = w64} c.args.z c.ranges.z c.if-z-lt0.false in
    reworded (signed_from n.1 sized) c.put_decimal-2.ensures
