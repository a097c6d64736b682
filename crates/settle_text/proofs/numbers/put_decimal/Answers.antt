-- `settle_text::numbers::put_decimal` meets its contract. Assumes nothing.
use mathlib.Core.Path.{◌≡◌, ap, ◌∙◌}
use native.Mathlib.Omega.{arith}
use lib.ListN.{length, take}
use Rattle.printing.specs.Printed.{decimal}
use Rattle.settle_text.proofs.Puts.{reworded}
use Rattle.settle_text.proofs.Decimals.{decimal_is, decimal_few}
use Rattle.settle_text.proofs.numbers.put_decimal.Goals as goal

-- The digits that are made are the number in decimal.
pub put_bytes-requires : goal.put_bytes-requires
put_bytes-requires c =
    let made : take c.decimal-k.result c.decimal-k.new.out ≡ decimal c.args.n =
    c.decimal-k.ensures.digits ∙ decimal_is c.args.n c.decimal-k.result c.decimal-k.ensures.len in
    omega (arith, ap length made, decimal_few 19 c.args.n (omega arith))

pub returns : goal.returns
returns c =
    reworded (c.decimal-k.ensures.digits ∙ decimal_is c.args.n c.decimal-k.result c.decimal-k.ensures.len) c.put_bytes.ensures
