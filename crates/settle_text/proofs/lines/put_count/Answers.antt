-- `settle_text::lines::put_count` meets its contract. Assumes nothing.
use native.Mathlib.Omega.{arith}
use Rattle.settle_text.proofs.Decimals.{decimal_few, lined}
use Rattle.settle_text.proofs.lines.put_count.Goals as goal

pub put_byte-requires : goal.put_byte-requires
put_byte-requires c =
    omega (arith, c.put_bytes-named.ensures.next, c.put_byte-spaced.ensures.next, c.put_decimal-end.ensures.next, decimal_few 19 c.args.n (omega arith))

pub returns : goal.returns
returns c =
    lined c.put_bytes-named.ensures c.put_byte-spaced.ensures c.put_decimal-end.ensures c.put_byte.ensures
