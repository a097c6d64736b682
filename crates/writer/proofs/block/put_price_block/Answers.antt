-- `writer::block::put_price_block` meets its contract. Assumes nothing.
use native.Mathlib.Omega.{arith}
use Rattle.writer.proofs.Made.{prices_made}
use Rattle.writer.proofs.block.put_price_block.Goals as goal

pub returns : goal.returns
returns c =
    let a = c.args in
    prices_made a.number a.n a.b _ a.from a.price.now a.out.now _ _ _ (omega (arith, c.min-count.ensures)) (omega (arith, c.requires.n_bound)) (rw c.number.ensures at c.put_four.ensures) c.put_prices.ensures c.close_block.ensures
