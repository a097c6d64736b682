-- `writer::block::put_offer_block` meets its contract. Assumes nothing.
use native.Mathlib.Omega.{arith}
use Rattle.format.specs.Blocks.{offer_bytes}
use Rattle.format.specs.Tables.{offer_of}
use Rattle.writer_checks.specs.Held.{offers_held}
use Rattle.writer.proofs.Made.{records_made}
use Rattle.writer.proofs.block.put_offer_block.Goals as goal

pub returns : goal.returns
returns c =
    let a = c.args in
    records_made 1 1 a.n a.b _ (λ i. offer_bytes (offer_of (offers_held a.tables.now) i)) a.out.now _ _ _
    (omega (arith, c.min-count.ensures)) (omega (arith, c.requires.n_bound)) (rw c.number.ensures at c.put_four.ensures) c.put_offers.ensures c.close_block.ensures
