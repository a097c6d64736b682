-- `writer::block::put_tally_block` meets its contract. Assumes nothing.
use native.Mathlib.Omega.{arith}
use Rattle.format.specs.Blocks.{tally_bytes}
use Rattle.format.specs.Tables.{tally_of}
use Rattle.writer_checks.specs.Held.{tallies_held}
use Rattle.writer.proofs.Made.{records_made}
use Rattle.writer.proofs.block.put_tally_block.Goals as goal

pub returns : goal.returns
returns c =
    let a = c.args in
    records_made 3 a.k a.t a.b _ (λ i. tally_bytes (tally_of (tallies_held a.tables.now) i)) a.out.now _ _ _
    (omega (arith, c.min-count.ensures)) (omega (arith, c.requires.t_bound)) (rw c.number.ensures at c.put_four.ensures) c.put_tallies.ensures c.close_block.ensures
