-- `writer::block::put_sizes` meets its contract. Assumes nothing.
use Rattle.writer.proofs.Made.{sizes_put}
use Rattle.writer.proofs.block.put_sizes.Goals as goal

pub returns : goal.returns
returns c =
    let h = c.args.head in
    sizes_put h.sizes.boxes h.sizes.grocers h.sizes.offers h.sizes.tallies h.cycle h.sizes.lists c.args.out.now _ _ _ c.requires.0
    (rw (c.from.ensures, c.from-2.ensures) at c.put_four.ensures)
    (rw (c.from-3.ensures, c.from-4.ensures, c.from-5.ensures) at c.put_words.ensures)
    (rw c.from-6.ensures at c.put_byte.ensures)
