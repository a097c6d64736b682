-- `writer::file::put_file` meets its contract. Assumes nothing.
use Rattle.file_blocks.specs.Due.{as_head}
use Rattle.writer_checks.specs.Held.{held}
use Rattle.writer.proofs.Written.{file_put}
use Rattle.writer.proofs.file.put_file.Goals as goal

pub returns : goal.returns
returns c =
    let x = c.args.tables.now in
    file_put (as_head x.head) (held x) c.args.out.now _ _ _ _ _ c.requires.room c.put_header.ensures
    (rw c.from-n.ensures at c.put_offer_blocks.ensures)
    (rw (c.grocers_at-k.ensures, c.from-m.ensures) at c.put_grocer_block.ensures)
    (rw (c.grocers_at-k.ensures, c.from-n.ensures, c.from-lists.ensures) at c.put_price_blocks.ensures)
    (rw (c.tallies_at.ensures, c.from-t.ensures) at c.put_tally_blocks.ensures)
