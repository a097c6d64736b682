-- `writer::block::put_header` meets its contract. Assumes nothing.
use mathlib.Core.Path.{refl}
use Rattle.format.specs.Blocks.{header_bytes}
use Rattle.file_blocks.specs.Due.{as_head}
use Rattle.writer.proofs.Made.{header_made}
use Rattle.writer.proofs.block.put_header.Goals as goal

pub returns : goal.returns
unfolding header_bytes
returns c =
    header_made (header_bytes (as_head c.args.head)) c.args.out.now _ _ _ refl c.requires.0 (rw c.number.ensures at c.put_four.ensures) c.put_sizes.ensures c.close_block.ensures
