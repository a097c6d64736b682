-- `file_blocks::plan::read_head` meets its contract. Assumes nothing.
use Rattle.format.specs.File.{read_head, decode}
use Rattle.file_blocks.proofs.plan.read_head.Goals as goal

pub returns : goal.returns
unfolding decode read_head
returns c =
    rw (c.byte16.ensures, c.narrow16.ensures, c.narrow16-2.ensures, c.narrow16-3.ensures, c.byte16-2.ensures, c.narrow16-4.ensures)
