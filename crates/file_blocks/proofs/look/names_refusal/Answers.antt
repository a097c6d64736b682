-- `file_blocks::look::names_refusal` meets its contract. Assumes nothing.
use Rattle.file_blocks.proofs.look.names_refusal.Goals as goal

pub returns : goal.returns
returns c =
    c.indexed_refusal.ensures
