-- `file_blocks::shape::header_refusal` meets its contract. Assumes nothing.
use Rattle.file_blocks.proofs.DueBlocks.{due_header}
use Rattle.file_blocks.proofs.shape.header_refusal.Goals as goal

pub not_due-requires-clause-due : goal.not_due-requires-clause-due
not_due-requires-clause-due c =
    due_header _

pub spare_used-requires-clause-due : goal.spare_used-requires-clause-due
spare_used-requires-clause-due c =
    due_header _
