-- `file_blocks::spares::any_used` meets its contract. Assumes nothing.
use Rattle.std.proofs.Common.{rules}
use Rattle.file_blocks.proofs.ByPlace.{tested_by}
use Rattle.file_blocks.proofs.spares.any_used.Goals as goal

pub returns : goal.returns
returns c =
    tested_by _ _ c.any_by.ensures (λ i b l e. search rules)
