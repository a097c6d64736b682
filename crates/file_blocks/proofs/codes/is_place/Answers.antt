-- `file_blocks::codes::is_place` meets its contract. Assumes nothing.
use Rattle.laws.proofs.Bools.{cond_or}
use Rattle.file_blocks.proofs.codes.is_place.Goals as goal

pub returns : goal.returns
returns c =
    cond_or c.args.k c.args.n _ _
