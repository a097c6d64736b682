-- `file_blocks::look::index_offers` meets its contract. Assumes nothing.
use Rattle.laws.proofs.Tables.{filled_right}
use Rattle.file_blocks.proofs.look.index_offers.Goals as goal

pub returns : goal.returns
returns c =
    record { numbers = _; index = rw c.from-n.ensures at c.build.ensures; right = filled_right 0 _ _ _ _ c.fill_names.ensures }
