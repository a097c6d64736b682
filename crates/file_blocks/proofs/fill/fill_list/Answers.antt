-- `file_blocks::fill::fill_list` meets its contract. Assumes nothing.
use Rattle.std.proofs.Common.{rules}
use Rattle.file_blocks.proofs.ByPlace.{filled_part}
use Rattle.file_blocks.proofs.fill.fill_list.Goals as goal

pub returns : goal.returns
returns c =
    filled_part _ _ c.fill_by.ensures c.requires.first_bound.3 c.fill_by.auto.table (λ i v l e. search rules)
