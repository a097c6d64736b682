-- `file_blocks::fill::fill_counts` meets its contract. Assumes nothing.
use Rattle.std.proofs.Common.{rules, pos}
use Rattle.file_blocks.proofs.ByPlace.{filled_by}
use Rattle.file_blocks.proofs.RecordWords.{count_shift}
use Rattle.file_blocks.proofs.fill.fill_counts.Goals as goal

pub returns : goal.returns
returns c =
    filled_by (pos 0) _ c.fill_by.ensures c.requires.first_bound.2 c.fill_by.auto.table (λ i v l e. search (rules, count_shift))
