-- `file_blocks::fill::fill_bytes` meets its contract. Assumes nothing.
use Rattle.std.proofs.Common.{rules}
use Rattle.file_blocks.proofs.ByPlace.{filled_by}
use Rattle.file_blocks.proofs.RecordWords.{word_shift}
use Rattle.file_blocks.proofs.fill.fill_bytes.Goals as goal

pub returns : goal.returns
returns c =
    filled_by 0 _ c.fill_by.ensures c.requires.first_bound.3 c.fill_by.auto.table (λ i v l e. search (rules, word_shift))
