-- `file_blocks::fill::fill_prices` meets its contract. Assumes nothing.
use Rattle.std.proofs.Common.{rules}
use Rattle.file_blocks.proofs.ByPlace.{filled_by}
use Rattle.file_blocks.proofs.RecordWords.{offer_price}
use Rattle.file_blocks.proofs.fill.fill_prices.Goals as goal

pub returns : goal.returns
returns c =
    filled_by 0 _ c.fill_by.ensures c.requires.n_bound.1 c.fill_by.auto.table (λ i v l e. search (rules, offer_price))
