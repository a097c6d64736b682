-- `file_blocks::tables::fill_offers` meets its contract, by the calls that fill one table each. Assumes nothing.
use Rattle.file_blocks.proofs.Fields.{offer_owners_lem}
use Rattle.file_blocks.proofs.tables.fill_offers.Goals as goal

pub returns : goal.returns
returns c =
    record {
      price_after = c.fill_lists.ensures;
      offer_owner_after = offer_owners_lem c.args.file.now.bytes.now _ _ (rw c.from-n.ensures at c.fill_bytes.ensures);
      grocer_owner_after = c.fill_owners.ensures;
    }
