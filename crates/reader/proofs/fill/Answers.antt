-- `reader::fill` meets its contract, by the calls that fill one table each. Assumes nothing.
use mathlib.Core.Path.{◌≡◌, ap, ◌∙◌}
use Rattle.format.specs.Blocks.{tallies_at}
use Rattle.format.specs.File.{decode}
use Rattle.file_blocks.proofs.Fields.{offer_codes, offer_issuers, tally_boxes, tally_codes, tally_issuers, tally_bags, tally_revisions}
use Rattle.reader.proofs.fill.Goals as goal

pub returns-clause-filled : goal.returns-clause-filled
returns-clause-filled c =
    let f = c.args.file.now.bytes.now in
    let p : c.tallies_at-first.result ≡ tallies_at (decode f).head = c.tallies_at-first.ensures ∙ ap tallies_at c.args.file.now.whole.says in
    let n = c.from-n.ensures in
    let t = c.from-t.ensures in
    record {
      price = c.fill_offers.ensures.price_after;
      owner = c.fill_offers.ensures.offer_owner_after;
      code = offer_codes f _ _ (rw n at c.fill_codes.ensures);
      issuer = offer_issuers f _ _ (rw n at c.fill_words.ensures);
      grocer_owner = c.fill_offers.ensures.grocer_owner_after;
      tally_grocer = c.fill_tallies.ensures.tally_grocer_after;
      tally_box = tally_boxes f _ _ p (rw t at c.fill_bytes.ensures);
      tally_code = tally_codes f _ _ p (rw t at c.fill_codes-2.ensures);
      tally_count = c.fill_tallies.ensures.tally_count_after;
      tally_issuer = tally_issuers f _ _ p (rw t at c.fill_words-2.ensures);
      tally_bag = tally_bags f _ _ p (rw t at c.fill_words-3.ensures);
      tally_revision = tally_revisions f _ _ p (rw t at c.fill_words-4.ensures);
      tally_offer = c.fill_tallies.ensures.tally_offer_after;
    }
