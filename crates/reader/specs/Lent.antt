-- What the reader's lent tables hold, in the format's words; and that a call leaves them the slices that they were.
use Rattle.std.specs.Prelude.{◌≡◌}
use Rattle.format.specs.Tables.{ReaderTables, offer_tables, tally_tables, file_tables, reader_tables}
use Rattle.reader.specs.declared.Tables.{Tables}

-- What the tables hold.
abbrev pub held : Tables → ReaderTables
held t =
    reader_tables
    (file_tables
    (offer_tables t.price.now t.offer_owner.now t.offer_code.now t.offer_issuer.now)
    t.grocer_owner.now
    (tally_tables t.tally_grocer.now t.tally_box.now t.tally_code.now t.tally_count.now t.tally_issuer.now t.tally_bag.now t.tally_revision.now))
    t.tally_offer.now

-- The thirteen slices are the same memory before and after: only what stands in them may differ.
pub record SameSlices (before after : Tables) : Type 0 where
  pub price : after.price.ghost_name ≡ before.price.ghost_name
  pub offer_owner : after.offer_owner.ghost_name ≡ before.offer_owner.ghost_name
  pub offer_code : after.offer_code.ghost_name ≡ before.offer_code.ghost_name
  pub offer_issuer : after.offer_issuer.ghost_name ≡ before.offer_issuer.ghost_name
  pub grocer_owner : after.grocer_owner.ghost_name ≡ before.grocer_owner.ghost_name
  pub tally_grocer : after.tally_grocer.ghost_name ≡ before.tally_grocer.ghost_name
  pub tally_box : after.tally_box.ghost_name ≡ before.tally_box.ghost_name
  pub tally_code : after.tally_code.ghost_name ≡ before.tally_code.ghost_name
  pub tally_count : after.tally_count.ghost_name ≡ before.tally_count.ghost_name
  pub tally_issuer : after.tally_issuer.ghost_name ≡ before.tally_issuer.ghost_name
  pub tally_bag : after.tally_bag.ghost_name ≡ before.tally_bag.ghost_name
  pub tally_revision : after.tally_revision.ghost_name ≡ before.tally_revision.ghost_name
  pub tally_offer : after.tally_offer.ghost_name ≡ before.tally_offer.ghost_name
