-- What the reader's tables hold, as they are lent.
use Rattle.format.specs.Job.{Head, head_of}
use Rattle.format.specs.Tables.{FileTables, file_tables, offer_tables, tally_tables, ReaderTables, reader_tables}
use Rattle.late_checks.specs.declared.Tables.{Tables}

-- The head by the sizes; no refusal goes by the cycle.
abbrev pub head_held : Tables → Head
head_held t = head_of t.sizes.boxes t.sizes.grocers t.sizes.offers t.sizes.tallies 0 t.sizes.lists

-- The tables with codes,
abbrev pub file_held : Tables → FileTables
file_held t =
    file_tables (offer_tables t.price.now t.offer_owner.now t.offer_code.now t.offer_issuer.now) t.grocer_owner.now
    (tally_tables t.tally_grocer.now t.tally_box.now t.tally_code.now t.tally_count.now t.tally_issuer.now t.tally_bag.now
    t.tally_revision.now)

-- and with the places of the tallies' offers.
abbrev pub reader_held : Tables → ReaderTables
reader_held t = reader_tables (file_held t) t.tally_offer.now
