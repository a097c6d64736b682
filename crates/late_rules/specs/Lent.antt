-- The tables of a job and of a state that a call only reads, as its contract names them: what the lent slices hold when it begins.
use Rattle.laws.specs.Lent.{Words, SignedWords}
use Rattle.model.specs.Tables.{StateTables, state_tables}
use Rattle.format.specs.Tables.{offer_tables, tally_tables, file_tables, ReaderTables, reader_tables}

-- The reader's tables, none of which the call writes (`reader_before` where it writes them),
abbrev pub reader_lent :
    (price offer_owner offer_code offer_issuer grocer_owner tally_grocer tally_box tally_code : Words) (tally_count : SignedWords)
    (tally_issuer tally_bag tally_revision tally_offer : Words) → ReaderTables
reader_lent price offer_owner offer_code offer_issuer grocer_owner tally_grocer tally_box tally_code tally_count tally_issuer tally_bag tally_revision
    tally_offer =
    reader_tables
    (file_tables
    (offer_tables price.entry.now offer_owner.entry.now offer_code.entry.now offer_issuer.entry.now)
    grocer_owner.entry.now
    (tally_tables tally_grocer.entry.now tally_box.entry.now tally_code.entry.now tally_count.entry.now tally_issuer.entry.now
    tally_bag.entry.now tally_revision.entry.now))
    tally_offer.entry.now

-- and the state's (`state_before` where it writes them).
abbrev pub state_lent : (known price_transit : Words) (working total_transit statement : SignedWords) (done sent : Words) → StateTables
state_lent known price_transit working total_transit statement done sent =
    state_tables known.entry.now price_transit.entry.now working.entry.now total_transit.entry.now
    statement.entry.now done.entry.now sent.entry.now
