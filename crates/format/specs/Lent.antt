-- The tables of a job with its codes as a contract names them: lent slices, at the call's begin and at its end.
use Rattle.laws.specs.Lent.{Words, SignedWords, MutWords, MutSignedWords}
use Rattle.format.specs.Tables.{OfferTables, offer_tables, TallyTables, tally_tables, FileTables, file_tables, ReaderTables, reader_tables}

-- The offers' tables when the call begins,
abbrev pub offers_lent : (price owner code issuer : Words) → OfferTables
offers_lent price owner code issuer = offer_tables price.entry.now owner.entry.now code.entry.now issuer.entry.now

-- the tallies',
abbrev pub tallies_lent : (grocer box code : Words) (count : SignedWords) (issuer bag revision : Words) → TallyTables
tallies_lent grocer box code count issuer bag revision =
    tally_tables grocer.entry.now box.entry.now code.entry.now count.entry.now issuer.entry.now bag.entry.now
    revision.entry.now

-- and all of them.
abbrev pub file_lent :
    (price offer_owner offer_code offer_issuer grocer_owner tally_grocer tally_box tally_code : Words) (tally_count : SignedWords)
    (tally_issuer tally_bag tally_revision : Words) → FileTables
file_lent price offer_owner offer_code offer_issuer grocer_owner tally_grocer tally_box tally_code tally_count tally_issuer tally_bag tally_revision =
    file_tables (offers_lent price offer_owner offer_code offer_issuer) grocer_owner.entry.now
    (tallies_lent tally_grocer tally_box tally_code tally_count tally_issuer tally_bag tally_revision)

-- The reader's tables when the call begins
abbrev pub reader_before :
    (price offer_owner offer_code offer_issuer grocer_owner tally_grocer tally_box tally_code : MutWords) (tally_count : MutSignedWords)
    (tally_issuer tally_bag tally_revision tally_offer : MutWords) → ReaderTables
reader_before price offer_owner offer_code offer_issuer grocer_owner tally_grocer tally_box tally_code tally_count tally_issuer tally_bag tally_revision
    tally_offer =
    reader_tables
    (file_tables
    (offer_tables price.entry.now offer_owner.entry.now offer_code.entry.now offer_issuer.entry.now)
    grocer_owner.entry.now
    (tally_tables tally_grocer.entry.now tally_box.entry.now tally_code.entry.now tally_count.entry.now tally_issuer.entry.now
    tally_bag.entry.now tally_revision.entry.now))
    tally_offer.entry.now

-- and when it ends.
abbrev pub reader_after :
    (price offer_owner offer_code offer_issuer grocer_owner tally_grocer tally_box tally_code : MutWords) (tally_count : MutSignedWords)
    (tally_issuer tally_bag tally_revision tally_offer : MutWords) → ReaderTables
reader_after price offer_owner offer_code offer_issuer grocer_owner tally_grocer tally_box tally_code tally_count tally_issuer tally_bag tally_revision
    tally_offer =
    reader_tables
    (file_tables
    (offer_tables price.exit.now offer_owner.exit.now offer_code.exit.now offer_issuer.exit.now)
    grocer_owner.exit.now
    (tally_tables tally_grocer.exit.now tally_box.exit.now tally_code.exit.now tally_count.exit.now tally_issuer.exit.now
    tally_bag.exit.now tally_revision.exit.now))
    tally_offer.exit.now
