-- The tables of a job and of a state as a contract names them: lent slices, at the call's begin and at its end.
use Rattle.std.specs.Prelude.{ℕ}
use Rattle.laws.specs.Lent.{Words, SignedWords, MutWords, MutSignedWords}
use Rattle.model.specs.Tables.{JobTables, job_tables, bag_tables, StateTables, state_tables}

-- The job's tables: K, M, N, T and the number of additional lists, and what the nine slices hold when the call begins. No call writes them.
abbrev pub bag_lent : (k m n t lists : ℕ) (price offer_owner grocer_owner tally_grocer tally_box tally_offer : Words) (tally_count : SignedWords)
    (tally_bag tally_revision : Words) → JobTables
bag_lent k m n t lists price offer_owner grocer_owner tally_grocer tally_box tally_offer tally_count tally_bag tally_revision =
    bag_tables k m n t lists price.entry.now offer_owner.entry.now grocer_owner.entry.now
    tally_grocer.entry.now tally_box.entry.now tally_offer.entry.now tally_count.entry.now tally_bag.entry.now tally_revision.entry.now

-- The same without bags and revisions, as inner calls are handed it.
abbrev pub job_lent : (k m n t lists : ℕ) (price offer_owner grocer_owner tally_grocer tally_box tally_offer : Words) (tally_count : SignedWords) → JobTables
job_lent k m n t lists price offer_owner grocer_owner tally_grocer tally_box tally_offer tally_count =
    job_tables k m n t lists price.entry.now offer_owner.entry.now grocer_owner.entry.now
    tally_grocer.entry.now tally_box.entry.now tally_offer.entry.now tally_count.entry.now

-- The state's tables: what the seven slices hold when the call begins,
abbrev pub state_before : (known price_transit : MutWords) (working total_transit statement : MutSignedWords) (done sent : MutWords) → StateTables
state_before known price_transit working total_transit statement done sent =
    state_tables known.entry.now price_transit.entry.now working.entry.now total_transit.entry.now
    statement.entry.now done.entry.now sent.entry.now

-- and when it ends.
abbrev pub state_after : (known price_transit : MutWords) (working total_transit statement : MutSignedWords) (done sent : MutWords) → StateTables
state_after known price_transit working total_transit statement done sent =
    state_tables known.exit.now price_transit.exit.now working.exit.now total_transit.exit.now
    statement.exit.now done.exit.now sent.exit.now
