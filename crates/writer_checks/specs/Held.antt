-- What lent tables hold, in the format's words.
use Rattle.std.specs.Prelude.{ℕ, List}
use Rattle.format.specs.Job.{FileJob}
use Rattle.format.specs.Tables.{OfferTables, offer_tables, TallyTables, tally_tables, FileTables, file_tables, file_job_of}
use Rattle.file_blocks.specs.Due.{as_head}
use Rattle.writer_checks.specs.Rows.{NamesIn, HasNames, HasBags, Keyed, Finds}
use Rattle.writer_checks.specs.declared.Tables.{Tables}

-- The offers' tables,
abbrev pub offers_held : Tables → OfferTables
offers_held t = offer_tables t.price.now t.offer_owner.now t.offer_code.now t.offer_issuer.now

-- the tallies',
abbrev pub tallies_held : Tables → TallyTables
tallies_held t =
    tally_tables t.tally_grocer.now t.tally_box.now t.tally_code.now t.tally_count.now t.tally_issuer.now t.tally_bag.now
    t.tally_revision.now

-- and all of them.
abbrev pub held : Tables → FileTables
held t = file_tables (offers_held t) t.grocer_owner.now (tallies_held t)

-- The job that they hold.
abbrev pub job_held : Tables → FileJob
job_held t = file_job_of (as_head t.head) (held t)

-- The names in them can be looked up.
abbrev pub NamesHeld : Tables → Type 0
NamesHeld t = NamesIn (as_head t.head) t.offer_code.now t.offer_issuer.now t.tally_code.now t.tally_issuer.now

-- They hold a job's names,
abbrev pub HasNamesOf : FileJob → Tables → Type 0
HasNamesOf j t = HasNames j t.offer_code.now t.offer_issuer.now t.tally_code.now t.tally_issuer.now (as_head t.head)

-- and its tallies' grocers, bags and revisions.
abbrev pub HasBagsOf : FileJob → Tables → Type 0
HasBagsOf j t = HasBags j t.tally_grocer.now t.tally_bag.now t.tally_revision.now

-- This is the index of the names of a job's offers,
abbrev pub KeyedBy : FileJob → Tables → (keys order : List ℕ) → Type 0
KeyedBy j t keys order = Keyed j keys order t.tally_code.now t.tally_issuer.now t.head.sizes.offers t.head.sizes.tallies

-- and by it the tallies find their offers.
abbrev pub FindsBy : FileJob → Tables → (keys order : List ℕ) → Type 0
FindsBy j t keys order = Finds j keys order t.tally_code.now t.tally_issuer.now t.head.sizes.offers
