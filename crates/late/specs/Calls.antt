-- The calls of 02 §7 as their contracts name them: the answer, the tables when the call ends, and the added tally.
use Rattle.std.specs.Prelude.{List, ℕ, ℤ, Result, Ok, Err}
use Rattle.laws.specs.Lent.{Words, MutWords, MutSignedWords}
use Rattle.format.specs.Bytes.{from}
use Rattle.format.specs.Codes.{read_code}
use Rattle.format.specs.Job.{Head, head_of, Tally}
use Rattle.format.specs.Lent.{offers_lent}
use Rattle.format.specs.Tables.{tally_tables, file_tables, ReaderTables, reader_tables}
use Rattle.late_rules.specs.Late.{LateAnswer, edited, refused}
use Rattle.refusals.specs.declared.Refusal.{Refusal}
use Rattle.refusals.specs.Numbers.{number_of}
use Rattle.slices.specs.declared.sizes.Sizes.{Sizes}
use Rattle.late.specs.declared.Edited.{Edited}

-- The answer: T as it is now, words, messages and steps; or the number of the refusal.
unfoldable pub late_answer_of : Result Edited Refusal → LateAnswer
late_answer_of (Ok e) = edited e.tallies e.words e.messages e.steps
late_answer_of (Err r) = refused (number_of r)

-- The head of the job as a call is given it; no refusal goes by the cycle.
abbrev pub sizes_head : Sizes → Head
sizes_head z = head_of z.boxes z.grocers z.offers z.tallies 0 z.lists

-- The job's tables when the call begins: those of the offers and the grocers are lent to be read, those of the tallies to be written;
abbrev pub reader_first :
    (price offer_owner offer_code offer_issuer grocer_owner : Words) (tally_grocer tally_box tally_code : MutWords) (tally_count : MutSignedWords)
    (tally_issuer tally_bag tally_revision tally_offer : MutWords) → ReaderTables
reader_first price offer_owner offer_code offer_issuer grocer_owner tally_grocer tally_box tally_code tally_count tally_issuer tally_bag tally_revision
    tally_offer =
    reader_tables
    (file_tables (offers_lent price offer_owner offer_code offer_issuer) grocer_owner.entry.now
    (tally_tables tally_grocer.entry.now tally_box.entry.now tally_code.entry.now tally_count.entry.now tally_issuer.entry.now
    tally_bag.entry.now tally_revision.entry.now))
    tally_offer.entry.now

-- and when it ends: those of the tallies are written, the others are only read.
abbrev pub reader_then :
    (price offer_owner offer_code offer_issuer grocer_owner : Words) (tally_grocer tally_box tally_code : MutWords) (tally_count : MutSignedWords)
    (tally_issuer tally_bag tally_revision tally_offer : MutWords) → ReaderTables
reader_then price offer_owner offer_code offer_issuer grocer_owner tally_grocer tally_box tally_code tally_count tally_issuer tally_bag tally_revision
    tally_offer =
    reader_tables
    (file_tables (offers_lent price offer_owner offer_code offer_issuer) grocer_owner.entry.now
    (tally_tables tally_grocer.exit.now tally_box.exit.now tally_code.exit.now tally_count.exit.now tally_issuer.exit.now
    tally_bag.exit.now tally_revision.exit.now))
    tally_offer.exit.now

-- A tally by its numbers and the eleven bytes of its code.
abbrev pub tally_by : (grocer holder : ℕ) (code : List ℕ) (count : ℤ) (issuer bag revision : ℕ) → Tally
tally_by grocer holder code count issuer bag revision =
    record { grocer = grocer; box = holder; code = read_code (from code 0); count = count; issuer = issuer; bag = bag; revision = revision }
