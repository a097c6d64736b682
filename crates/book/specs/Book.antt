-- The local book of a box as the call gives it: its answer, and the five lent tables.
use Rattle.std.specs.Prelude.{Result, Ok, Err, cond, List, [], ℕ, zero, suc, eqb, length, get_or, ℤ, pos}
use Rattle.laws.specs.Tables.{overwrite}
use Rattle.laws.specs.Checks.{first_met}
use Rattle.laws.specs.Lent.{MutWords, MutSignedWords}
use Rattle.model.specs.Job.{Job}
use Rattle.model.specs.Tables.{JobTables, job_tables, job_of}
use Rattle.model.specs.LocalLists.{local_offers, local_grocers}
use Rattle.model.specs.Local.{start, starts, packed_grocers, packed_counts, BookLengths, book_refusals}
use Rattle.book_sort.specs.Sort.{in_front}
use Rattle.refusals.specs.declared.Refusal.{Refusal}
use Rattle.refusals.specs.Numbers.{number_of}
use Rattle.book.specs.declared.BookSizes.{BookSizes}

-- What the call says: how many local offers, local grocers and tallies the box has, or the number of a refusal.
pub data BookAnswer : Type 0 where
  book : (offers grocers tallies : ℕ) → BookAnswer
  refused : (number : ℕ) → BookAnswer

-- What each case of the answer says.
unfoldable pub said : Result BookSizes Refusal → BookAnswer
said (Ok sizes) = book sizes.offers sizes.grocers sizes.tallies
said (Err refusal) = refused (number_of refusal)

-- What is due: the first refusal that is met, or the numbers of the box.
unfoldable pub book_answer : ℕ → Job → ℕ → BookAnswer
book_answer zero j b = book (length (local_offers j b)) (length (local_grocers j b)) (start j b (length (local_offers j b)))
book_answer (suc n) j b = refused (suc n)

-- The five tables that the call is lent.
pub record BookTables : Type 0 where
  pub local_offers : List ℕ
  pub local_grocers : List ℕ
  pub starts : List ℕ
  pub packed_grocers : List ℕ
  pub packed_counts : List ℤ

-- The same, as a contract names them.
abbrev pub book_tables : List ℕ → List ℕ → List ℕ → List ℕ → List ℤ → BookTables
book_tables offers grocers starts packed_grocers packed_counts = record {
  local_offers = offers;
  local_grocers = grocers;
  starts = starts;
  packed_grocers = packed_grocers;
  packed_counts = packed_counts;
}

-- What they hold when the call begins,
abbrev pub book_before : (offers grocers starts packed_grocers : MutWords) (packed_counts : MutSignedWords) → BookTables
book_before offers grocers starts packed_grocers packed_counts =
    book_tables offers.entry.now grocers.entry.now starts.entry.now packed_grocers.entry.now packed_counts.entry.now

-- and when it ends.
abbrev pub book_after : (offers grocers starts packed_grocers : MutWords) (packed_counts : MutSignedWords) → BookTables
book_after offers grocers starts packed_grocers packed_counts =
    book_tables offers.exit.now grocers.exit.now starts.exit.now packed_grocers.exit.now packed_counts.exit.now

-- M, N and T alone.
abbrev pub book_sizes : ℕ → ℕ → ℕ → JobTables
book_sizes m n t = job_tables 0 m n t 0 [] [] [] [] [] [] []

-- The lengths of these tables, as a contract names them.
abbrev pub lengths : ℕ → ℕ → ℕ → ℕ → ℕ → BookLengths
lengths offers grocers starts packed_grocers packed_counts = record {
  local_offers = offers;
  local_grocers = grocers;
  starts = starts;
  packed_grocers = packed_grocers;
  packed_counts = packed_counts;
}

-- How many words of each are lent.
abbrev pub book_lengths : BookTables → BookLengths
book_lengths t = lengths (length t.local_offers) (length t.local_grocers) (length t.starts) (length t.packed_grocers) (length t.packed_counts)

-- The local matrix of box b written: each list in front of what stood in its table; words past what the box has stay.
unfoldable pub written : Job → ℕ → BookTables → BookTables
written j b t = record {
  local_offers = in_front (local_offers j b) t.local_offers;
  local_grocers = in_front (local_grocers j b) t.local_grocers;
  starts = in_front (starts j b) t.starts;
  packed_grocers = in_front (packed_grocers j b) t.packed_grocers;
  packed_counts = overwrite (length (packed_counts j b)) (λ i. get_or (packed_counts j b) i (pos 0)) t.packed_counts;
}

-- The answer of the call, and the five tables.
pub record BookOutcome : Type 0 where
  pub answer : BookAnswer
  pub tables : BookTables

-- The same, as a contract names it.
abbrev pub given : BookAnswer → BookTables → BookOutcome
given a t = record { answer = a; tables = t }

-- What the call gives, by the first refusal that is met: THE definition that its contract cites.
unfoldable pub booked : JobTables → ℕ → BookTables → BookOutcome
booked f b t =
    let n = first_met (book_refusals f (book_lengths t) b) in
    given (book_answer n (job_of f) b) (cond (eqb n 0) (written (job_of f) b t) t)
