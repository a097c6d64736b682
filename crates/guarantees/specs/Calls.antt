-- What the other calls give: the local book, the tables of words between boxes, and the reconciliation desk.
use Rattle.std.specs.Prelude.{◌≡◌, ◌⊎◌, true, false, List, ℕ, ◌+◌, ◌^◌, ◌<◌, ◌≤◌, eqb, ℤ, pos, nat_abs, get_or, length}
use Rattle.std.specs.Int.Count.{ones}
use Rattle.laws.specs.Below.{naturals, sum, only}
use Rattle.laws.specs.Checks.{first_met}
use Rattle.laws.specs.Masks.{without}
use Rattle.laws.specs.Tables.{tabulate, cell_at}
use Rattle.laws.specs.Limits.{max_count, max_amount, max_sent}
use Rattle.model.specs.Job.{Job, need_word, sharer_word, plain_sum}
use Rattle.model.specs.Words.{owner_words}
use Rattle.recount.specs.Recount.{counted_twice}
use Rattle.model.specs.Tables.{JobTables, counted_of, job_of}
use Rattle.model.specs.Ranges.{job_in_range}
use Rattle.model.specs.LocalLists.{local_offers, local_grocers}
use Rattle.model.specs.Local.{start, starts, packed, packed_grocers, packed_counts}
use Rattle.model.specs.Local.{BookLengths, book_refusals, price_table, total_table, job_refusals}
use Rattle.model.specs.Reconcile.{TallyRecord, owed, reconciled}
use Rattle.message_tables.specs.Sums.{row_sum, column_sum, table_sum}
use Rattle.message_tables.specs.Answers.{made, tables_given, message_tables}
use Rattle.book.specs.Book.{BookTables, book_lengths, booked}
use Rattle.desk.specs.Records.{tally_record}

-- Where the two tables of a job have 0, and what they sum to.
pub record TableSums (j : Job) : Type 0 where
  -- Boxes from K on have 0, as senders and as receivers,
  pub past : (a b : ℕ) → a < 16 → b < 16 → (j.boxes ≤ a) ⊎ (j.boxes ≤ b) → (cell_at (price_table j) a b ≡ 0) × (cell_at (total_table j) a b ≡ 0)
  -- and a box to itself has 0.
  pub self : (a : ℕ) → a < 16 → (cell_at (price_table j) a a ≡ 0) × (cell_at (total_table j) a a ≡ 0)
  -- A box's row of the price table sums to the ones in the need words of its own offers, the owner's bit left out;
  pub row : (a : ℕ) → a < 16 →
      row_sum (price_table j) a
      ≡ sum naturals j.offers (λ o. only naturals (eqb (j.offer_owner o) a) (ones (without (j.offer_owner o) (need_word j o))))
  -- its column of the totals table sums likewise over the sharers of its own grocers.
  pub column : (b : ℕ) → b < 16 →
      column_sum (total_table j) b
      ≡ sum naturals j.grocers (λ g. only naturals (eqb (j.grocer_owner g) b) (ones (without (j.grocer_owner g) (sharer_word j g))))
  -- Both tables together have the words of the job by the owner tables.
  pub whole : table_sum (price_table j) + table_sum (total_table j) ≡ owner_words j

-- Every word of the local book of box b is in its range.
pub record BookInRange (f : JobTables) (b : ℕ) : Type 0 where
  -- There are at most N local offers, each below N;
  pub few_offers : length (local_offers (job_of f) b) ≤ f.offers
  pub offers_below : (i : ℕ) → i < length (local_offers (job_of f) b) → get_or (local_offers (job_of f) b) i 0 < f.offers
  -- at most M local grocers, each below M;
  pub few_grocers : length (local_grocers (job_of f) b) ≤ f.grocers
  pub grocers_below : (i : ℕ) → i < length (local_grocers (job_of f) b) → get_or (local_grocers (job_of f) b) i 0 < f.grocers
  -- one start more than local offers, each at most T;
  pub starts_more : length (starts (job_of f) b) ≡ length (local_offers (job_of f) b) + 1
  pub starts_most : (i : ℕ) → i < length (starts (job_of f) b) → get_or (starts (job_of f) b) i 0 ≤ f.tallies
  -- at most T packed tallies: the grocer of each is the number of a local grocer,
  pub few_packed : (length (packed_grocers (job_of f) b) ≤ f.tallies) × (length (packed_counts (job_of f) b) ≤ f.tallies)
  pub packed_local : (i : ℕ) → i < length (packed_grocers (job_of f) b) → get_or (packed_grocers (job_of f) b) i 0 < length (local_grocers (job_of f) b)
  -- and its count is within ±99,999.
  pub counts_within : (i : ℕ) → i < length (packed_counts (job_of f) b) → nat_abs (get_or (packed_counts (job_of f) b) i (pos 0)) ≤ max_count

-- Every word of the two tables of a job, and of their answer, is in its range.
pub record MessagesInRange (j : Job) : Type 0 where
  -- A message of prices has at most N words, one of totals at most M,
  pub prices : (a b : ℕ) → a < 16 → b < 16 → cell_at (price_table j) a b ≤ j.offers
  pub totals : (a b : ℕ) → a < 16 → b < 16 → cell_at (total_table j) a b ≤ j.grocers
  -- so each count fits a word of 16 bits.
  pub fits : (a b : ℕ) → a < 16 → b < 16 → (cell_at (price_table j) a b < 2 ^ 16) × (cell_at (total_table j) a b < 2 ^ 16)
  -- The words of the job are at most 1,000,000.
  pub words : owner_words j ≤ max_sent

-- A job's tallies as a list of records, superseded ones among them.
unfoldable pub job_records : JobTables → List TallyRecord
job_records f =
    tabulate f.tallies (λ t. tally_record (get_or f.tally_grocer t 0) (get_or f.tally_box t 0) (get_or f.tally_offer t 0) (get_or f.tally_count t (pos 0))
    (get_or f.tally_bag t 0) (get_or f.tally_revision t 0))

-- What these calls come to, beside their refusals (`Demand1`).
pub record Calls : Type 0 where
  -- "Floor staff lay two boxes' books side by side" (02 §4): the book has one form. Calls for equal jobs, whatever tables hold them,
  -- give equal books, in the answer and in all words of the five tables.
  pub same_books : (f f' : JobTables) (b : ℕ) (t : BookTables) → job_of f ≡ job_of f' →
      first_met (book_refusals f (book_lengths t) b) ≡ 0 → first_met (book_refusals f' (book_lengths t) b) ≡ 0 → booked f b t ≡ booked f' b t
  -- The packed lists have as many words as the last start says.
  pub packed_whole : (f : JobTables) (n : BookLengths) (b : ℕ) → first_met (book_refusals f n b) ≡ 0 →
      length (packed (job_of f) b) ≡ start (job_of f) b (length (local_offers (job_of f) b))
  -- Where it is not refused, `message_tables` answers the words of the job, and leaves its two tables, whatever they held.
  pub message_tables : (f : JobTables) (p t : List (List ℕ)) → first_met (job_refusals f) ≡ 0 →
      message_tables f p t ≡ tables_given (made (owner_words (job_of f))) (price_table (job_of f)) (total_table (job_of f))
  -- Of every job in range these have 0 where they should, and sum to the ones in need and sharer words and to the words of the job.
  pub table_sums : (f : JobTables) → job_in_range f ≡ true → TableSums (job_of f)
  -- Handed the tallies and prices of a job in range in which no bag is counted twice as one revision, the desk answers the plain sum of every grocer.
  pub desk_sum : (f : JobTables) → job_in_range f ≡ true → counted_twice (counted_of f) ≡ false → f.offers ≤ length f.price → (g : ℕ) → g < f.grocers →
      reconciled f.grocers f.offers g f.price (job_records f) ≡ owed (plain_sum (job_of f) g)
  -- "An entry whose finished result would leave a range refuses with 21, after all its other checks":
  -- the other checks of the book, of the tables of words and of the desk leave no such result.
  pub book_in_range : (f : JobTables) (n : BookLengths) (b : ℕ) → first_met (book_refusals f n b) ≡ 0 → BookInRange f b
  pub messages_in_range : (f : JobTables) → job_in_range f ≡ true → MessagesInRange (job_of f)
  pub desk_in_range : (m n g : ℕ) (prices : List ℕ) (rs : List TallyRecord) (z : ℤ) → reconciled m n g prices rs ≡ owed z → nat_abs z ≤ max_amount
