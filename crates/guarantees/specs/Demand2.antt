-- Demand 2: one file for each job and one job for each accepted file; names of offers; damage; and what an accepted step does.
use Rattle.std.specs.Prelude.{◌≡◌, List, ◌++◌, Bool, true, false, not, ◌↔◌, ℕ, suc, ◌+◌, ◌*◌, ◌<◌, ◌≤◌, eqb, length, get_or, drop, take}
use Rattle.laws.specs.Below.{any, find}
use Rattle.laws.specs.Tables.{overwrite}
use Rattle.recount.specs.Recount.{stands, counted_twice, RecountLaws}
use Rattle.model.specs.Steps.{effect_of}
use Rattle.model.specs.Tables.{JobTables, StateTables, evening_of, view, store}
use Rattle.model.specs.Step.{Asked, step_of, accepted, stepped}
use Rattle.format.specs.Codes.{Code, is_code, code_number, written, drop_zeros, Name, same_offer}
use Rattle.format.specs.Job.{Head, head_of, FileJob, bad_sizes, bad_records, place_of, shared, unnamed, counted_tallies, Words16}
use Rattle.format.specs.Blocks.{blocks, block_count}
use Rattle.format.specs.File.{encode, decode}
use Rattle.format.specs.Refusals.{job_refusal, file_refusal}
use Rattle.format.specs.Same.{SameWords}
use Rattle.format.specs.Rearranged.{Rearranged, Named}
use Rattle.format.specs.Tables.{FileTables, ReaderTables, file_job_of, store_read, short_reader, read_refusal, read_result, sizes, refused}
use Rattle.format.specs.Tables.{write_refusal, write_result, wrote}
use Rattle.printing.specs.Accepted.{owed_by_file}

-- A file's words are bytes.
unfoldable pub Bytes : List ℕ → Type 0
Bytes file = (p : ℕ) → get_or file p 0 < 256

-- The rule of before 02 §2: two codes name one offer when their numbers agree.
unfoldable pub same_number : Code → Code → Bool
same_number c d = eqb (code_number c) (code_number d)

-- Under the rule of before the code of tally t names offer i.
abbrev pub named_before : FileJob → ℕ → ℕ → Bool
named_before j t i = same_number (j.offer i).code (j.tally t).code

-- Every issuer of a job is 0, "0 for old offers".
pub record NoIssuers (j : FileJob) : Type 0 where
  pub offer : (i : ℕ) → i < j.head.offers → (j.offer i).issuer ≡ 0
  pub tally : (t : ℕ) → t < j.head.tallies → (j.tally t).issuer ≡ 0

-- Each look-up, and with it 7 and 8, is that of the rule of before: "Files with zeros there settle as before."
pub record AsBefore (j : FileJob) : Type 0 where
  pub place : (t : ℕ) → t < j.head.tallies → place_of j t ≡ find j.head.offers (named_before j t)
  pub seven : shared j ≡ any j.head.offers (λ i. any i (λ k. same_number (j.offer k).code (j.offer i).code))
  pub eight : unnamed j ≡ any j.head.tallies (λ t. not (any j.head.offers (named_before j t)))

-- Every bag of a job is 0: all its coupons are loose.
pub record NoBags (j : FileJob) : Type 0 where
  pub tally : (t : ℕ) → t < j.head.tallies → (j.tally t).bag ≡ 0

-- The job in settlement cycle c.
abbrev pub in_cycle : (c : ℕ) → FileJob → FileJob
in_cycle c j = record {
  head = head_of j.head.boxes j.head.grocers j.head.offers j.head.tallies c j.head.lists;
  offer = j.offer;
  grocer_owner = j.grocer_owner;
  list_price = j.list_price;
  tally = j.tally;
}

-- The job with other words where any 16 bits may stand: its cycle, its issuers, bags and revisions.
abbrev pub with_words : (cycle : ℕ) (offer_issuer tally_issuer bag revision : ℕ → ℕ) → FileJob → FileJob
with_words cycle offer_issuer tally_issuer bag revision j = record {
  head = head_of j.head.boxes j.head.grocers j.head.offers j.head.tallies cycle j.head.lists;
  offer = λ i. record { price = (j.offer i).price; owner = (j.offer i).owner; code = (j.offer i).code; issuer = offer_issuer i };
  grocer_owner = j.grocer_owner;
  list_price = j.list_price;
  tally = λ t. record {
    grocer = (j.tally t).grocer;
    box = (j.tally t).box;
    code = (j.tally t).code;
    count = (j.tally t).count;
    issuer = tally_issuer t;
    bag = bag t;
    revision = revision t;
  };
}

-- What is the same in a job j' that has the records of j in another order, its tally t being tally p t of j.
pub record SameInOrder (j j' : FileJob) (p : ℕ → ℕ) : Type 0 where
  -- 6 is met by both or by neither, so are 7 and 8 where 6 is not, and so is 9 where none of them is.
  pub six : bad_records j' ≡ bad_records j
  pub seven : bad_records j ≡ false → shared j' ≡ shared j
  pub eight : bad_records j ≡ false → unnamed j' ≡ unnamed j
  pub nine : Named j → counted_twice (counted_tallies j') ≡ counted_twice (counted_tallies j)
  -- The same tallies stand,
  pub standing : Named j → (t : ℕ) → t < j.head.tallies → stands (counted_tallies j') t ≡ stands (counted_tallies j) (p t)
  -- and each grocer is owed the same on every price list.
  pub owed : Named j → (g q : ℕ) → q < suc j.head.lists → owed_by_file j' g q ≡ owed_by_file j g q
  -- So the first of 4, 6, 7, 8 and 9 that is met, if any, is the same, and where none is both files are accepted.
  pub refusal : job_refusal j' ≡ job_refusal j
  pub files : job_refusal j ≡ 0 → (file_refusal (encode j) ≡ 0) × (file_refusal (encode j') ≡ 0)

-- Demand 2 whole.
pub record Demand2 : Type 0 where
  -- Writing what was read gives the file, byte for byte, in front of the rest of the buffer.
  pub write_read : (file : List ℕ) (l : ReaderTables) → Bytes file → read_refusal file l ≡ 0 → (out : List ℕ) → length file ≤ length out →
      write_result (decode file).head (read_result file l).tables.job out
      ≡ record { answer = wrote (length file); out = file ++ drop (length file) out }
  -- Each job has one file: two accepted files that read alike are equal.
  pub one_file : (f f' : List ℕ) (l : ReaderTables) → Bytes f → Bytes f' → read_refusal f l ≡ 0 → read_refusal f' l ≡ 0 →
      read_result f l ≡ read_result f' l → f ≡ f'
  -- Reading what was written gives K, M, N, T, the cycle and the number of additional lists and, in whatever tables, the words of the job that was
  -- written, digits as written; beside them the places.
  pub read_write : (h : Head) (l : FileTables) (out : List ℕ) → write_refusal h l out ≡ 0 → (r : ReaderTables) → short_reader r ≡ false →
      read_result (take (512 * block_count h) (write_result h l out).out) r
      ≡ record { answer = sizes h; tables = store_read (file_job_of h l) r }
  -- Into the tables it was written from: every word is as it was.
  pub read_own : (h : Head) (r : ReaderTables) (out : List ℕ) → write_refusal h r.job out ≡ 0 → short_reader r ≡ false →
      read_result (take (512 * block_count h) (write_result h r.job out).out) r
      ≡ record { answer = sizes h; tables = record { job = r.job; tally_offer = overwrite h.tallies (place_of (file_job_of h r.job)) r.tally_offer } }
  -- What was written are bytes, cycle, issuers, bags and revisions being any 16-bit numbers: the file that reading takes back is one that a disk can hold.
  pub written_bytes : (h : Head) (l : FileTables) (out : List ℕ) → Words16 (file_job_of h l) → write_refusal h l out ≡ 0 →
      Bytes (take (512 * block_count h) (write_result h l out).out)
  -- And those that were read are such numbers, whatever the file's bytes are.
  pub words_read : (file : List ℕ) → Bytes file → Words16 (decode file)
  -- "any 16-bit number, 0 included": whatever the cycle is, a job is refused alike;
  pub any_cycle : (j : FileJob) (c : ℕ) → job_refusal (in_cycle c j) ≡ job_refusal j
  -- whatever cycle, issuers, bags and revisions are, 4 and 6 are met alike, so that no range is asked of them;
  pub any_words : (j : FileJob) (cycle : ℕ) (offer_issuer tally_issuer bag revision : ℕ → ℕ) →
      (bad_sizes (with_words cycle offer_issuer tally_issuer bag revision j).head ≡ bad_sizes j.head) ×
      (bad_records (with_words cycle offer_issuer tally_issuer bag revision j) ≡ bad_records j)
  -- and a job that meets none of 4, 6, 7, 8 and 9 has a file of bytes that is accepted and says its words, where these are 16-bit numbers.
  pub any_accepted : (j : FileJob) → Words16 j → job_refusal j ≡ 0 →
      Bytes (encode j) × (file_refusal (encode j) ≡ 0) × SameWords (decode (encode j)) j
  -- Two names are one offer exactly when their issuers are equal and their codes agree after leading zeros are dropped.
  pub names : (a b : Name) → is_code a.code ≡ true → is_code b.code ≡ true →
      (same_offer a b ≡ true) ↔ ((a.issuer ≡ b.issuer) × (drop_zeros (written a.code) ≡ drop_zeros (written b.code)))
  -- Where every issuer is 0, each look-up is that of the numbers alone.
  pub old_names : (j : FileJob) → NoIssuers j → AsBefore j
  -- Which counts of a bag stand: in whatever order their records come the same, and where 9 is not met one of each bag, the highest revision.
  pub recount : RecountLaws
  -- "Show also that the order in which records come does not alter which stand": of a file's offers and tallies in whatever order,
  pub order : (j j' : FileJob) (p q r s : ℕ → ℕ) → Rearranged j j' p q r s → SameInOrder j j' p
  -- where none of 6, 7 and 8 is met, so of every accepted file;
  pub order_named : (file : List ℕ) → file_refusal file ≡ 0 → Named (decode file)
  -- and the files of two such jobs say two such jobs.
  pub order_read : (j j' : FileJob) (p q r s : ℕ → ℕ) → Rearranged j j' p q r s → job_refusal j ≡ 0 →
      Rearranged (decode (encode j)) (decode (encode j')) p q r s
  -- Where every bag is 0, all tallies stand and 9 is not met: such files settle as before 02 §3.
  pub old_tallies : (j : FileJob) → NoBags j →
      (counted_twice (counted_tallies j) ≡ false) × ((t : ℕ) → t < j.head.tallies → stands (counted_tallies j) t ≡ true)
  -- In an accepted file, changing one or two bytes of one block always gives refusal 2:
  -- f' differs from f at most at bytes i and j of block k, and somewhere.
  pub damage : (f f' : List ℕ) (l : ReaderTables) → Bytes f → Bytes f' → read_refusal f l ≡ 0 →
      (k i j : ℕ) → k < blocks (decode f) → i < 512 → j < 512 → length f' ≡ length f →
      ((p : ℕ) → (p ≡ 512 * k + i → ⊥) → (p ≡ 512 * k + j → ⊥) → get_or f' p 0 ≡ get_or f p 0) → (f' ≡ f → ⊥) →
      read_result f' l ≡ record { answer = refused 2; tables = l }
  -- An accepted step, in whatever state, leaves what its line says, written into the tables; words past the needed length stay.
  pub step : (f : JobTables) (t : StateTables) (q : Asked) → (stepped f t q).answer ≡ accepted →
      (stepped f t q).tables ≡ store (evening_of f) (effect_of (evening_of f) (view (evening_of f) t) (step_of q)) t
