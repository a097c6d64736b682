-- An accepted file: its tables hold what it says and settle, and demand 3 holds of them.
use Rattle.std.specs.Prelude.{◌≡◌, List, true, false, ◌&&◌, ℕ, suc, ◌+◌, ◌*◌, ◌<◌, eqb, ℤ, pos, ◌*ℤ◌, get_or}
use Rattle.laws.specs.Below.{sum, only, integers}
use Rattle.model.specs.Job.{plain_sum}
use Rattle.model.specs.Tables.{JobTables, StateTables, counted_of, job_of, evening_of}
use Rattle.model.specs.Ranges.{Settles}
use Rattle.model.specs.Requests.{Request}
use Rattle.model.specs.Demand3.{Demand3, RunIsList}
use Rattle.recount.specs.Recount.{stands, counted_twice}
use Rattle.format.specs.Codes.{is_code, same_offer}
use Rattle.format.specs.Job.{FileJob, price_on, offer_name, names, place_of, counted_tallies}
use Rattle.format.specs.File.{decode}
use Rattle.printing.specs.Printed.{job_read}
use Rattle.format.specs.Tables.{ReaderTables, sizes, read_result}

-- What grocer g is owed by a file's job on price list q: count × price over its standing tallies, each at the price on that list of the offer
-- that it names.
unfoldable pub owed_by_file : FileJob → (g q : ℕ) → ℤ
owed_by_file j g q =
    sum integers j.head.tallies (λ t. only integers (stands (counted_tallies j) t && eqb (j.tally t).grocer g)
    ((j.tally t).count *ℤ pos (price_on j.offer j.list_price q (place_of j t))))

-- A job's tables hold what its file says.
pub record Holds (j : FileJob) (f : JobTables) : Type 0 where
  pub boxes : f.boxes ≡ j.head.boxes
  pub grocers : f.grocers ≡ j.head.grocers
  pub offers : f.offers ≡ j.head.offers
  pub tallies : f.tallies ≡ j.head.tallies
  pub lists : f.lists ≡ j.head.lists
  -- Prices, of the first list and of the additional ones behind it, and owners.
  pub price : (o : ℕ) → o < j.head.offers → (job_of f).price o ≡ (j.offer o).price
  pub list_price : (q o : ℕ) → q < j.head.lists → o < j.head.offers → get_or f.price (suc q * j.head.offers + o) 0 ≡ j.list_price q o
  pub offer_owner : (o : ℕ) → o < j.head.offers → (job_of f).offer_owner o ≡ (j.offer o).owner
  pub grocer_owner : (g : ℕ) → g < j.head.grocers → (job_of f).grocer_owner g ≡ j.grocer_owner g
  -- Each tally's grocer, box, count, bag and revision, superseded tallies among them,
  pub tally_grocer : (t : ℕ) → t < j.head.tallies → (job_of f).tally_grocer t ≡ (j.tally t).grocer
  pub tally_box : (t : ℕ) → t < j.head.tallies → get_or f.tally_box t 0 ≡ (j.tally t).box
  pub tally_count : (t : ℕ) → t < j.head.tallies → (job_of f).tally_count t ≡ (j.tally t).count
  pub tally_bag : (t : ℕ) → t < j.head.tallies → get_or f.tally_bag t 0 ≡ (j.tally t).bag
  pub tally_revision : (t : ℕ) → t < j.head.tallies → get_or f.tally_revision t 0 ≡ (j.tally t).revision
  -- and the place of the offer that it names, by issuer and code.
  pub tally_offer : (t : ℕ) → t < j.head.tallies → (job_of f).tally_offer t ≡ place_of j t

-- "An accepted job holds what a file without a refusal says, each tally with the place of the offer its code names."
pub record Accepted (file : List ℕ) (l : ReaderTables) : Type 0 where
  pub holds : Holds (decode file) (job_read file l)
  -- Each tally names the offer at its place, and no other.
  pub named : (t : ℕ) → t < (decode file).head.tallies →
      (place_of (decode file) t < (decode file).head.offers) × (names (decode file) t (place_of (decode file) t) ≡ true)
  pub no_other : (t i : ℕ) → t < (decode file).head.tallies → i < (decode file).head.offers → names (decode file) t i ≡ true → place_of (decode file) t ≡ i
  -- No two offers have one name (7), those that no tally names among them,
  pub apart : (i k : ℕ) → i < (decode file).head.offers → k < (decode file).head.offers →
      same_offer (offer_name (decode file) i) (offer_name (decode file) k) ≡ true → i ≡ k
  -- and every code of an offer and of a tally is a code (6).
  pub offer_code : (i : ℕ) → i < (decode file).head.offers → is_code ((decode file).offer i).code ≡ true
  pub tally_code : (t : ℕ) → t < (decode file).head.tallies → is_code ((decode file).tally t).code ≡ true
  -- No bag and revision is there twice for a grocer and offer.
  pub once : counted_twice (counted_tallies (decode file)) ≡ false
  -- The reader answers K, M, N and T, the cycle and the number of additional lists.
  pub answer : (read_result file l).answer ≡ sizes (decode file).head
  -- Every word is in range, every table is as long as it must be, and no bag is counted twice as one revision.
  pub settles : Settles (job_read file l)
  -- So demand 3 holds of every list of step requests and of every run.
  pub steps : (t : StateTables) (rs : List Request) → Demand3 (job_read file l) t rs
  pub run : (t : StateTables) (choices picked : List ℕ) → RunIsList (job_read file l) t choices picked
  -- The tallies that stand in its tables are those that stand in the file,
  pub standing : (t : ℕ) → t < (decode file).head.tallies → stands (counted_of (job_read file l)) t ≡ stands (counted_tallies (decode file)) t
  -- and the plain sum, over these, is on each price list what the file says is owed.
  pub sums : (g q : ℕ) → q < suc (decode file).head.lists →
      plain_sum (evening_of (job_read file l)) (g * suc (decode file).head.lists + q) ≡ owed_by_file (decode file) g q
