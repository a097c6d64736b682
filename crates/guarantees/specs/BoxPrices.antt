-- What a box can learn of prices (02 §12): of every two jobs that settle, and so of every two accepted files.
use Rattle.std.specs.Prelude.{◌≡◌, List, true, ℕ, suc, ◌<◌}
use Rattle.recount.specs.Recount.{stands}
use Rattle.model.specs.Tables.{JobTables, StateTables}
use Rattle.model.specs.Ranges.{Settles}
use Rattle.model.specs.Requests.{Request}
use Rattle.box_prices.specs.Learned.{OtherPrices, LearnsNothing}
use Rattle.format.specs.Job.{FileJob, price_on, place_of, counted_tallies}
use Rattle.format.specs.Same.{SameWords}
use Rattle.format.specs.File.{decode}
use Rattle.format.specs.Refusals.{file_refusal}
use Rattle.format.specs.Tables.{ReaderTables, read_refusal}
use Rattle.printing.specs.Printed.{job_read}
use Rattle.printing.specs.Accepted.{Holds}

-- A file's job j with the prices that another has, on every list; all else is its own.
abbrev pub with_prices_of : FileJob → FileJob → FileJob
with_prices_of k j = record {
  head = j.head;
  offer = λ o. record { price = (k.offer o).price; owner = (j.offer o).owner; code = (j.offer o).code; issuer = (j.offer o).issuer };
  grocer_owner = j.grocer_owner;
  list_price = k.list_price;
  tally = j.tally;
}

-- Files' jobs j and k "differ only in prices, on any list, of offers that box b neither owns nor holds a standing tally of".
pub record OtherFilePrices (b : ℕ) (j k : FileJob) : Type 0 where
  -- k says what j says, with prices of its own.
  pub only_prices : SameWords k (with_prices_of k j)
  -- The price of an offer that box b owns is equal on every list q,
  pub own_price : (q o : ℕ) → q < suc j.head.lists → o < j.head.offers → (j.offer o).owner ≡ b →
      price_on k.offer k.list_price q o ≡ price_on j.offer j.list_price q o
  -- and so is that of the offer which a standing tally in box b names.
  pub held_price : (q t : ℕ) → q < suc j.head.lists → t < j.head.tallies → stands (counted_tallies j) t ≡ true → (j.tally t).box ≡ b →
      price_on k.offer k.list_price q (place_of j t) ≡ price_on j.offer j.list_price q (place_of j t)

-- What a box can learn of prices.
pub record BoxPricesHold : Type 0 where
  -- "From fresh states and under the same step requests, every answer and refusal and every word count is equal in both, and so are b's known
  -- prices, its working totals and the messages it sends. Its statements are equal until it first receives totals": of every list of requests.
  pub lists : (b : ℕ) (f f' : JobTables) → Settles f → Settles f' → OtherPrices b f f' →
      (buffers buffers' : StateTables) (requests : List Request) → LearnsNothing b f f' buffers buffers' requests
  -- Of every two files that the reader accepts, whatever its tables held.
  pub files : (b : ℕ) (file file' : List ℕ) (l l' : ReaderTables) → read_refusal file l ≡ 0 → read_refusal file' l' ≡ 0 →
      OtherFilePrices b (decode file) (decode file') →
      (buffers buffers' : StateTables) (requests : List Request) → LearnsNothing b (job_read file l) (job_read file' l') buffers buffers' requests
  -- Whatever tables hold what two such files say differ so.
  pub any_tables : (b : ℕ) (file file' : List ℕ) → file_refusal file ≡ 0 → file_refusal file' ≡ 0 → OtherFilePrices b (decode file) (decode file') →
      (f f' : JobTables) → Holds (decode file) f → Holds (decode file') f' → OtherPrices b f f'
