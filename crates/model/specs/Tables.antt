-- The tables as they are lent, the job and the state that they hold, and how long each must be.
use Rattle.std.specs.Prelude.{List, [], ◌∷◌, Bool, cond, ◌&&◌, ◌||◌, ℕ, suc, ◌*◌, ◌/◌, ◌%◌, get_or, length, eqb, ltb, ℤ, pos}
use Rattle.laws.specs.Tables.{overwrite, word, cell, recell}
use Rattle.laws.specs.Checks.{any_of}
use Rattle.laws.specs.Lists.{list_words}
use Rattle.recount.specs.Recount.{Counted, columns, stands}
use Rattle.model.specs.Job.{Job}
use Rattle.model.specs.PackedTotals.{totals_length, pack_totals, unpack_totals, spread}
use Rattle.model.specs.Steps.{kind_number, step_place, places, Steps, at_place, State}

-- The job's tables: K, M, N, T and the number of additional price lists as given, and nine lent slices.
pub record JobTables : Type 0 where
  pub boxes : ℕ
  pub grocers : ℕ
  pub offers : ℕ
  pub tallies : ℕ
  pub lists : ℕ  -- additional price lists
  pub price : List ℕ  -- N words for each price list, list after list
  pub offer_owner : List ℕ  -- N
  pub grocer_owner : List ℕ  -- M
  pub tally_grocer : List ℕ  -- T
  pub tally_box : List ℕ  -- T
  pub tally_offer : List ℕ  -- T
  pub tally_count : List ℤ  -- T
  pub tally_bag : List ℕ  -- T
  pub tally_revision : List ℕ  -- T

-- The job's tables as a contract names them: all nine.
abbrev pub bag_tables : ℕ → ℕ → ℕ → ℕ → ℕ → List ℕ → List ℕ → List ℕ → List ℕ → List ℕ → List ℕ → List ℤ → List ℕ → List ℕ → JobTables
bag_tables k m n t lists price owner grocers tally_grocer tally_box tally_offer tally_count bag revision = record {
  boxes = k;
  grocers = m;
  offers = n;
  tallies = t;
  lists = lists;
  price = price;
  offer_owner = owner;
  grocer_owner = grocers;
  tally_grocer = tally_grocer;
  tally_box = tally_box;
  tally_offer = tally_offer;
  tally_count = tally_count;
  tally_bag = bag;
  tally_revision = revision;
}

-- Tables without bags and revisions: every tally is loose. Inner calls are handed the job so, a superseded tally with the box `nobody`.
abbrev pub job_tables : ℕ → ℕ → ℕ → ℕ → ℕ → List ℕ → List ℕ → List ℕ → List ℕ → List ℕ → List ℕ → List ℤ → JobTables
job_tables k m n t lists price owner grocers tally_grocer tally_box tally_offer tally_count =
    bag_tables k m n t lists price owner grocers tally_grocer tally_box tally_offer tally_count [] []

-- What the recount rule looks at in the tables. Words past the T that are needed are not read.
unfoldable pub counted_of : JobTables → Counted
counted_of f = columns f.tallies f.tally_grocer f.tally_offer f.tally_bag f.tally_revision

-- The box of a superseded tally: none has this number, so it counts for no amount, need, sharer, local book, word, message or step.
abbrev pub nobody : ℕ
nobody = 16

-- The job that the tables hold, with the first price list. Needs, sharers, local books, messages and steps are told from its entries: offers,
-- grocers and tallies. Words past the needed length are not read.
unfoldable pub job_of : JobTables → Job
job_of f = record {
  boxes = f.boxes;
  grocers = f.grocers;
  offers = f.offers;
  tallies = f.tallies;
  price = word f.offers f.price 0;
  offer_owner = word f.offers f.offer_owner 0;
  grocer_owner = word f.grocers f.grocer_owner 0;
  tally_grocer = word f.tallies f.tally_grocer 0;
  tally_box = λ t. cond (stands (counted_of f) t) (word f.tallies f.tally_box 0 t) nobody;
  tally_offer = word f.tallies f.tally_offer 0;
  tally_count = word f.tallies f.tally_count (pos 0);
}

-- "Several price lists in one evening" (02 §9): the job in which every offer, grocer and tally stands once for each of suc l price lists, side by
-- side. Entry e is, for list q, number e × suc l + q: so "one word per list, the first included, in list order". Prices are lent list after list.
unfoldable pub with_lists : ℕ → JobTables → Job
with_lists l f = spread (suc l) (λ o. cell (suc l) f.offers f.price 0 (o % suc l) (o / suc l)) (job_of f)

-- The evening's job: what step and run settle, list by list. `EachList` says what it comes to.
abbrev pub evening_of : JobTables → Job
evening_of f = with_lists f.lists f

-- The state's tables: seven lent slices. L is the number of price lists; the words of an entry, one for each list, stand side by side.
pub record StateTables : Type 0 where
  pub known : List ℕ  -- K × N × L words, by box
  pub price_transit : List ℕ  -- K × N × L, by receiving box
  pub working : List ℤ  -- packed, by box and local grocer: `totals_length` of the evening's job
  pub total_transit : List ℤ  -- the same, by sending box and its local grocer
  pub statement : List ℤ  -- M × L
  pub done : List ℕ  -- 6 × K × K marks, by kind, first box and second box
  pub sent : List ℕ  -- 1

-- The state's tables, as a contract names them.
abbrev pub state_tables : List ℕ → List ℕ → List ℤ → List ℤ → List ℤ → List ℕ → List ℕ → StateTables
state_tables known price_transit working total_transit statement done sent = record {
  known = known;
  price_transit = price_transit;
  working = working;
  total_transit = total_transit;
  statement = statement;
  done = done;
  sent = sent;
}

-- The steps that a table of marks says are done, of k boxes: those with a 1 at their place.
unfoldable pub steps_done : ℕ → List ℕ → Steps
steps_done k marks = λ q a b. ltb a k && (ltb b k && eqb (get_or marks (step_place k (kind_number q) a b) 0) 1)

-- The table of marks with the steps of d marked, and all others not.
unfoldable pub marks_of : ℕ → Steps → List ℕ → List ℕ
marks_of k d marks = overwrite (places k) (λ i. cond (at_place k d i) 1 0) marks

module _ (j : Job) where
  -- The state that the tables hold.
  unfoldable pub view : StateTables → State
  view t = record {
    known = cell j.boxes j.offers t.known 0;
    price_transit = cell j.boxes j.offers t.price_transit 0;
    working = unpack_totals j t.working;
    total_transit = unpack_totals j t.total_transit;
    statement = word j.grocers t.statement (pos 0);
    done = steps_done j.boxes t.done;
    sent = word 1 t.sent 0 0;
  }

  -- The tables t with the state s written into them. Words past the needed length are not touched.
  unfoldable pub store : State → StateTables → StateTables
  store s t = record {
    known = recell j.boxes j.offers s.known t.known;
    price_transit = recell j.boxes j.offers s.price_transit t.price_transit;
    working = pack_totals j s.working t.working;
    total_transit = pack_totals j s.total_transit t.total_transit;
    statement = overwrite j.grocers s.statement t.statement;
    done = marks_of j.boxes s.done t.done;
    sent = overwrite 1 (λ i. s.sent) t.sent;
  }

-- How many words of each of the job's tables are lent.
pub record JobLengths : Type 0 where
  pub price : ℕ
  pub offer_owner : ℕ
  pub grocer_owner : ℕ
  pub tally_grocer : ℕ
  pub tally_box : ℕ
  pub tally_offer : ℕ
  pub tally_count : ℕ
  pub tally_bag : ℕ
  pub tally_revision : ℕ

-- How many words of each of the state's tables are lent.
pub record StateLengths : Type 0 where
  pub known : ℕ
  pub price_transit : ℕ
  pub working : ℕ
  pub total_transit : ℕ
  pub statement : ℕ
  pub done : ℕ
  pub sent : ℕ

-- The lengths of the job's tables as they are lent.
unfoldable pub job_lengths : JobTables → JobLengths
job_lengths f = record {
  price = length f.price;
  offer_owner = length f.offer_owner;
  grocer_owner = length f.grocer_owner;
  tally_grocer = length f.tally_grocer;
  tally_box = length f.tally_box;
  tally_offer = length f.tally_offer;
  tally_count = length f.tally_count;
  tally_bag = length f.tally_bag;
  tally_revision = length f.tally_revision;
}

-- The lengths of the state's tables as they are lent.
unfoldable pub state_lengths : StateTables → StateLengths
state_lengths t = record {
  known = length t.known;
  price_transit = length t.price_transit;
  working = length t.working;
  total_transit = length t.total_transit;
  statement = length t.statement;
  done = length t.done;
  sent = length t.sent;
}

-- 20 on the job's tables but bags and revisions: a lent buffer shorter than M, N, T and the number of lists as given need.
unfoldable pub job_short : JobTables → JobLengths → Bool
job_short f n =
    any_of (
    ltb n.price (list_words f.lists f.offers)
    ∷ ltb n.offer_owner f.offers
    ∷ ltb n.grocer_owner f.grocers
    ∷ ltb n.tally_grocer f.tallies
    ∷ ltb n.tally_box f.tallies
    ∷ ltb n.tally_offer f.tallies
    ∷ ltb n.tally_count f.tallies
    ∷ [])

-- 20 on bags and revisions, which inner calls are not handed.
unfoldable pub bags_short : JobTables → JobLengths → Bool
bags_short f n = ltb n.tally_bag f.tallies || ltb n.tally_revision f.tallies

-- 20 on the state's tables but the packed ones: a lent buffer shorter than K, M, N and the number of lists as given need.
unfoldable pub state_short : JobTables → StateLengths → Bool
state_short f n =
    any_of (
    ltb n.known (f.boxes * list_words f.lists f.offers)
    ∷ ltb n.price_transit (f.boxes * list_words f.lists f.offers)
    ∷ ltb n.statement (list_words f.lists f.grocers)
    ∷ ltb n.done (6 * f.boxes * f.boxes)
    ∷ ltb n.sent 1
    ∷ [])

-- 20 on all else, which a step and a run look at first: one of the fourteen tables that are not packed is lent short.
unfoldable pub lent_short : JobTables → StateTables → Bool
lent_short f t = job_short f (job_lengths f) || bags_short f (job_lengths f) || state_short f (state_lengths t)

-- 20 on the packed tables: shorter than the packed length of the job. Asked "straight after 21 on all else and 9".
unfoldable pub totals_short : Job → StateLengths → Bool
totals_short j n = ltb n.working (totals_length j) || ltb n.total_transit (totals_length j)

-- One of the sixteen tables is lent short.
unfoldable pub any_short : JobTables → StateTables → Bool
any_short f t = lent_short f t || totals_short (evening_of f) (state_lengths t)
