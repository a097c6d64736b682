-- 02 §9, "Several price lists in one evening": what the evening's job comes to. L is the number of price lists, suc (f.lists).
use Rattle.std.specs.Prelude.{◌≡◌, true, false, ◌&&◌, ◌||◌, not, List, ℕ, suc, ◌+◌, ◌*◌, ◌/◌, ◌<◌, ◌≤◌, get_or, drop, pos, eqb, ltb}
use Rattle.laws.specs.Below.{only, naturals}
use Rattle.model.specs.Job.{needs, shares, plain_sum}
use Rattle.model.specs.Steps.{Kind, Steps, State, has_step, ready, permitted}
use Rattle.model.specs.Boxes.{state_by_rules}
use Rattle.model.specs.Words.{over, price_to, total_from, words_of, owner_words, message_count, step_count}
use Rattle.model.specs.PackedTotals.{has_total, totals_length, total_place}
use Rattle.model.specs.Tables.{JobTables, job_of, evening_of, StateTables, StateLengths, view, totals_short, any_short}
use Rattle.model.specs.Ranges.{job_in_range, Settles}
use Rattle.model.specs.Step.{step_rules}
use Rattle.model.specs.Run.{run, picked_places, ran}
use Rattle.model.specs.Requests.{Request, tables_after, accepted_in, done_in}
use Rattle.model.specs.Demand3.{AllDone}

-- The job with price list q alone; list 0 is the first.
unfoldable pub only_list : JobTables → ℕ → JobTables
only_list f q = record {
  boxes = f.boxes;
  grocers = f.grocers;
  offers = f.offers;
  tallies = f.tallies;
  lists = 0;
  price = drop (q * f.offers) f.price;
  offer_owner = f.offer_owner;
  grocer_owner = f.grocer_owner;
  tally_grocer = f.tally_grocer;
  tally_box = f.tally_box;
  tally_offer = f.tally_offer;
  tally_count = f.tally_count;
  tally_bag = f.tally_bag;
  tally_revision = f.tally_revision;
}

-- What a state of suc l lists holds of list q, as a state of one list: of each entry its word of list q, and of the words sent one list's share.
unfoldable pub of_list : (l q : ℕ) → State → State
of_list l q s = record {
  known = λ b o. s.known b (o * suc l + q);
  price_transit = λ b o. s.price_transit b (o * suc l + q);
  working = λ b g. s.working b (g * suc l + q);
  total_transit = λ b g. s.total_transit b (g * suc l + q);
  statement = λ g. s.statement (g * suc l + q);
  done = s.done;
  sent = s.sent / suc l;
}

-- "Steps do not change in number": the evening's job has the steps of the job, and each message one word per list for each of its entries.
pub record SameSteps (f : JobTables) : Type 0 where
  pub has : has_step (evening_of f) ≡ has_step (job_of f)
  pub makes_ready : ready (evening_of f) ≡ ready (job_of f)
  pub permits : permitted (evening_of f) ≡ permitted (job_of f)
  -- Conditions 22 to 26 are those of the job.
  pub rules : step_rules (evening_of f) ≡ step_rules (job_of f)
  -- A run picks the same steps.
  pub picks : (choices : List ℕ) → run (evening_of f) choices ≡ run (job_of f) choices
  pub places : (choices : List ℕ) → picked_places (evening_of f) choices ≡ picked_places (job_of f) choices
  pub messages : message_count (evening_of f) ≡ message_count (job_of f)
  pub steps : step_count (evening_of f) ≡ step_count (job_of f)
  -- "A price or total message has for each entry one word per list, the first included".
  pub words : (k : Kind) (a b : ℕ) → words_of (evening_of f) k a b ≡ words_of (job_of f) k a b * suc f.lists
  pub all_words : owner_words (evening_of f) ≡ owner_words (job_of f) * suc f.lists

-- "Each list's amounts being those of an evening that had only that list": of a job that settles and of its list q.
pub record EachList (f : JobTables) (q : ℕ) : Type 0 where
  -- The job with this list alone settles too.
  pub settles : Settles (only_list f q)
  -- The plain sums of the evening at this list are those of that job.
  pub sums : (g : ℕ) → plain_sum (evening_of f) (g * suc f.lists + q) ≡ plain_sum (job_of (only_list f q)) g
  -- Whatever steps are done, every box holds of this list what it would hold in an evening that had only this list.
  pub holds : (d : Steps) → of_list f.lists q (state_by_rules (evening_of f) d) ≡ state_by_rules (job_of (only_list f q)) d
  -- "So the one price and the one part total of demand 3 are one for each price list": once all is done, one price of this list was sent for each
  -- offer to each box that needs it and does not own it, and no other; and one part total of this list for each grocer.
  pub one_price : (t : StateTables) (rs : List Request) → AllDone (evening_of f) (done_in f t rs) → (o b : ℕ) → o < f.offers →
      over (price_to (evening_of f) (o * suc f.lists + q) b) (accepted_in f t rs)
      ≡ only naturals (not (eqb ((job_of f).offer_owner o) b) && needs (job_of f) o b) 1
  pub one_total : (t : StateTables) (rs : List Request) → AllDone (evening_of f) (done_in f t rs) → (g b : ℕ) → g < f.grocers →
      over (total_from (evening_of f) (g * suc f.lists + q) b) (accepted_in f t rs)
      ≡ only naturals (not (eqb ((job_of f).grocer_owner g) b) && shares (job_of f) g b) 1
  -- After any list of requests and any other of that evening in which the same steps were accepted, in whatever order and buffers,
  pub evenings : (t u : StateTables) (rs ps : List Request) → done_in f t rs ≡ done_in (only_list f q) u ps →
      of_list f.lists q (view (evening_of f) (tables_after f t rs)) ≡ view (job_of (only_list f q)) (tables_after (only_list f q) u ps)
  -- so that in the packed totals word i × L + q is word i of that evening;
  pub working_words : (t u : StateTables) (rs ps : List Request) → done_in f t rs ≡ done_in (only_list f q) u ps → (i : ℕ) → i < totals_length (job_of f) →
      get_or (tables_after f t rs).working (i * suc f.lists + q) (pos 0) ≡ get_or (tables_after (only_list f q) u ps).working i (pos 0)
  pub transit_words : (t u : StateTables) (rs ps : List Request) → done_in f t rs ≡ done_in (only_list f q) u ps → (i : ℕ) → i < totals_length (job_of f) →
      get_or (tables_after f t rs).total_transit (i * suc f.lists + q) (pos 0) ≡ get_or (tables_after (only_list f q) u ps).total_transit i (pos 0)
  -- and so after runs, whatever the choices of both.
  pub runs : (t u : StateTables) (choices others picked places : List ℕ) → any_short f t ≡ false → any_short (only_list f q) u ≡ false →
      (g : ℕ) → g < f.grocers →
      get_or (ran f t choices picked).tables.statement (g * suc f.lists + q) (pos 0) ≡ get_or (ran (only_list f q) u others places).tables.statement g (pos 0)

-- "A grocer's lists side by side" (02 §11): how the totals of the evening lie in their packed tables, told from the entries.
pub record ListTotals (f : JobTables) : Type 0 where
  -- Box b has a word of each list just for the grocers of which it has a total,
  pub alike : (b g q : ℕ) → q < suc f.lists → has_total (evening_of f) b (g * suc f.lists + q) ≡ has_total (job_of f) b g
  -- that of list q at the entry's place × L + q,
  pub place : (b g q : ℕ) → q < suc f.lists → has_total (job_of f) b g ≡ true →
      total_place (evening_of f) b (g * suc f.lists + q) ≡ total_place (job_of f) b g * suc f.lists + q
  -- so these are the words of the two tables;
  pub working : (t : StateTables) (b g q : ℕ) → q < suc f.lists → has_total (job_of f) b g ≡ true →
      (view (evening_of f) t).working b (g * suc f.lists + q) ≡ get_or t.working (total_place (job_of f) b g * suc f.lists + q) (pos 0)
  pub total_transit : (t : StateTables) (b g q : ℕ) → q < suc f.lists → has_total (job_of f) b g ≡ true →
      (view (evening_of f) t).total_transit b (g * suc f.lists + q) ≡ get_or t.total_transit (total_place (job_of f) b g * suc f.lists + q) (pos 0)
  -- and 20 on them goes by the packed length of the entries, for each list.
  pub packed_length : totals_length (evening_of f) ≡ totals_length (job_of f) * suc f.lists
  pub short : (n : StateLengths) → totals_short (evening_of f) n
      ≡ (ltb n.working (totals_length (job_of f) * suc f.lists) || ltb n.total_transit (totals_length (job_of f) * suc f.lists))
  -- A host that lends (M + T) × L words lends enough.
  pub most : job_in_range f ≡ true → totals_length (evening_of f) ≤ (f.grocers + f.tallies) * suc f.lists
