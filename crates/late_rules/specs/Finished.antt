-- 30 told from the words of the tables: what a finished run of a job leaves in each. Entries are those of the evening's job, one for each price list.
use Rattle.std.specs.Prelude.{◌≡◌, ◌↔◌, List, true, cond, ◌||◌, ℕ, ◌+◌, ◌*◌, ◌<◌, eqb, pos, get_or}
use Rattle.laws.specs.Lists.{list_words}
use Rattle.model.specs.Job.{Job, needs, plain_sum}
use Rattle.model.specs.Steps.{places, at_place, has_step}
use Rattle.model.specs.Words.{owner_words}
use Rattle.model.specs.PackedTotals.{totals_length}
use Rattle.model.specs.Tables.{JobTables, StateTables, evening_of}
use Rattle.model.specs.Run.{ran}
use Rattle.model.specs.Requests.{Request, tables_after, done_in}
use Rattle.model.specs.Demand3.{AllDone}
use Rattle.late_rules.specs.Late.{left_by_run}

-- What box b knows of offer o in the end: its price where b owns the offer or needs it, else 0.
unfoldable pub known_at_end : Job → ℕ → ℕ → ℕ
known_at_end j b o = cond (eqb (j.offer_owner o) b || needs j o b) (j.price o) 0

-- What the needed words of a state are once all steps of the job f are done.
pub record FinishedWords (f : JobTables) (s : StateTables) : Type 0 where
  -- A box knows the prices of its own offers and of those it needs, on every list, and no other.
  pub known : (b o : ℕ) → b < f.boxes → o < list_words f.lists f.offers →
      get_or s.known (b * list_words f.lists f.offers + o) 0 ≡ known_at_end (evening_of f) b o
  -- Nothing is in transit, and no working total is left.
  pub price_transit : (i : ℕ) → i < f.boxes * list_words f.lists f.offers → get_or s.price_transit i 0 ≡ 0
  pub working : (i : ℕ) → i < totals_length (evening_of f) → get_or s.working i (pos 0) ≡ pos 0
  pub total_transit : (i : ℕ) → i < totals_length (evening_of f) → get_or s.total_transit i (pos 0) ≡ pos 0
  -- Every statement is the plain sum, on every list.
  pub statement : (g : ℕ) → g < list_words f.lists f.grocers → get_or s.statement g (pos 0) ≡ plain_sum (evening_of f) g
  -- Marked are the places of the steps the job has, and no others.
  pub done : (i : ℕ) → i < places f.boxes → get_or s.done i 0 ≡ cond (at_place f.boxes (has_step (evening_of f)) i) 1 0
  -- The words sent are those of the owner tables.
  pub sent : get_or s.sent 0 0 ≡ owner_words (evening_of f)

-- Of a job that settles and a state that is not lent short: 30 is not met exactly where
pub record FinishedState (f : JobTables) (s : StateTables) : Type 0 where
  -- the state is the one that a run leaves, with whatever choices;
  pub runs : (choices picked : List ℕ) → (left_by_run f s ≡ true) ↔ (s ≡ (ran f s choices picked).tables)
  -- it is the one that any list of requests leaves which does all steps;
  pub lists : (rs : List Request) → AllDone (evening_of f) (done_in f s rs) → (left_by_run f s ≡ true) ↔ (s ≡ tables_after f s rs)
  -- its needed words are those above.
  pub words : (left_by_run f s ≡ true) ↔ FinishedWords f s
