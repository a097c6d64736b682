-- Demand 3: one statement about every list of step requests.
use Rattle.std.specs.Prelude.{◌≡◌, List, [], ◌∷◌, map, Bool, true, false, cond, ◌&&◌, not, ℕ, ◌+◌, ◌*◌, ◌<◌, ◌≤◌, get_or, length, eqb, ℤ, pos, ◌+ℤ◌}
use Rattle.laws.specs.Below.{sum, only, integers, naturals}
use Rattle.laws.specs.Checks.{first_met}
use Rattle.laws.specs.Lists.{list_words}
use Rattle.model.specs.Job.{Job, held, needs, shares, amount, plain_sum}
use Rattle.model.specs.Steps.{Kind, Steps, Step, State, kind_number, mark, has_step, permitted, added, effect_of}
use Rattle.model.specs.Boxes.{state_by_rules}
use Rattle.model.specs.Words.{over, words_of, price_to, total_from, messages_of, owner_words, message_count, step_count}
use Rattle.model.specs.Tables.{JobTables, evening_of, StateTables, view, store, any_short}
use Rattle.model.specs.Ranges.{state_in_range, totals_in_range}
use Rattle.model.specs.PackedTotals.{totals_length}
use Rattle.model.specs.Step.{is_kind, step_of, step_rules, StepAnswer, step_answer, is_accepted}
use Rattle.model.specs.Run.{run, picked_places, ran, reported, finished}
use Rattle.model.specs.Requests.{Request, lends_short, answer_to, serve, tables_after, answers_in, accepted_in, done_in}

-- Some step of a set.
pub record SomeStep (d : Steps) : Type 0 where
  pub kind : Kind
  pub first : ℕ
  pub second : ℕ
  pub holds : d kind first second ≡ true

-- Some request that is accepted on the tables as they are.
pub record SomeAccepted (f : JobTables) (t : StateTables) : Type 0 where
  pub request : Request
  pub holds : is_accepted (answer_to f t request) ≡ true

module _ (j : Job) where
  -- All steps of the job are done.
  unfoldable pub AllDone : Steps → Type 0
  AllDone d = (k : Kind) (a b : ℕ) → has_step j k a b ≡ true → d k a b ≡ true

  -- Statements, working totals and totals in transit of grocer g together.
  unfoldable pub together : State → ℕ → ℤ
  together s g = (sum integers j.boxes (λ b. s.working b g) +ℤ sum integers j.boxes (λ b. s.total_transit b g)) +ℤ s.statement g

  -- The sum of count × price over the tallies of grocer g already added.
  unfoldable pub added_sum : Steps → ℕ → ℤ
  added_sum d g = sum integers j.tallies (λ t. only integers (held j t && eqb (j.tally_grocer t) g && added j d t) (amount j (j.price (j.tally_offer t)) t))

module _ (f : JobTables) where
  -- A request is permitted when its step is and no buffer is shorter than its table.
  unfoldable pub permitted_request : Steps → Request → Bool
  permitted_request d r =
      let q = step_of r.asked in
      not (lends_short f r) && (is_kind r.asked.kind && permitted (evening_of f) d q.kind q.first q.second)

  -- What refuses a request where the steps of d are done: 20, 22 to 26 in this order, and never 9 or 21.
  unfoldable pub refusal_of : Steps → Request → ℕ
  refusal_of d r = cond (lends_short f r) 20 (first_met (step_rules (evening_of f) d r.asked))

  -- The answers to the requests of a list by the rules alone, where the steps of d are done: a permitted request adds its step.
  unfoldable pub answers_by_rules : Steps → List Request → List StepAnswer
  answers_by_rules d [] = []
  answers_by_rules d (r ∷ rs) =
      let q = step_of r.asked in
      step_answer (refusal_of d r) ∷ answers_by_rules (cond (permitted_request d r) (mark d q.kind q.first q.second) d) rs

-- A finished settlement.
pub record Finished (j : Job) (s : State) : Type 0 where
  -- Every statement is the plain sum.
  pub statements : (g : ℕ) → g < j.grocers → s.statement g ≡ plain_sum j g
  -- Nothing is left in working totals or in transit.
  pub no_working : (b g : ℕ) → b < j.boxes → g < j.grocers → s.working b g ≡ pos 0
  pub no_totals : (b g : ℕ) → s.total_transit b g ≡ pos 0
  pub no_prices : (b o : ℕ) → s.price_transit b o ≡ 0
  -- The words sent are those of the owner tables.
  pub words_sent : s.sent ≡ owner_words j

-- What holds after the list rs of requests on the job tables f, from a fresh state of the job in the buffers t, where
-- job is the evening's job, what the tables f hold for all price lists, accepted are the steps accepted in the list, done is the set of them,
-- tables are the state's tables that the list leaves, and state is what they hold. `Demand3` below fills these in.
pub record AfterList (f : JobTables) (t : StateTables) (rs : List Request)
    (job : Job) (accepted : List Step) (done : Steps) (tables : StateTables) (state : State) : Type 0 where
  -- Every request of the list, from the first to the last, is answered as the rules say, from the requests before it alone.
  pub answers : answers_in f t rs ≡ answers_by_rules f (λ k a b. false) rs
  -- One more request is answered by the first condition met over the steps done: 20, 22 to 26, and never 9 or 21.
  pub next_answer : (r : Request) → answer_to f tables r ≡ step_answer (refusal_of f done r)
  -- It is accepted just where it is permitted.
  pub accepts : (r : Request) → is_accepted (answer_to f tables r) ≡ permitted_request f done r
  -- An accepted request does what its step does; any other leaves the tables as they were.
  pub does : (r : Request) → permitted_request f done r ≡ true → view job (serve f tables r) ≡ effect_of job state (step_of r.asked)
  pub keeps : (r : Request) → permitted_request f done r ≡ false → serve f tables r ≡ tables
  -- Every box holds what the rules say, told from the steps done alone.
  pub holds : state ≡ state_by_rules job done
  -- The tables are the state that they hold, written into the buffers t: words past the needed length stay.
  pub stays : tables ≡ store job state t
  -- Every word is in range.
  pub in_range : (state_in_range f tables && totals_in_range job tables) ≡ true
  -- The marks are the steps done in the list.
  pub marks : (k : Kind) (a b : ℕ) → state.done k a b ≡ done k a b
  -- After every list the count of words sent is the number sent in it.
  pub words_sent : state.sent ≡ over (words_of job) accepted
  -- At each moment statements, working totals and totals in transit together make the sum over the tallies already added.
  pub running_sum : (g : ℕ) → together job state g ≡ added_sum job done g
  -- While a step of the job is not done, some step is permitted.
  pub goes_on : (k : Kind) (a b : ℕ) → has_step job k a b ≡ true → done k a b ≡ false → SomeStep (permitted job done)
  -- and so some request is accepted.
  pub some_accepted : (k : Kind) (a b : ℕ) → has_step job k a b ≡ true → done k a b ≡ false → SomeAccepted f tables
  -- At most 2 × K + 2 × (messages) requests are accepted, and all steps are done just where so many were.
  pub at_most : length accepted ≤ step_count job
  pub all_done : AllDone job done → length accepted ≡ step_count job
  pub all_taken : length accepted ≡ step_count job → AllDone job done
  -- All done: the settlement is finished.
  pub finish : AllDone job done → Finished job state
  -- All done: exactly one price was sent for each offer to each box that needs it and does not own it, and no other;
  pub one_price : AllDone job done → (o b : ℕ) → o < job.offers →
      over (price_to job o b) accepted ≡ only naturals (not (eqb (job.offer_owner o) b) && needs job o b) 1
  -- exactly one part total of each grocer from each box that has one and does not own it, and no other.
  pub one_total : AllDone job done → (g b : ℕ) → g < job.grocers →
      over (total_from job g b) accepted ≡ only naturals (not (eqb (job.grocer_owner g) b) && shares job g b) 1
  -- At any time the words sent are these prices and part totals, added up.
  pub each_word : over (words_of job) accepted
      ≡ sum naturals job.offers (λ o. sum naturals job.boxes (λ b. over (price_to job o b) accepted))
      + sum naturals job.grocers (λ g. sum naturals job.boxes (λ b. over (total_from job g b) accepted))
  -- Another list that does all steps, in whatever buffers, ends after the same number of accepted steps
  pub same_steps : AllDone job done → (u : StateTables) (ps : List Request) → AllDone job (done_in f u ps) → length (accepted_in f u ps) ≡ length accepted
  -- and leaves the same state, equal statements among it;
  pub same_state : AllDone job done → (u : StateTables) (ps : List Request) → AllDone job (done_in f u ps) → view job (tables_after f u ps) ≡ state
  -- so does a run, whatever its choices and its buffers held: its tables hold this state,
  pub run_leaves : AllDone job done → (u : StateTables) (choices picked : List ℕ) → any_short f u ≡ false →
      view job (ran f u choices picked).tables ≡ state
  -- and it reports the words, the messages and the number of the steps accepted in the list.
  pub run_report : AllDone job done → (u : StateTables) (choices picked : List ℕ) → any_short f u ≡ false →
      (ran f u choices picked).answer ≡ finished (over (words_of job) accepted) (over messages_of accepted) (length accepted)

-- Demand 3: what holds after the list rs of requests on the job tables f, from a fresh state in the buffers t.
abbrev pub Demand3 : JobTables → StateTables → List Request → Type 0
Demand3 f t rs = AfterList f t rs (evening_of f) (accepted_in f t rs) (done_in f t rs) (tables_after f t rs) (view (evening_of f) (tables_after f t rs))

-- The request for a step that lends of each table what it needs.
unfoldable pub whole_request : JobTables → Step → Request
whole_request f x = record {
  asked = record { kind = kind_number x.kind; first = x.first; second = x.second };
  job = record {
    price = list_words f.lists f.offers;
    offer_owner = f.offers;
    grocer_owner = f.grocers;
    tally_grocer = f.tallies;
    tally_box = f.tallies;
    tally_offer = f.tallies;
    tally_count = f.tallies;
    tally_bag = f.tallies;
    tally_revision = f.tallies;
  };
  state = record {
    known = f.boxes * list_words f.lists f.offers;
    price_transit = f.boxes * list_words f.lists f.offers;
    working = totals_length (evening_of f);
    total_transit = totals_length (evening_of f);
    statement = list_words f.lists f.grocers;
    done = 6 * f.boxes * f.boxes;
    sent = 1;
  };
}

-- A run is the list of the steps it picks, until all are done.
pub record RunIsList (f : JobTables) (t : StateTables) (choices picked : List ℕ) : Type 0 where
  -- Only 20 refuses it; else it reports the words of the owner tables, the messages and the steps of the job.
  pub answer : (ran f t choices picked).answer
      ≡ reported (cond (any_short f t) 20 0) (finished (owner_words (evening_of f)) (message_count (evening_of f)) (step_count (evening_of f)))
  -- Requests for its steps are all accepted, do all steps, and leave its tables.
  pub accepted : accepted_in f t (map (whole_request f) (run (evening_of f) choices)) ≡ run (evening_of f) choices
  pub all_done : AllDone (evening_of f) (done_in f t (map (whole_request f) (run (evening_of f) choices)))
  pub tables : any_short f t ≡ false → (ran f t choices picked).tables ≡ tables_after f t (map (whole_request f) (run (evening_of f) choices))
  -- It leaves every grocer's plain sum in the statements, of each price list.
  pub statements : any_short f t ≡ false → (g : ℕ) → g < list_words f.lists f.grocers →
      get_or (ran f t choices picked).tables.statement g (pos 0) ≡ plain_sum (evening_of f) g
  -- Which steps it picked shows in the lent buffer: word i is the place of its step i, as far as the buffer reaches,
  pub places : any_short f t ≡ false → (i : ℕ) → i < step_count (evening_of f) → i < length picked →
      get_or (ran f t choices picked).picked i 0 ≡ get_or (picked_places (evening_of f) choices) i 0
  -- and the words past the steps stay.
  pub past : any_short f t ≡ false → (i : ℕ) → step_count (evening_of f) ≤ i → get_or (ran f t choices picked).picked i 0 ≡ get_or picked i 0
  -- A refusal changes no word.
  pub keeps : any_short f t ≡ true → ((ran f t choices picked).tables ≡ t) × ((ran f t choices picked).picked ≡ picked)
