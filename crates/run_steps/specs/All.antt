-- What the steps of an order require, one and all, and what they leave in the tables of prices and totals.
use Rattle.std.specs.Prelude.{◌≡◌, Bool, true, false, List, [], ℕ, suc, ◌+◌, ◌*◌, ◌≤◌, ◌<◌, ℤ, length, get_or}
use Rattle.laws.specs.Limits.{max_lists}
use Rattle.laws.specs.Listed.{Listed}
use Rattle.laws.specs.Lists.{list_words}
use Rattle.laws.specs.Tables.{tabulate}
use Rattle.model.specs.Job.{Job, need_word, sharer_word}
use Rattle.model.specs.Steps.{State, fresh}
use Rattle.model.specs.Words.{over, messages_of}
use Rattle.tables.specs.declared.Job.{Job as LentJob}
use Rattle.tables.specs.declared.State.{State as LentState}
use Rattle.model.specs.Tables.{JobTables, job_tables, job_of, evening_of, StateTables, state_tables, store, job_lengths, job_short}
use Rattle.model.specs.PackedTotals.{totals_length}
use Rattle.model.specs.Ranges.{under}
use Rattle.model.specs.Handed.{Handed}
use Rattle.model.specs.Run.{after_steps}
use Rattle.step_totals.specs.Row.{Tallies}
use Rattle.step_apply.specs.Apply.{Spots, SpanOf, span_box, span_group, prices_of, PriceStepIn, PriceStepOut, TotalStepIn, TotalStepOut}
use Rattle.step_links.specs.Links.{LinkedPairs}
use Rattle.step_places.specs.Order.{steps_in, mark_all, no_steps, permitted_at}

-- The tables of prices and totals alone.
abbrev pub without_marks : List ℕ → List ℕ → List ℤ → List ℤ → List ℤ → StateTables
without_marks known transit working totals statement = state_tables known transit working totals statement [] []

-- Those of a lent state.
abbrev pub bare : LentState → StateTables
bare s = without_marks s.known.now s.price_transit.now s.working.now s.total_transit.now s.statement.now

-- A lent job's tables as its steps are done on them, without bags: its tally_box are the standing boxes.
abbrev pub standing_job : LentJob → JobTables
standing_job j =
    job_tables j.sizes.boxes j.sizes.grocers j.sizes.offers j.sizes.tallies j.sizes.lists j.price.now j.offer_owner.now j.grocer_owner.now j.tally_grocer.now
    j.tally_box.now j.tally_offer.now j.tally_count.now

-- The word that tells where the list of a step begins, of 18 words a box, for its offers and for its totals; the next word tells where it ends.
unfoldable pub head_of : ℕ → ℕ → ℕ → ℕ
head_of kind a b = span_box kind a b * 18 + span_group kind a b

-- What the steps of a job look up: links of tallies, the places of tallies, where the offers of messages and the spans of totals begin, the offers listed,
-- and the grocer of each place.
pub record Looked (f : JobTables) (tlinks places offer_heads offers heads grocers : List ℕ) : Type 0 where
  pub tallies_linked : LinkedPairs f.tallies f.tally_box f.tally_offer f.offer_owner tlinks
  pub spots_are : (a : ℕ) → a < f.boxes → Spots f a places
  pub offer_heads_long : f.boxes * 18 ≤ length offer_heads
  pub offers_are : (kind a b : ℕ) → a < f.boxes → b < f.boxes → kind ≤ 3 → (kind ≡ 2 → ⊥) →
      Listed f.offers (prices_of (job_of f) kind a b) (get_or offer_heads (head_of kind a b) 0) (get_or offer_heads (head_of kind a b + 1) 0) offers
  pub heads_long : f.boxes * 18 ≤ length heads
  pub spans_are : (kind a b : ℕ) → a < f.boxes → b < f.boxes → 4 ≤ kind →
      SpanOf (job_of f) kind a b (get_or heads (head_of kind a b) 0) (get_or heads (head_of kind a b + 1) 0) grocers

-- What one step of either side requires, prices or totals, by its kind.
pub record StepIn (e : Tallies) (lists : ℕ) (tlinks offer_heads offers heads grocers known transit : List ℕ) (working totals statement : List ℤ)
    (kind a b : ℕ) : Type 0 where
  pub lists_in : lists ≤ max_lists
  pub head_in : head_of kind a b < 1_000
  pub offer_head_in : head_of kind a b + 1 < length offer_heads
  pub total_head_in : head_of kind a b + 1 < length heads
  pub price_side : kind ≤ 3 →
      PriceStepIn e (suc lists) (get_or offer_heads (head_of kind a b) 0)
      (get_or offer_heads (head_of kind a b + 1) 0) offers tlinks known transit working kind a b
  pub total_side : 3 < kind →
      TotalStepIn (get_or heads (head_of kind a b) 0) (get_or heads (head_of kind a b + 1) 0) (suc lists) grocers working totals statement kind

-- What it leaves, and how many words it sent: the tables of the other side stay.
pub record StepOut (e : Tallies) (lists : ℕ) (passes : ℕ → Bool) (offer_heads heads grocers : List ℕ) (t t' : StateTables) (kind a b sent : ℕ) : Type 0 where
  pub price_side : kind ≤ 3 → PriceStepOut e (suc lists) (get_or offer_heads (head_of kind a b) 0) (get_or offer_heads (head_of kind a b + 1) 0) passes
      t.known t.price_transit t.working kind a b t'.known t'.price_transit t'.working sent
      × (t'.total_transit ≡ t.total_transit) × (t'.statement ≡ t.statement)
  pub total_side : 3 < kind → TotalStepOut (get_or heads (head_of kind a b) 0) (get_or heads (head_of kind a b + 1) 0) (suc lists) grocers
      t.working t.total_transit t.statement kind t'.working t'.total_transit t'.statement sent
      × (t'.known ≡ t.known) × (t'.price_transit ≡ t.price_transit)

-- The first n words of an order are places of steps of the job, each permitted where those before it are done.
pub record Does (j : Job) (n : ℕ) (order : List ℕ) : Type 0 where
  pub long : n ≤ length order
  pub few : n ≤ 1536
  pub places_in : under (6 * j.boxes * j.boxes) n order ≡ true
  pub in_turn_lem : (i : ℕ) → i < n → permitted_at j (mark_all no_steps (steps_in j.boxes i order)) (get_or order i 0) ≡ true

-- What doing all steps of an order requires: a run may begin, need words and sharer words are the job's, and the order is one of its steps.
pub record AllIn (f : JobTables) (t : StateTables) (needs sharers order : List ℕ) (n : ℕ) : Type 0 where
  pub job_in_lem : Handed f
  pub job_long : job_short f (job_lengths f) ≡ false
  pub known_long_lem : f.boxes * list_words f.lists f.offers ≤ length t.known
  pub transit_long_lem : f.boxes * list_words f.lists f.offers ≤ length t.price_transit
  pub working_long_lem : totals_length (evening_of f) ≤ length t.working
  pub totals_long : totals_length (evening_of f) ≤ length t.total_transit
  pub statement_long_lem : list_words f.lists f.grocers ≤ length t.statement
  pub needs_are : needs ≡ tabulate 500 (need_word (job_of f))
  pub sharers_are : sharers ≡ tabulate 255 (sharer_word (job_of f))
  pub does : Does (job_of f) n order

-- The state after the steps of an order, from a fresh one.
unfoldable pub after_order : Job → ℕ → List ℕ → State
after_order j n order = after_steps j (fresh j) (steps_in j.boxes n order)

-- The tables of prices and totals t' hold the state s, written over t.
pub record Holds (j : Job) (s : State) (t t' : StateTables) : Type 0 where
  pub known : t'.known ≡ (store j s t).known
  pub price_transit : t'.price_transit ≡ (store j s t).price_transit
  pub working : t'.working ≡ (store j s t).working
  pub total_transit : t'.total_transit ≡ (store j s t).total_transit
  pub statement : t'.statement ≡ (store j s t).statement

-- What it leaves after n steps: the tables hold the state after them, and words and messages sent are counted.
pub record AllOut (j : Job) (t t' : StateTables) (order : List ℕ) (n words messages : ℕ) : Type 0 where
  pub holds : Holds j (after_order j n order) t t'
  pub words_are : words ≡ (after_order j n order).sent
  pub messages_are : messages ≡ over messages_of (steps_in j.boxes n order)
