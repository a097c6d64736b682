-- An evening of forecasting: one statement about every list of step requests, as demand 3 is one for money.
use Rattle.std.specs.Prelude.{◌≡◌, List, [], ◌∷◌, Bool, true, false, cond, ◌&&◌, not, ℕ, ◌<◌, ◌≤◌, length}
use Rattle.laws.specs.Checks.{first_met}
use Rattle.model.specs.Words.{owner_words, step_count}
use Rattle.model.specs.Step.{is_kind, StepAnswer, step_answer, is_accepted}
use Rattle.forecast_rules.specs.Doubles.{zero+}
use Rattle.forecast_rules.specs.Lines.{Forecast, forecast_sum}
use Rattle.forecast_rules.specs.Steps.{Kind, Steps, Step, State, mark, has_step, permitted, effect_of}
use Rattle.forecast_rules.specs.Boxes.{state_by_rules}
use Rattle.forecast_rules.specs.Tables.{ForecastTables, forecast_of, StateTables, view, store}
use Rattle.forecast_rules.specs.Ranges.{state_in_range}
use Rattle.forecast_rules.specs.Step.{step_of, step_rules}
use Rattle.forecast_rules.specs.Requests.{Request, lends_short, answer_to, serve, tables_after, answers_in, accepted_in, done_in}

-- Some step of a set.
pub record SomeStep (d : Steps) : Type 0 where
  pub kind : Kind
  pub first : ℕ
  pub second : ℕ
  pub holds : d kind first second ≡ true

-- All steps of the forecast are done.
unfoldable pub AllDone : Forecast → Steps → Type 0
AllDone f d = (k : Kind) (a b : ℕ) → has_step f k a b ≡ true → d k a b ≡ true

module _ (f : ForecastTables) where
  -- A request is permitted when its step is and no buffer is shorter than its table.
  unfoldable pub permitted_request : Steps → Request → Bool
  permitted_request d r =
      let q = step_of r.asked in
      not (lends_short f r) && (is_kind r.asked.kind && permitted (forecast_of f) d q.kind q.first q.second)

  -- What refuses a request where the steps of d are done: 20, 22 to 26 in this order, and never 21 or 34.
  unfoldable pub refusal_of : Steps → Request → ℕ
  refusal_of d r = cond (lends_short f r) 20 (first_met (step_rules (forecast_of f) d r.asked))

  -- The answers to the requests of a list by the rules alone, where the steps of d are done: a permitted request adds its step.
  unfoldable pub answers_by_rules : Steps → List Request → List StepAnswer
  answers_by_rules d [] = []
  answers_by_rules d (r ∷ rs) =
      let q = step_of r.asked in
      step_answer (refusal_of d r) ∷ answers_by_rules (cond (permitted_request d r) (mark d q.kind q.first q.second) d) rs

-- A finished forecast.
pub record Finished (f : Forecast) (s : State) : Type 0 where
  -- The forecast of each grocer is that of the definition, bit for bit.
  pub sums : (g : ℕ) → g < f.job.grocers → s.forecast g ≡ forecast_sum f g
  -- Nothing is left of part sums, in transit or held.
  pub no_parts : (b g : ℕ) → b < f.job.boxes → g < f.job.grocers → s.part b g ≡ zero+
  pub no_transit : (b g : ℕ) → s.part_transit b g ≡ zero+
  pub no_held : (b g : ℕ) → g < f.job.grocers → s.held b g ≡ zero+
  pub no_values : (b o : ℕ) → s.value_transit b o ≡ zero+
  -- The words sent are those of the owner tables.
  pub words_sent : s.sent ≡ owner_words f.job

-- What holds after the list rs of requests on the tables f, from a fresh state in the buffers t, where
-- forecast is what the tables f hold, accepted are the steps accepted in the list, done is the set of them,
-- tables are the state's tables that the list leaves, and state is what they hold. `Evening` below fills these in.
pub record AfterRequests (f : ForecastTables) (t : StateTables) (rs : List Request)
    (forecast : Forecast) (accepted : List Step) (done : Steps) (tables : StateTables) (state : State) : Type 0 where
  -- Every request of the list is answered as the rules say, from the requests before it alone.
  pub answers : answers_in f t rs ≡ answers_by_rules f (λ k a b. false) rs
  -- One more request is answered by the first condition met over the steps done: 20, 22 to 26, and never 21 or 34.
  pub next_answer : (r : Request) → answer_to f tables r ≡ step_answer (refusal_of f done r)
  -- It is accepted just where it is permitted.
  pub accepts : (r : Request) → is_accepted (answer_to f tables r) ≡ permitted_request f done r
  -- An accepted request does what its step does; any other leaves the tables as they were.
  pub does : (r : Request) → permitted_request f done r ≡ true → view forecast (serve f tables r) ≡ effect_of forecast state (step_of r.asked)
  pub keeps : (r : Request) → permitted_request f done r ≡ false → serve f tables r ≡ tables
  -- Every box holds what the rules say, told from the steps done alone.
  pub holds : state ≡ state_by_rules forecast done
  -- The tables are the state that they hold, written into the buffers t: words past the needed length stay.
  pub stays : tables ≡ store forecast state t
  -- Every word is in range: values within that of 34, sums finite within ±10^15.
  pub in_range : state_in_range f tables ≡ true
  -- The marks are the steps done in the list.
  pub marks : (k : Kind) (a b : ℕ) → state.done k a b ≡ done k a b
  -- Some step is permitted until all are done.
  pub goes_on : (k : Kind) (a b : ℕ) → has_step forecast k a b ≡ true → done k a b ≡ false → SomeStep (permitted forecast done)
  -- At most 2 × K + 2 × (messages) requests are accepted, and all steps are done just where so many were.
  pub at_most : length accepted ≤ step_count forecast.job
  pub all_done : AllDone forecast done → length accepted ≡ step_count forecast.job
  pub all_taken : length accepted ≡ step_count forecast.job → AllDone forecast done
  -- All done: the forecast is finished, with the sums of the definition.
  pub finish : AllDone forecast done → Finished forecast state
  -- Every permitted order ends in the same bits: another list that does all steps, in whatever buffers, leaves the same state.
  pub same_state : AllDone forecast done → (u : StateTables) (ps : List Request) → AllDone forecast (done_in f u ps) → view forecast (tables_after f u ps)
      ≡ state

-- The evening of forecasting: what holds after the list rs of requests on the tables f, from a fresh state in the buffers t.
abbrev pub Evening : ForecastTables → StateTables → List Request → Type 0
Evening f t rs =
    AfterRequests f t rs (forecast_of f) (accepted_in f t rs) (done_in f t rs) (tables_after f t rs) (view (forecast_of f) (tables_after f t rs))
