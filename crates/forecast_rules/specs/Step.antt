-- The forecast's two calls, a fresh state and a step: their answers for every input, and the tables that they leave.
use Rattle.std.specs.Prelude.{List, [], ◌∷◌, ◌++◌, Bool, cond, ◌&&◌, not, ℕ, eqb, ltb}
use Rattle.laws.specs.Checks.{first_met}
use Rattle.model.specs.Step.{Asked, is_kind, StepAnswer, step_answer}
use Rattle.forecast_rules.specs.Lines.{Forecast, bad_line}
use Rattle.forecast_rules.specs.Steps.{Kind, kind_of, Steps, Step, one_box, fits, ready, fresh, effect}
use Rattle.forecast_rules.specs.Tables.{ForecastTables, forecast_of, StateTables, view, store, lent_short}
use Rattle.forecast_rules.specs.Ranges.{forecast_in_range, state_in_range}

-- The step that numbers ask for.
unfoldable pub step_of : Asked → Step
step_of q = record { kind = kind_of q.kind; first = q.first; second = q.second }

-- Both boxes are below K, and they are equal or differ as the kind asks.
unfoldable pub boxes_fit : Forecast → Kind → ℕ → ℕ → Bool
boxes_fit f k a b = ltb a f.job.boxes && (ltb b f.job.boxes && cond (one_box k) (eqb a b) (not (eqb a b)))

-- Conditions 22 to 26 as for money, where the steps of d are done.
unfoldable pub step_rules : Forecast → Steps → Asked → List (Bool × ℕ)
step_rules f d q =
    let k = kind_of q.kind in
    (not (is_kind q.kind), 22)
    ∷ (not (boxes_fit f k q.first q.second), 23)
    ∷ (not (fits f k q.first q.second), 24)
    ∷ (d k q.first q.second, 25)
    ∷ (not (ready f d k q.first q.second), 26)
    ∷ []

module _ (f : ForecastTables) (t : StateTables) where
  -- The tables with the effect of the step that is asked for.
  unfoldable pub moved : Asked → StateTables
  moved q = store (forecast_of f) (effect (forecast_of f) (view (forecast_of f) t) (kind_of q.kind) q.first q.second) t

  -- The refusals of a step: 34 straight after 21, and the late 21 after all else.
  unfoldable pub refusals : Asked → List (Bool × ℕ)
  refusals q =
      (lent_short f t, 20)
      ∷ (not (forecast_in_range f && state_in_range f t), 21)
      ∷ (bad_line (forecast_of f), 34)
      ∷ step_rules (forecast_of f) (view (forecast_of f) t).done q
      ++ (not (state_in_range f (moved q)), 21)
      ∷ []

  -- The number of the first condition met, or 0 where none is.
  unfoldable pub step_refusal : Asked → ℕ
  step_refusal q = first_met (refusals q)

  -- The tables that the step leaves: a refusal changes no word.
  unfoldable pub step_tables : Asked → StateTables
  step_tables q = cond (eqb (step_refusal q) 0) (moved q) t

  -- The refusals of the call for a fresh state. What its buffers held before is not examined.
  unfoldable pub fresh_refusals : List (Bool × ℕ)
  fresh_refusals = (lent_short f t, 20) ∷ (not (forecast_in_range f), 21) ∷ (bad_line (forecast_of f), 34) ∷ []

-- A fresh state of the forecast, written into the tables t.
unfoldable pub fresh_tables : ForecastTables → StateTables → StateTables
fresh_tables f t = store (forecast_of f) (fresh (forecast_of f)) t

-- What a call gives: its answer, and the state's tables.
pub record Outcome : Type 0 where
  pub answer : StepAnswer
  pub tables : StateTables

-- The same, as a contract names it.
abbrev pub outcome : StepAnswer → StateTables → Outcome
outcome a t = record { answer = a; tables = t }

-- The step: THE definition that its contract cites.
unfoldable pub stepped : ForecastTables → StateTables → Asked → Outcome
stepped f t q = outcome (step_answer (step_refusal f t q)) (step_tables f t q)

-- The call for a fresh state: THE definition that its contract cites.
unfoldable pub freshened : ForecastTables → StateTables → Outcome
freshened f t = let n = first_met (fresh_refusals f t) in outcome (step_answer n) (cond (eqb n 0) (fresh_tables f t) t)
