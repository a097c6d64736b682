-- The step: its refusals in order, its answer for every input, and the tables that it leaves.
use Rattle.std.specs.Prelude.{List, [], ◌∷◌, ◌++◌, Bool, true, false, cond, ◌&&◌, not, ℕ, zero, suc, eqb, ltb, leb}
use Rattle.laws.specs.Checks.{first_met}
use Rattle.recount.specs.Recount.{counted_twice}
use Rattle.model.specs.Job.{Job}
use Rattle.model.specs.Steps.{Kind, kind_of, Steps, Step, one_box, fits, ready, fresh, effect}
use Rattle.model.specs.Tables.{JobTables, counted_of, evening_of, StateTables, view, store, state_lengths, lent_short, totals_short}
use Rattle.model.specs.Ranges.{job_in_range, state_in_range, totals_in_range}

-- What a request asks for, as three numbers: kind, first box, second box.
pub record Asked : Type 0 where
  pub kind : ℕ
  pub first : ℕ
  pub second : ℕ

-- The step asked for, as a contract names it.
abbrev pub asked : ℕ → ℕ → ℕ → Asked
asked k a b = record { kind = k; first = a; second = b }

-- The kind is 1 to 6.
unfoldable pub is_kind : ℕ → Bool
is_kind k = leb 1 k && leb k 6

-- The step that numbers ask for.
unfoldable pub step_of : Asked → Step
step_of q = record { kind = kind_of q.kind; first = q.first; second = q.second }

-- Both boxes are below K, and they are equal or differ as the kind asks.
unfoldable pub boxes_fit : Job → Kind → ℕ → ℕ → Bool
boxes_fit j k a b = ltb a j.boxes && (ltb b j.boxes && cond (one_box k) (eqb a b) (not (eqb a b)))

-- Conditions 22 to 26, where the steps of d are done.
unfoldable pub step_rules : Job → Steps → Asked → List (Bool × ℕ)
step_rules j d q =
    let k = kind_of q.kind in
    (not (is_kind q.kind), 22)
    ∷ (not (boxes_fit j k q.first q.second), 23)
    ∷ (not (fits j k q.first q.second), 24)
    ∷ (d k q.first q.second, 25)
    ∷ (not (ready j d k q.first q.second), 26)
    ∷ []

module _ (f : JobTables) (t : StateTables) where
  -- The tables with the effect of the step that is asked for.
  unfoldable pub moved : Asked → StateTables
  moved q = store (evening_of f) (effect (evening_of f) (view (evening_of f) t) (kind_of q.kind) q.first q.second) t

  -- The refusals of a step. By number, but that 20 on the packed tables and then 21 on their words come straight after 21 on all else and 9;
  -- the first condition met is always the one refused.
  -- An entry whose finished result would leave a range refuses with 21, after all its other checks.
  unfoldable pub refusals : Asked → List (Bool × ℕ)
  refusals q =
      (lent_short f t, 20)
      ∷ (not (job_in_range f && state_in_range f t), 21)
      ∷ (counted_twice (counted_of f), 9)
      ∷ (totals_short (evening_of f) (state_lengths t), 20)
      ∷ (not (totals_in_range (evening_of f) t), 21)
      ∷ step_rules (evening_of f) (view (evening_of f) t).done q
      ++ (not (state_in_range f (moved q) && totals_in_range (evening_of f) (moved q)), 21)
      ∷ []

  -- The number of the first condition met, or 0 where none is.
  unfoldable pub step_refusal : Asked → ℕ
  step_refusal q = first_met (refusals q)

  -- The tables that the step leaves: a refusal changes no word.
  unfoldable pub step_tables : Asked → StateTables
  step_tables q = cond (eqb (step_refusal q) 0) (moved q) t

-- A fresh state of the job, written into the tables t.
unfoldable pub fresh_tables : JobTables → StateTables → StateTables
fresh_tables f t = store (evening_of f) (fresh (evening_of f)) t

-- What a step answers: the request is accepted, or refused under a number.
pub data StepAnswer : Type 0 where
  accepted : StepAnswer
  refused : (number : ℕ) → StepAnswer

-- The answer by the number of the first condition met: accepted where none is.
unfoldable pub step_answer : ℕ → StepAnswer
step_answer zero = accepted
step_answer (suc n) = refused (suc n)

-- The request is accepted.
unfoldable pub is_accepted : StepAnswer → Bool
is_accepted accepted = true
is_accepted (refused n) = false

-- What a step gives: its answer, and the state's tables.
pub record Outcome : Type 0 where
  pub answer : StepAnswer
  pub tables : StateTables

-- What a step gives, as a contract names it.
abbrev pub outcome : StepAnswer → StateTables → Outcome
outcome a t = record { answer = a; tables = t }

-- The step: THE definition that its contract cites.
unfoldable pub stepped : JobTables → StateTables → Asked → Outcome
stepped f t q = outcome (step_answer (step_refusal f t q)) (step_tables f t q)
