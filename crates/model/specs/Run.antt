-- The run: the list of the steps it picks, until all are done.
use Rattle.std.specs.Prelude.{List, [], ◌∷◌, map, Bool, cond, not, ℕ, zero, suc, ◌%◌, get_or, drop, length, eqb}
use Rattle.laws.specs.Tables.{lay_over}
use Rattle.laws.specs.Checks.{first_met}
use Rattle.recount.specs.Recount.{counted_twice}
use Rattle.model.specs.Job.{Job}
use Rattle.model.specs.Steps.{Steps, Step, kind_number, step_place, step_at, at_place, list_of, State, permitted, fresh, effect_of}
use Rattle.model.specs.Words.{over, messages_of, step_count}
use Rattle.model.specs.Tables.{JobTables, counted_of, evening_of, StateTables, store, state_lengths, lent_short, totals_short}
use Rattle.model.specs.Ranges.{job_in_range}

module _ (j : Job) where
  -- The list of ready steps, those done left out, goes by kind, first box, second box.
  unfoldable pub ready_steps : Steps → List Step
  ready_steps d = list_of j.boxes (permitted j d)

  -- The step at place i is in that list.
  unfoldable pub listed : Steps → ℕ → Bool
  listed d = at_place j.boxes (permitted j d)

  -- The number of ready steps.
  unfoldable pub ready_count : Steps → ℕ
  ready_count d = length (ready_steps d)

  -- A choice modulo the number of ready steps picks the next. Where none is ready, none is picked (`picks`).
  unfoldable pub pick : Steps → ℕ → Step
  pick d c = get_or (ready_steps d) (c % ready_count d) (step_at j.boxes 0)

  -- The steps picked from the state s on, at most n: when choices end, the first ready step (a choice 0).
  unfoldable pub picks : ℕ → State → List ℕ → List Step
  picks zero s cs = []
  picks (suc n) s cs =
      cond (eqb (ready_count s.done) 0) []
      (pick s.done (get_or cs 0 0) ∷ picks n (effect_of j s (pick s.done (get_or cs 0 0))) (drop 1 cs))

  -- The state that steps leave, done one after the other.
  unfoldable pub after_steps : State → List Step → State
  after_steps s [] = s
  after_steps s (x ∷ xs) = after_steps (effect_of j s x) xs

  -- A run starts fresh and picks as many steps as the job has. Choices left when all steps are done are passed over.
  unfoldable pub run : List ℕ → List Step
  run cs = picks (step_count j) (fresh j) cs

  -- The place of a step: by kind, first box, second box.
  abbrev pub placed : Step → ℕ
  placed x = step_place j.boxes (kind_number x.kind) x.first x.second

  -- The places of the steps that a run picks, in the order in which it picks them.
  unfoldable pub picked_places : List ℕ → List ℕ
  picked_places cs = map placed (run cs)

-- What the run answers: words sent, messages and steps; or the number of the refusal.
pub data RunAnswer : Type 0 where
  finished : (words messages steps : ℕ) → RunAnswer
  refused : (number : ℕ) → RunAnswer

-- A refusal number and, where it is 0, the report.
unfoldable pub reported : ℕ → RunAnswer → RunAnswer
reported zero r = r
reported (suc n) r = refused (suc n)

-- What a run gives: its answer, the state's tables, and the buffer for the places of the steps picked.
pub record RunOutcome : Type 0 where
  pub answer : RunAnswer
  pub tables : StateTables
  pub picked : List ℕ

-- The refusals of a run. What its state buffers held before is not examined.
unfoldable pub run_refusals : JobTables → StateTables → List (Bool × ℕ)
run_refusals f t =
    (lent_short f t, 20) ∷ (not (job_in_range f), 21) ∷ (counted_twice (counted_of f), 9) ∷ (totals_short (evening_of f) (state_lengths t), 20) ∷ []

-- The state that a run's steps leave.
unfoldable pub run_state : Job → List ℕ → State
run_state j cs = after_steps j (fresh j) (run j cs)

-- The run: THE definition that the run's contract cites. Words sent is the count in the state; messages and steps are those of the list.
-- Where it is not refused, the places of the steps picked lie in front of the buffer p, as far as it reaches: any length will do.
unfoldable pub ran : JobTables → StateTables → List ℕ → List ℕ → RunOutcome
ran f t cs p =
    let n = first_met (run_refusals f t) in
    record {
      answer = reported n (finished (run_state (evening_of f) cs).sent (over messages_of (run (evening_of f) cs)) (length (run (evening_of f) cs)));
      tables = cond (eqb n 0) (store (evening_of f) (run_state (evening_of f) cs) t) t;
      picked = cond (eqb n 0) (lay_over (picked_places (evening_of f) cs) p) p;
    }
