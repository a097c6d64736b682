-- Trying the floor (02 §10): rounds in which each box takes at most one step, chosen by a preference list.
use Rattle.std.specs.Prelude.{◌≡◌, List, [], ◌∷◌, ◌++◌, map, Bool, cond, ℕ, zero, suc, ◌+◌, ◌-◌, ◌*◌, ◌/◌, ◌%◌, ◌<◌, ◌≤◌, get_or, length, eqb}
use Rattle.laws.specs.Below.{naturals, only, any, all, count, find}
use Rattle.model.specs.Job.{Job}
use Rattle.model.specs.Steps.{kind_of, Steps, Step, State, permitted, fresh}
use Rattle.model.specs.Words.{over, step_count}
use Rattle.model.specs.Run.{ready_count, after_steps, placed}

-- The first six words of a preference list are each of 1 to 6 once. 33 where they are not.
unfoldable pub is_preference : List ℕ → Bool
is_preference prefs = all 6 (λ n. eqb (count 6 (λ i. eqb (get_or prefs i 0) (suc n))) 1)

-- The steps of box a by preference and then by second box, of k boxes: the step of place i among these.
unfoldable pub preferred : ℕ → List ℕ → ℕ → ℕ → Step
preferred k prefs a i = record { kind = kind_of (get_or prefs (i / k) 0); first = a; second = i % k }

module _ (j : Job) (prefs : List ℕ) where
  -- Box a has the step of place i ready, where the steps of d are done.
  unfoldable pub has_ready : Steps → ℕ → ℕ → Bool
  has_ready d a i = let x = preferred j.boxes prefs a i in permitted j d x.kind x.first x.second

  -- Box a has some step ready.
  unfoldable pub acts : Steps → ℕ → Bool
  acts d a = any (6 * j.boxes) (has_ready d a)

  -- The one of them that it takes: the first by preference and then by second box.
  unfoldable pub choice : Steps → ℕ → Step
  choice d a = preferred j.boxes prefs a (find (6 * j.boxes) (has_ready d a))

  -- What the first n boxes do in a round, where the steps of d were done when it began: in ascending number, each that had a step ready then
  -- takes one of those.
  unfoldable pub round : Steps → ℕ → List Step
  round d zero = []
  round d (suc n) = round d n ++ cond (acts d n) (choice d n ∷ []) []

  -- The rounds from the state s on, at most n, until no step is ready.
  unfoldable pub rounds : ℕ → State → List (List Step)
  rounds zero s = []
  rounds (suc n) s =
      let r = round s.done j.boxes in
      cond (eqb (ready_count j s.done) 0) [] (r ∷ rounds n (after_steps j s r))

  -- A trial starts fresh as a run does. Rounds are at most the job's steps.
  unfoldable pub trial : List (List Step)
  trial = rounds (step_count j) (fresh j)

-- The steps of all rounds, one after the other.
unfoldable pub taken_steps : List (List Step) → List Step
taken_steps [] = []
taken_steps (r ∷ rs) = r ++ taken_steps rs

-- The steps of a list that box b takes.
unfoldable pub of_box : ℕ → List Step → ℕ
of_box b xs = over (λ k a c. only naturals (eqb a b) 1) xs

-- The rounds in which box b takes no step. A box that has finished counts as idle.
unfoldable pub idle_rounds : ℕ → List (List Step) → ℕ
idle_rounds b [] = 0
idle_rounds b (r ∷ rs) = only naturals (eqb (of_box b r) 0) 1 + idle_rounds b rs

-- The places of the steps that a trial takes, round by round in the order in which they are done.
unfoldable pub taken_places : Job → List ℕ → List ℕ
taken_places j prefs = map (placed j) (taken_steps (trial j prefs))

-- The state that these steps leave.
unfoldable pub trial_state : Job → List ℕ → State
trial_state j prefs = after_steps j (fresh j) (taken_steps (trial j prefs))

-- What every trial of a job comes to whose preference list is one.
pub record TrialEnds (j : Job) (prefs : List ℕ) : Type 0 where
  -- Every round before the end does at least one step,
  pub works : (i : ℕ) → i < length (trial j prefs) → 1 ≤ length (get_or (trial j prefs) i [])
  -- and each box at most one.
  pub once : (b i : ℕ) → of_box b (get_or (trial j prefs) i []) ≤ 1
  -- Rounds are at most the job's steps,
  pub at_most : length (trial j prefs) ≤ step_count j
  -- and at least steps divided by K rounded up: K times as many are enough for all steps.
  pub at_least : (step_count j + j.boxes - 1) / j.boxes ≤ length (trial j prefs)
  pub enough : step_count j ≤ length (trial j prefs) * j.boxes
  -- The trial does all steps of the job.
  pub steps : length (taken_steps (trial j prefs)) ≡ step_count j
  -- In each round a box takes a step or is idle, finished or not.
  pub idle : (b : ℕ) → idle_rounds b (trial j prefs) + of_box b (taken_steps (trial j prefs)) ≡ length (trial j prefs)
