-- The call of a trial (02 §10): its refusals in order, what it gives for every input, and that it is an evening.
use Rattle.std.specs.Prelude.{◌≡◌, List, [], ◌∷◌, map, Bool, true, cond, ◌||◌, not, ℕ, zero, suc, ◌<◌, ◌≤◌, get_or, length, eqb, ltb, pos}
use Rattle.laws.specs.Tables.{overwrite, lay_over}
use Rattle.laws.specs.Checks.{first_met}
use Rattle.laws.specs.Lists.{list_words}
use Rattle.recount.specs.Recount.{counted_twice}
use Rattle.model.specs.Job.{Job, plain_sum}
use Rattle.model.specs.Words.{step_count}
use Rattle.model.specs.Tables.{JobTables, counted_of, evening_of, StateTables, store, state_lengths, lent_short, totals_short}
use Rattle.model.specs.Ranges.{job_in_range}
use Rattle.model.specs.Run.{ran}
use Rattle.model.specs.Requests.{Request, accepted_in, done_in, tables_after}
use Rattle.model.specs.Demand3.{AllDone, Demand3, whole_request}
use Rattle.trial_rules.specs.Rounds.{is_preference, trial, taken_steps, idle_rounds, taken_places, trial_state, TrialEnds}

-- What a trial answers: its rounds; or the number of the refusal.
pub data TrialAnswer : Type 0 where
  tried : (rounds : ℕ) → TrialAnswer
  refused : (number : ℕ) → TrialAnswer

-- A refusal number and, where it is 0, the report.
unfoldable pub trial_answer : ℕ → ℕ → TrialAnswer
trial_answer zero rounds = tried rounds
trial_answer (suc n) rounds = refused (suc n)

-- 20 on all but the packed tables: one of the fourteen others is lent short, the preference list has fewer than six words, or idle rounds fewer than K.
unfoldable pub trial_short : JobTables → StateTables → List ℕ → List ℕ → Bool
trial_short f t prefs idle = lent_short f t || (ltb (length prefs) 6 || ltb (length idle) f.boxes)

-- The refusals of a trial. What its state buffers held before is not examined; the buffer for the places of steps may have any length.
unfoldable pub trial_refusals : JobTables → StateTables → List ℕ → List ℕ → List (Bool × ℕ)
trial_refusals f t prefs idle =
    (trial_short f t prefs idle, 20)
    ∷ (not (job_in_range f), 21)
    ∷ (counted_twice (counted_of f), 9)
    ∷ (totals_short (evening_of f) (state_lengths t), 20)
    ∷ (not (is_preference prefs), 33)
    ∷ []

-- What a trial gives: its answer, the state's tables, the idle rounds of each box, and the buffer for the places of the steps taken.
pub record TrialOutcome : Type 0 where
  pub answer : TrialAnswer
  pub tables : StateTables
  pub idle : List ℕ
  pub picked : List ℕ

-- The same, as a contract names it.
abbrev pub trial_outcome : TrialAnswer → StateTables → List ℕ → List ℕ → TrialOutcome
trial_outcome a t idle picked = record { answer = a; tables = t; idle = idle; picked = picked }

-- What a trial gives that is not refused: words past the K of idle rounds stay, and places are told as far as their buffer reaches.
unfoldable pub tried_all : Job → StateTables → List ℕ → List ℕ → List ℕ → TrialOutcome
tried_all j t prefs idle picked =
    let rs = trial j prefs in
    trial_outcome (tried (length rs)) (store j (trial_state j prefs) t)
    (overwrite j.boxes (λ b. idle_rounds b rs) idle) (lay_over (taken_places j prefs) picked)

-- The trial: THE definition that its contract cites. A refusal changes no word.
unfoldable pub tried_on : JobTables → StateTables → List ℕ → List ℕ → List ℕ → TrialOutcome
tried_on f t prefs idle picked =
    let n = first_met (trial_refusals f t prefs idle) in
    cond (eqb n 0) (tried_all (evening_of f) t prefs idle picked) (trial_outcome (refused n) t idle picked)

-- What refuses a trial of a job that settles: 20, then 33, else 0.
unfoldable pub trial_number : JobTables → StateTables → List ℕ → List ℕ → ℕ
trial_number f t prefs idle = cond (trial_short f t prefs idle || totals_short (evening_of f) (state_lengths t)) 20 (cond (is_preference prefs) 0 33)

-- The requests for the steps of a trial, in the order in which it takes them.
abbrev pub trial_requests : JobTables → List ℕ → List Request
trial_requests f prefs = map (whole_request f) (taken_steps (trial (evening_of f) prefs))

-- What the call of a trial gives, of a job that settles: an evening, whose steps go by rounds.
pub record TrialIsEvening (f : JobTables) (t : StateTables) (prefs idle picked : List ℕ) : Type 0 where
  -- Only 20 and 33 refuse it; else it reports its rounds.
  pub answer : (tried_on f t prefs idle picked).answer ≡ trial_answer (trial_number f t prefs idle) (length (trial (evening_of f) prefs))
  -- A refusal changes no word.
  pub keeps : (trial_number f t prefs idle ≡ 0 → ⊥) → tried_on f t prefs idle picked ≡ trial_outcome (refused (trial_number f t prefs idle)) t idle picked
  -- It ends with the evening's tables: all seven are those of a run into the same buffers, whatever its choices,
  pub same_end : trial_number f t prefs idle ≡ 0 → (choices places : List ℕ) → (tried_on f t prefs idle picked).tables ≡ (ran f t choices places).tables
  -- and with the evening's statements: every grocer's plain sum, of each price list.
  pub statements : trial_number f t prefs idle ≡ 0 → (g : ℕ) → g < list_words f.lists f.grocers →
      get_or (tried_on f t prefs idle picked).tables.statement g (pos 0) ≡ plain_sum (evening_of f) g
  -- Idle rounds are told of each box; the words past the K stay.
  pub idle_told : trial_number f t prefs idle ≡ 0 → (b : ℕ) → b < f.boxes →
      get_or (tried_on f t prefs idle picked).idle b 0 ≡ idle_rounds b (trial (evening_of f) prefs)
  pub idle_past : trial_number f t prefs idle ≡ 0 → (b : ℕ) → f.boxes ≤ b → get_or (tried_on f t prefs idle picked).idle b 0 ≡ get_or idle b 0
  -- Which steps it took shows in the lent buffer: word i is the place of its step i, as far as the buffer reaches,
  pub places : trial_number f t prefs idle ≡ 0 → (i : ℕ) → i < step_count (evening_of f) → i < length picked →
      get_or (tried_on f t prefs idle picked).picked i 0 ≡ get_or (taken_places (evening_of f) prefs) i 0
  -- and the words past the steps stay.
  pub past : trial_number f t prefs idle ≡ 0 → (i : ℕ) → step_count (evening_of f) ≤ i →
      get_or (tried_on f t prefs idle picked).picked i 0 ≡ get_or picked i 0
  -- Requests for its steps, in their order, are all accepted, do all steps, and leave its tables;
  pub accepted : is_preference prefs ≡ true → accepted_in f t (trial_requests f prefs) ≡ taken_steps (trial (evening_of f) prefs)
  pub all_done : is_preference prefs ≡ true → AllDone (evening_of f) (done_in f t (trial_requests f prefs))
  pub tables : trial_number f t prefs idle ≡ 0 → (tried_on f t prefs idle picked).tables ≡ tables_after f t (trial_requests f prefs)
  -- so all that demand 3 says of a list of requests holds of them.
  pub list : Demand3 f t (trial_requests f prefs)
  -- Rounds and idle rounds.
  pub ends : is_preference prefs ≡ true → TrialEnds (evening_of f) prefs
