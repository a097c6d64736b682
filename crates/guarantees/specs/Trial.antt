-- Trying the floor before moving boxes (02 §10): what holds of every trial.
use Rattle.std.specs.Prelude.{◌≡◌, List, ℕ}
use Rattle.laws.specs.Checks.{first_met}
use Rattle.model.specs.Tables.{JobTables, StateTables}
use Rattle.model.specs.Ranges.{Settles}
use Rattle.trial_rules.specs.Trial.{refused, trial_refusals, trial_outcome, tried_on, TrialIsEvening}

-- What trials come to.
pub record TrialHolds : Type 0 where
  -- A trial answers the first of its conditions; refused, it leaves every word of the seven tables, of idle rounds and of the buffer for places.
  pub refusal : (f : JobTables) (t : StateTables) (prefs idle picked : List ℕ) → (first_met (trial_refusals f t prefs idle) ≡ 0 → ⊥) →
      tried_on f t prefs idle picked ≡ trial_outcome (refused (first_met (trial_refusals f t prefs idle))) t idle picked
  -- "Every round before the end does at least one step", "rounds are at most the job's steps and at least steps divided by K rounded up", and
  -- "the trial ends with the evening's statements": of every job that settles, every preference list and whatever the buffers held.
  pub evening : (f : JobTables) → Settles f → (t : StateTables) (prefs idle picked : List ℕ) → TrialIsEvening f t prefs idle picked
