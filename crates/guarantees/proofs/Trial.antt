-- Trying the floor before moving boxes. Assumes nothing.
use mathlib.Core.Path.{◌≡◌}
use mathlib.Core.List.{List}
use Prim.Native.Nat.{ℕ}
use borrow.Author.Tests.{ne_eqb}
use Rattle.laws.specs.Checks.{first_met}
use Rattle.model.specs.Tables.{JobTables, StateTables}
use Rattle.trial_rules.specs.Trial.{refused, trial_refusals, trial_outcome, tried_on}
use Rattle.trial_rules.proofs.Trial.{trial_is_evening}
use Rattle.guarantees.specs.Trial.{TrialHolds}

trial_refused : (f : JobTables) (t : StateTables) (prefs idle picked : List ℕ) → (first_met (trial_refusals f t prefs idle) ≡ 0 → ⊥) →
    tried_on f t prefs idle picked ≡ trial_outcome (refused (first_met (trial_refusals f t prefs idle))) t idle picked
unfolding tried_on
trial_refused f t prefs idle picked h = rw (ne_eqb (first_met (trial_refusals f t prefs idle)) 0 h)

pub trial_holds : TrialHolds
trial_holds = record { refusal = trial_refused; evening = trial_is_evening }
