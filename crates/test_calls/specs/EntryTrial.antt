-- What the entry point of the trial gives: a number for the answer, the state's tables, idle rounds and places.
use Rattle.std.specs.Prelude.{List, ℕ, ◌+◌}
use Rattle.model.specs.Tables.{StateTables}
use Rattle.trial_rules.specs.Trial.{TrialAnswer, tried, refused, TrialOutcome}

-- The trial's answer as one number: its rounds above all refusals, or the refusal's number.
unfoldable pub rounds_number : TrialAnswer → ℕ
rounds_number (tried rounds) = 65536 + rounds
rounds_number (refused number) = number

-- A number, and the lent words as they are afterwards.
pub record TrialTold : Type 0 where
  pub answer : ℕ
  pub tables : StateTables
  pub idle : List ℕ
  pub picked : List ℕ

-- The same, as a contract names it.
abbrev pub trial_told : ℕ → StateTables → List ℕ → List ℕ → TrialTold
trial_told n t idle picked = record { answer = n; tables = t; idle = idle; picked = picked }

-- What the trial gives, its answer as a number.
unfoldable pub trial_told_as : TrialOutcome → TrialTold
trial_told_as o = trial_told (rounds_number o.answer) o.tables o.idle o.picked
