-- What a call of the forecast gives, its answer told as a number. Assumes nothing.
use mathlib.Core.Path.{◌≡◌, ap}
use Prim.Native.Nat.{ℕ}
use Rattle.std.specs.Prelude.{Result, Ok, Err}
use Rattle.refusals.specs.declared.Refusal.{Refusal}
use Rattle.refusals.specs.Numbers.{number}
use Rattle.forecast.specs.Answer.{answer_of}
use Rattle.forecast_rules.specs.Tables.{StateTables}
use Rattle.forecast_rules.specs.Step.{Outcome, outcome}
use Rattle.test_calls.specs.EntryForecast.{answer_number, forecast_told, forecast_as}

pub forecast_told_lem : (o : Outcome) (a : Result (Unit {0}) Refusal) (r : ℕ) (t : StateTables) → r ≡ number a → outcome (answer_of a) t ≡ o →
    forecast_told r t ≡ forecast_as o
unfolding forecast_as answer_of answer_number
forecast_told_lem o (Ok x) r t e h = rw e (ap (λ (o : Outcome). forecast_told (answer_number o.answer) o.tables) h)
forecast_told_lem o (Err x) r t e h = rw e (ap (λ (o : Outcome). forecast_told (answer_number o.answer) o.tables) h)
