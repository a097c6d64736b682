-- What the entry points of the forecast give: a number for the answer, and the lent words.
use Rattle.std.specs.Prelude.{ℕ}
use Rattle.model.specs.Step.{StepAnswer, accepted, refused}
use Rattle.forecast_rules.specs.Tables.{StateTables}
use Rattle.forecast_rules.specs.Step.{Outcome}

-- The answer as a number: 0 where the request is accepted, or the refusal's.
unfoldable pub answer_number : StepAnswer → ℕ
answer_number accepted = 0
answer_number (refused n) = n

-- A number, and the state's tables as they are afterwards.
pub record ForecastTold : Type 0 where
  pub answer : ℕ
  pub tables : StateTables

-- The same, as a contract names it.
abbrev pub forecast_told : ℕ → StateTables → ForecastTold
forecast_told n t = record { answer = n; tables = t }

-- What a call of the forecast gives, its answer as a number.
unfoldable pub forecast_as : Outcome → ForecastTold
forecast_as o = forecast_told (answer_number o.answer) o.tables
