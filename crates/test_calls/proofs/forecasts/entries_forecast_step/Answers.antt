-- `entries_forecast_step` gives what the forecast's call gives.
use borrow.Author.Rules.{rules}
use Rattle.test_calls.proofs.Forecast.{forecast_told_lem}
use Rattle.test_calls.proofs.forecasts.entries_forecast_step.Goals as goal

pub returns : goal.returns
returns c =
    let told = forecast_told_lem _ _ _ _ c.number.ensures c.forecast_step.ensures.answer in
    search (rules, told)
