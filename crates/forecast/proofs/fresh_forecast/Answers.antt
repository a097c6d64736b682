-- `forecast::fresh_forecast` meets its contract: refused under a number, or every table written. Assumes nothing.
use Rattle.std.proofs.lemmas.Result.{err_from_is_err_and}
use Rattle.refusals.proofs.Numbers.{number_positive}
use Rattle.forecast_doubles.specs.Lent.{forecast_held, state_held}
use Rattle.forecast.specs.Answer.{answer_of}
use Rattle.forecast.proofs.Made.{fresh_is, fresh_refused, fresh_accepted, words, values_in, fresh_met}
use Rattle.forecast.proofs.fresh_forecast.Goals as goal

pub returns-in_err-fresh_refusal-clause-answer : goal.returns-in_err-fresh_refusal-clause-answer
unfolding answer_of
returns-in_err-fresh_refusal-clause-answer c =
    let p = err_from_is_err_and c.from_residual.result c.from_residual.ensures.1 in
    rw (p.1, p.2) (fresh_refused (forecast_held c.args.f.now) (state_held c.args.s.now) _ (fresh_met _ _ _ _ c.view.ensures c.in_err-fresh_refusal.ensures) (number_positive _))

pub fresh_values-requires : goal.fresh_values-requires
fresh_values-requires c =
    values_in (forecast_held c.args.f.now) (state_held c.args.s.now) (fresh_met _ _ _ _ c.view.ensures c.in_ok-fresh_refusal.ensures)

pub fresh_zeros-requires : goal.fresh_zeros-requires
fresh_zeros-requires c =
    let w = words (forecast_held c.args.f.now) (state_held c.args.s.now) (fresh_met _ _ _ _ c.view.ensures c.in_ok-fresh_refusal.ensures) in
    record { values_long = w.value_transit; part_long = w.part; transit_long = w.part_transit; held_long = w.held; forecast_long = w.forecast; done_long = w.done }

pub bounds-s-0 : goal.bounds-s-0
bounds-s-0 c =
    (words (forecast_held c.args.f.now) (state_held c.args.s.now) (fresh_met _ _ _ _ c.view.ensures c.in_ok-fresh_refusal.ensures)).sent

pub returns-clause-answer : goal.returns-clause-answer
unfolding answer_of
returns-clause-answer c =
    let z = c.fresh_zeros.ensures in
    fresh_accepted (forecast_held c.args.f.now) (state_held c.args.s.now) (fresh_met _ _ _ _ c.view.ensures c.in_ok-fresh_refusal.ensures) _
    (fresh_is (forecast_held c.args.f.now) (state_held c.args.s.now) _ _ _ _ _ _ _ c.fresh_values.ensures z.values_are z.parts_are z.transit_are z.held_are z.forecasts_are z.marks_are
    (words (forecast_held c.args.f.now) (state_held c.args.s.now) (fresh_met _ _ _ _ c.view.ensures c.in_ok-fresh_refusal.ensures)).sent)
