-- `forecast_checks::refusal::fresh_refusal` meets its contract: 20 and 21, then 34. Assumes nothing.
use Rattle.std.proofs.lemmas.Result.{err_from_is_err_and}
use Rattle.refusals.proofs.Numbers.{number_positive}
use Rattle.forecast_doubles.specs.Lent.{forecast_held, state_viewed}
use Rattle.forecast_checks.proofs.Refused.{whole-told, lent_none, fresh_lent, fresh_lines}
use Rattle.forecast_checks.proofs.refusal.fresh_refusal.Goals as goal

pub returns-in_err-lent_refusal : goal.returns-in_err-lent_refusal
returns-in_err-lent_refusal c =
    let p = err_from_is_err_and c.from_residual.result c.from_residual.ensures.1 in
    rw (p.1, p.2) (fresh_lent (forecast_held c.args.f.now) (state_viewed c.args.s.now) _ c.in_err-lent_refusal.ensures (number_positive _))

pub lines_refusal-requires-clause-long : goal.lines_refusal-requires-clause-long
lines_refusal-requires-clause-long c =
    let f = forecast_held c.args.f.now in
    let t = state_viewed c.args.s.now in
    (whole-told f t (lent_none f t c.in_ok-lent_refusal.ensures).0).0

pub lines_refusal-requires-clause-in_range : goal.lines_refusal-requires-clause-in_range
lines_refusal-requires-clause-in_range c =
    (lent_none (forecast_held c.args.f.now) (state_viewed c.args.s.now) c.in_ok-lent_refusal.ensures).1

pub returns : goal.returns
returns c =
    fresh_lines (forecast_held c.args.f.now) (state_viewed c.args.s.now) c.in_ok-lent_refusal.ensures _ c.lines_refusal.ensures
