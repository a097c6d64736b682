-- `forecast_checks::refusal::table_refusal` meets its contract: 20 and 21, then 21 on the state's words, then 34. Assumes nothing.
use mathlib.Core.Path.{sym, ◌∙◌}
use Rattle.std.proofs.lemmas.Result.{err_from_is_err_and}
use Rattle.refusals.proofs.Numbers.{number_positive}
use Rattle.forecast_doubles.specs.Lent.{forecast_held, state_viewed}
use Rattle.forecast_checks.proofs.Refused.{whole-told, lent_none, table_lent, state_whole_lem, table_state, table_lines}
use Rattle.forecast_checks.proofs.refusal.table_refusal.Goals as goal

pub returns-in_err-lent_refusal : goal.returns-in_err-lent_refusal
returns-in_err-lent_refusal c =
    let p = err_from_is_err_and c.from_residual.result c.from_residual.ensures.1 in
    rw (p.1, p.2) (table_lent (forecast_held c.args.f.now) (state_viewed c.args.s.now) _ c.in_err-lent_refusal.ensures (number_positive _))

pub state_in_range-requires : goal.state_in_range-requires
state_in_range-requires c =
    state_whole_lem (forecast_held c.args.f.now) (state_viewed c.args.s.now) c.in_ok-lent_refusal.ensures

pub returns-then-not-state_in_range : goal.returns-then-not-state_in_range
returns-then-not-state_in_range c =
    table_state (forecast_held c.args.f.now) (state_viewed c.args.s.now) c.in_ok-lent_refusal.ensures (sym c.state_in_range.ensures ∙ c.if-not-state_in_range.true)

pub lines_refusal-requires-clause-long : goal.lines_refusal-requires-clause-long
lines_refusal-requires-clause-long c =
    let f = forecast_held c.args.f.now in
    let t = state_viewed c.args.s.now in
    (whole-told f t (lent_none f t c.in_ok-lent_refusal.ensures).0).0

pub lines_refusal-requires-clause-in_range : goal.lines_refusal-requires-clause-in_range
lines_refusal-requires-clause-in_range c =
    (lent_none (forecast_held c.args.f.now) (state_viewed c.args.s.now) c.in_ok-lent_refusal.ensures).1

pub returns : goal.returns
returns c =
    table_lines (forecast_held c.args.f.now) (state_viewed c.args.s.now) c.in_ok-lent_refusal.ensures (sym c.state_in_range.ensures ∙ c.if-not-state_in_range.false)
    _ c.lines_refusal.ensures
