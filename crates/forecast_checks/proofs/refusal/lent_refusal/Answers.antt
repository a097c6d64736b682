-- `forecast_checks::refusal::lent_refusal` meets its contract: each number is that of the first condition that is met. Assumes nothing.
use mathlib.Core.Path.{sym, ◌∙◌}
use mathlib.Core.Bool.{true, false}
use Rattle.forecast_doubles.specs.Lent.{forecast_held, state_viewed}
use Rattle.forecast_checks.proofs.Tested.{lines_whole}
use Rattle.forecast_checks.proofs.Refused.{short_told, whole-told, lent_short_lem, lent_told}
use Rattle.forecast_checks.proofs.refusal.lent_refusal.Goals as goal

pub returns-then-forecast_short-state_short : goal.returns-then-forecast_short-state_short
returns-then-forecast_short-state_short c =
    let f = forecast_held c.args.f.now in
    let t = state_viewed c.args.s.now in
    lent_short_lem f t (short_told f t _ _ true c.forecast_short.ensures c.state_short.ensures c.if-forecast_short-state_short.true)

pub forecast_in_range-requires : goal.forecast_in_range-requires
forecast_in_range-requires c =
    let f = forecast_held c.args.f.now in
    let t = state_viewed c.args.s.now in
    let long = lines_whole f (whole-told f t (short_told f t _ _ false c.forecast_short.ensures c.state_short.ensures c.if-forecast_short-state_short.false)).0 in
    record {
      offer_owner_long = long.offer_owner;
      grocer_owner_long = long.grocer_owner;
      line_grocer_long = long.line_grocer;
      line_offer_long = long.line_offer;
      line_box_long = long.line_box;
    }

pub returns-then-not-forecast_in_range : goal.returns-then-not-forecast_in_range
returns-then-not-forecast_in_range c =
    let f = forecast_held c.args.f.now in
    let t = state_viewed c.args.s.now in
    lent_told f t false (short_told f t _ _ false c.forecast_short.ensures c.state_short.ensures c.if-forecast_short-state_short.false)
    (sym c.forecast_in_range.ensures ∙ c.if-not-forecast_in_range.true)

pub returns : goal.returns
returns c =
    let f = forecast_held c.args.f.now in
    let t = state_viewed c.args.s.now in
    lent_told f t true (short_told f t _ _ false c.forecast_short.ensures c.state_short.ensures c.if-forecast_short-state_short.false)
    (sym c.forecast_in_range.ensures ∙ c.if-not-forecast_in_range.false)
