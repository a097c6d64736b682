-- `forecast_moves::fresh::fresh_values` meets its contract: before line i own values are those of the lines before it. Assumes nothing.
use Rattle.forecast_moves.proofs.OwnValues.{OwnTo}
use Rattle.forecast_moves.proofs.fresh.fresh_values.Given as goal

abbrev pub invariant-loop-i : goal.invariant-loop-i
invariant-loop-i l =
    let f = l.f in
    OwnTo f.boxes f.offers l.i f.offer_owner.now f.line_offer.now f.line_value.now l.initial.known l.known
