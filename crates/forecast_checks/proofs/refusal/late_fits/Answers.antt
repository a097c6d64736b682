-- `forecast_checks::refusal::late_fits` meets its contract. Assumes nothing.
use mathlib.Core.Path.{sym, ◌∙◌}
use borrow.Author.Tests.{eq-eqb, ne_eqb}
use Rattle.forecast_checks.specs.Decided.{late_fits}
use Rattle.forecast_checks.proofs.refusal.late_fits.Goals as goal

pub returns-then-x-eq6 : goal.returns-then-x-eq6
unfolding late_fits
returns-then-x-eq6 c =
    (rw c.from.ensures at c.sums_fit.ensures) ∙ sym (rw (eq-eqb _ _ c.if-x-eq6.true))

pub returns : goal.returns
unfolding late_fits
returns c =
    c.sent_fits.ensures ∙ sym (rw (ne_eqb _ _ c.if-x-eq6.false))
