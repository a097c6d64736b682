-- `step_rules::ready::permitted` meets its contract: fit, not done, and ready. Assumes nothing.
use mathlib.Core.Path.{sym, ◌∙◌}
use borrow.Author.Tests.{not-true, not-false}
use Rattle.step_rules.proofs.Ways.{permitted_unfit, permitted_done, permitted_ready}
use Rattle.step_rules.proofs.ready.permitted.Goals as goal

pub returns-then-not-fits : goal.returns-then-not-fits
returns-then-not-fits c =
    permitted_unfit _ _ _ _ _ _ (sym c.fits.ensures ∙ not-true _ (mathlib.Core.Path.ap mathlib.Core.Bool.not c.if-not-fits.true))

pub returns-then-is_done : goal.returns-then-is_done
returns-then-is_done c =
    permitted_done _ _ _ _ _ _ (sym c.is_done.ensures ∙ c.if-is_done.true)

pub returns : goal.returns
returns c =
    permitted_ready _ _ _ _ _ _ c.is_ready.result (sym c.fits.ensures ∙ not-false _ (mathlib.Core.Path.ap mathlib.Core.Bool.not c.if-not-fits.false)) (sym c.is_done.ensures ∙ c.if-is_done.false) c.is_ready.ensures
