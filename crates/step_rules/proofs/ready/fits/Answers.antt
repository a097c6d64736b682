-- `step_rules::ready::fits` meets its contract, kind by kind. Assumes nothing.
use native.Mathlib.Omega.{arith}
use Rattle.step_rules.specs.Rules.{fits_by}
use Rattle.model.specs.Steps.{kind_of}
use Rattle.step_rules.proofs.ByKind.{fits_one}
use Rattle.step_rules.proofs.ready.fits.Goals as goal

pub returns-in-1 : goal.returns-in-1
unfolding fits_by kind_of
returns-in-1 c =
    rw c.in-1.is c.reaches.ensures

pub returns-in-3 : goal.returns-in-3
unfolding fits_by kind_of
returns-in-3 c =
    rw c.in-3.is c.reaches-in-3.ensures

pub returns-in-4 : goal.returns-in-4
unfolding fits_by kind_of
returns-in-4 c =
    rw c.in-4.is c.totals_due.ensures

pub returns-in-6 : goal.returns-in-6
unfolding fits_by kind_of
returns-in-6 c =
    rw c.in-6.is c.totals_due-in-6.ensures

pub returns-in_default : goal.returns-in_default
returns-in_default c =
    fits_one _ _ c.args.a c.args.b c.args.kind (omega arith) (omega arith) (omega arith) (omega arith) (omega arith) (omega arith)
