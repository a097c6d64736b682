-- `forecast_checks::request::fits` meets its contract, kind by kind. Assumes nothing.
use native.Mathlib.Omega.{arith}
use Rattle.forecast_rules.specs.Steps.{kind_of}
use Rattle.forecast_checks.specs.Rules.{fits_by}
use Rattle.forecast_checks.proofs.Asked.{own_fits}
use Rattle.forecast_checks.proofs.request.fits.Goals as goal

pub returns-in-1 : goal.returns-in-1
unfolding fits_by kind_of
returns-in-1 c =
    rw c.in-1.is c.reaches.ensures

pub returns-in-2 : goal.returns-in-2
unfolding fits_by kind_of
returns-in-2 c =
    rw c.in-2.is c.reaches-in-2.ensures

pub returns-in-4 : goal.returns-in-4
unfolding fits_by kind_of
returns-in-4 c =
    rw c.in-4.is c.reaches-in-4.ensures

pub returns-in-5 : goal.returns-in-5
unfolding fits_by kind_of
returns-in-5 c =
    rw c.in-5.is c.reaches-in-5.ensures

pub returns-in_default : goal.returns-in_default
returns-in_default c =
    own_fits c.args.receivers.now c.args.senders.now c.args.a c.args.b c.args.kind c.requires.0 c.requires.1.0 (omega arith) (omega arith) (omega arith) (omega arith)
