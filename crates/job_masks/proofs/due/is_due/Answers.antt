-- `job_masks::due::is_due` meets its contract, kind by kind. Assumes nothing.
use Rattle.std.proofs.Common.{arith}
use Rattle.model.specs.Steps.{kind_of}
use Rattle.job_masks.specs.Due.{due_by}
use Rattle.job_masks.proofs.DueSteps.{due_one}
use Rattle.job_masks.proofs.due.is_due.Goals as goal

pub returns-in-1 : goal.returns-in-1
unfolding due_by kind_of
returns-in-1 c =
    rw c.in-1.is c.reaches.ensures

pub returns-in-3 : goal.returns-in-3
unfolding due_by kind_of
returns-in-3 c =
    rw c.in-3.is c.reaches-in-3.ensures

pub returns-in-4 : goal.returns-in-4
unfolding due_by kind_of
returns-in-4 c =
    rw c.in-4.is c.reaches-in-4.ensures

pub returns-in-6 : goal.returns-in-6
unfolding due_by kind_of
returns-in-6 c =
    rw c.in-6.is c.reaches-in-6.ensures

pub returns-in_default : goal.returns-in_default
returns-in_default c =
    due_one _ _ c.args.a c.args.b c.args.kind c.requires.0 c.requires.1 (omega arith) (omega arith) (omega arith) (omega arith)
