-- `step_rules::ready::is_ready` meets its contract, kind by kind. Assumes nothing.
use native.Mathlib.Omega.{arith}
use Rattle.model.specs.Steps.{kind_of}
use Rattle.step_rules.specs.Rules.{ready_by}
use Rattle.step_rules.proofs.ByKind.{ready_first}
use Rattle.step_rules.proofs.ready.is_ready.Goals as goal

pub returns-in-3 : goal.returns-in-3
unfolding ready_by kind_of
returns-in-3 c =
    rw c.in-3.is c.is_done.ensures

pub returns-in-4 : goal.returns-in-4
unfolding ready_by kind_of
returns-in-4 c =
    rw c.in-4.is c.has_all.ensures

pub returns-in-5 : goal.returns-in-5
unfolding ready_by kind_of
returns-in-5 c =
    rw c.in-5.is c.has_all-in-5.ensures

pub returns-in-6 : goal.returns-in-6
unfolding ready_by kind_of
returns-in-6 c =
    rw c.in-6.is c.is_done-in-6.ensures

pub returns-in_default : goal.returns-in_default
returns-in_default c =
    ready_first _ _ c.args.a c.args.b c.args.kind (omega arith) (omega arith) (omega arith) (omega arith) (omega arith) (omega arith)
