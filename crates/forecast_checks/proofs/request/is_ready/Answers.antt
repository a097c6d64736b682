-- `forecast_checks::request::is_ready` meets its contract, kind by kind. Assumes nothing.
use mathlib.Core.Path.{ap₂, ◌∙◌}
use mathlib.Core.Bool.{Bool, ◌&&◌}
use mathlib.Core.Path.{◌≡◌}
use native.Mathlib.Omega.{arith}
use lib.Dec.{lit≤}
use Rattle.forecast_rules.specs.Steps.{kind_of}
use Rattle.forecast_checks.specs.Rules.{ready_by}
use Rattle.forecast_checks.proofs.Asked.{done_is}
use Rattle.forecast_checks.proofs.request.is_ready.Goals as goal

pub returns-in-2 : goal.returns-in-2
unfolding ready_by kind_of
returns-in-2 c =
    rw c.in-2.is (c.is_done.ensures ∙ done_is c.args.k c.args.done.now c.args.b c.args.a 1 (lit≤ tt) (lit≤ tt))

pub returns-in-3 : goal.returns-in-3
unfolding ready_by kind_of
returns-in-3 c =
    rw c.in-3.is (c.all_due.ensures)

pub returns-in-4 : goal.returns-in-4
unfolding ready_by kind_of
returns-in-4 c =
    rw c.in-4.is (c.is_done-in-4.ensures ∙ done_is c.args.k c.args.done.now c.args.a c.args.a 3 (lit≤ tt) (lit≤ tt))

pub returns-in-5 : goal.returns-in-5
unfolding ready_by kind_of
returns-in-5 c =
    rw c.in-5.is (c.is_done-in-5.ensures ∙ done_is c.args.k c.args.done.now c.args.b c.args.a 4 (lit≤ tt) (lit≤ tt))

pub returns-in-6 : goal.returns-in-6
unfolding ready_by kind_of
returns-in-6 c =
    rw c.in-6.is (ap₂ (λ (x y : Bool). x && y) (c.is_done-in-6.ensures ∙ done_is c.args.k c.args.done.now c.args.a c.args.a 3 (lit≤ tt) (lit≤ tt)) c.all_due-in-6.ensures)

pub returns-in_default : goal.returns-in_default
unfolding ready_by kind_of
returns-in_default c =
    let one : c.args.kind ≡ 1 = omega (arith, c.requires.kind_from, c.requires.kind_to) in
    rw one
