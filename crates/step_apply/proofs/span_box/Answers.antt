-- `step_apply::span_box` meets its contract. Assumes nothing.
use Rattle.step_apply.specs.Apply.{span_box}
use Rattle.step_apply.proofs.span_box.Goals as goal

pub returns-then-x : goal.returns-then-x
unfolding span_box
returns-then-x c =
    rw c.if-x.true

pub returns : goal.returns
unfolding span_box
returns c =
    rw c.if-x.false
