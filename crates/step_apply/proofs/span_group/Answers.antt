-- `step_apply::span_group` meets its contract. Assumes nothing.
use native.Mathlib.Numerals.{add-one}
use Rattle.step_apply.specs.Apply.{span_group}
use Rattle.step_apply.proofs.span_group.Goals as goal

pub returns-then-x : goal.returns-then-x
unfolding span_group
returns-then-x c =
    rw (c.if-x.true, c.from.ensures) (add-one _)

pub returns-then-x-2 : goal.returns-then-x-2
unfolding span_group
returns-then-x-2 c =
    rw (c.if-x.false, c.if-x-2.true)

pub returns : goal.returns
unfolding span_group
returns c =
    rw (c.if-x.false, c.if-x-2.false, c.from-2.ensures) (add-one _)
