-- `step_rules::ready::has_got` meets its contract. Assumes nothing.
use borrow.Author.Tests.{ne_eqb}
use Rattle.laws.proofs.Bools.{eqb_same}
use Rattle.model.specs.Steps.{kind_of}
use Rattle.step_rules.specs.Rules.{has_got}
use Rattle.step_rules.proofs.ready.has_got.Goals as goal

pub returns-then-o-a : goal.returns-then-o-a
unfolding has_got kind_of
returns-then-o-a c =
    rw (c.if-o-a.true, eqb_same c.args.a) c.is_done.ensures

pub returns : goal.returns
unfolding has_got kind_of
returns c =
    rw (ne_eqb c.args.o c.args.a c.if-o-a.false) c.is_done-2.ensures
