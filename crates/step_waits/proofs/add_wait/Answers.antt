-- `step_waits::add_wait` meets its contract. Assumes nothing.
use borrow.Author.Tests.{lt-ltb, le-ltb}
use Rattle.step_waits.specs.Waits.{waited}
use Rattle.step_waits.proofs.add_wait.Goals as goal

pub returns-then-a-k : goal.returns-then-a-k
unfolding waited
returns-then-a-k c =
    rw (c.set_bit-more.ensures, c.from-i.ensures, c.from-j.ensures, lt-ltb c.args.a c.args.k c.if-a-k.true)

pub returns-else-a-k : goal.returns-else-a-k
unfolding waited
returns-else-a-k c =
    rw (le-ltb c.args.a c.args.k c.if-a-k.false)
