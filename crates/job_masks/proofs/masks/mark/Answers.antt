-- `job_masks::masks::mark` meets its contract. Assumes nothing.
use borrow.Author.Tests.{lt-ltb, le-ltb}
use Rattle.job_masks.specs.Masks.{marked}
use Rattle.job_masks.proofs.masks.mark.Goals as goal

pub returns-then-b-k : goal.returns-then-b-k
unfolding marked
returns-then-b-k c =
    rw (lt-ltb c.args.b c.args.k c.if-b-k.true) (cc (c.from-p.ensures, c.set_bit.ensures))

pub returns-else-b-k : goal.returns-else-b-k
unfolding marked
returns-else-b-k c =
    rw (le-ltb c.args.b c.args.k c.if-b-k.false)
