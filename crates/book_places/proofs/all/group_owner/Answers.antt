-- `book_places::all::group_owner` meets its contract. Assumes nothing.
use mathlib.Core.Path.{sym}
use Prim.Native.Nat.{◌-◌}
use lib.Dec.{eqb}
use borrow.Author.Tests.{eq-eqb, ne_eqb}
use Rattle.laws.proofs.Bools.{cond_yes, cond_no}
use Rattle.book_places.specs.Boxes.{group_owner}
use Rattle.book_places.proofs.all.group_owner.Goals as goal

pub returns-then-d-eq0 : goal.returns-then-d-eq0
unfolding group_owner
returns-then-d-eq0 c =
    sym (cond_yes (eqb c.args.d 0) c.args.b (c.args.d - 1) (eq-eqb c.args.d 0 c.if-d-eq0.true))

pub returns : goal.returns
unfolding group_owner
returns c =
    sym (cond_no (eqb c.args.d 0) c.args.b (c.args.d - 1) (ne_eqb c.args.d 0 c.if-d-eq0.false))
