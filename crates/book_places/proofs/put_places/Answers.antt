-- `book_places::put_places` meets its contract. Assumes nothing.
use mathlib.Core.Path.{ap₂, ◌∙◌}
use mathlib.Core.Bool.{cond}
use Prim.Native.Nat.{ℕ, ◌+◌}
use native.Mathlib.Omega.{arith}
use lib.Dec.{eqb}
use Rattle.laws.proofs.Tables.{fill_none, fill_more, fill_end}
use Rattle.book_sort.specs.Sort.{at}
use Rattle.book_places.specs.Spots.{place_by}
use Rattle.book_places.proofs.put_places.Goals as goal

pub loop-t-init : goal.loop-t-init
loop-t-init c =
    (fill_none _ _)

pub loop-t-preserved : goal.loop-t-preserved
unfolding place_by
loop-t-preserved c =
    fill_more _ c.loop-t.t c.args.out.now c.loop-t.out c.if_same-place.result c.loop-t.invariant (omega (arith, c.loop-t-test.true, c.requires.tallies_in.1.1))
    (c.if_same-place.ensures ∙ ap₂ (λ (x g : ℕ). cond (eqb x c.args.b) (c.args.start + at c.args.numbers.now g) 0) c.u16_at.ensures c.index_at-g.ensures.0)

pub returns : goal.returns
returns c =
    fill_end _ c.loop-t.t c.args.n c.args.out.now c.loop-t.out c.loop-t.invariant c.loop-t.auto.t-end c.loop-t-test.false
