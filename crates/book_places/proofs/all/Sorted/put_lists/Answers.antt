-- `book_places::all::Sorted::put_lists` meets its contract. Assumes nothing.
use mathlib.Core.Path.{◌≡◌, refl, ap, ◌∙◌, subst}
use Prim.Native.Nat.{ℕ}
use native.Mathlib.Omega.{arith}
use Rattle.book_sort.specs.Sort.{at}
use Rattle.book_places.specs.Spots.{start_by}
use Rattle.book_places.specs.Boxes.{HeadsTold}
use Rattle.book_places.proofs.Boxes.{told_none, start_none, box_more}
use Rattle.book_places.proofs.all.Sorted.put_lists.Goals as goal

pub loop-b-init : goal.loop-b-init
loop-b-init c =
    (refl, refl, start_none _ _ _, told_none _ _ _ _ _ _)

pub loop-b-preserved : goal.loop-b-preserved
loop-b-preserved c =
    let l = c.loop-b in (
      c.put_box-next.auto.heads ∙ l.invariant.0,
      c.put_box-next.auto.out ∙ l.invariant.1,
      c.put_box-next.ensures.value.0,
      box_more c.args.self.now.k _ c.args.self.now.owners.now c.args.self.now.words.now l.b l.heads l.out _ _ c.args.self.now.by_owner.owners_in l.invariant.3 c.put_box-next.ensures.value.1
          c.put_box-next.ensures.by_index.0 (λ i li. c.put_box-next.ensures.by_index.1 i (omega (arith, l.invariant.2))),
    )

pub returns : goal.returns
returns c =
    let l = c.loop-b in
    let all : l.b ≡ c.args.self.now.k = omega arith in (
      l.invariant.2 ∙ ap (λ (b : ℕ). start_by (at c.args.self.now.starts.now c.args.self.now.k) c.args.self.now.owners.now c.args.self.now.words.now b) all,
      subst (λ (b : ℕ). HeadsTold c.args.self.now.k (at c.args.self.now.starts.now c.args.self.now.k) c.args.self.now.owners.now c.args.self.now.words.now b l.heads l.out) all l.invariant.3,
    )
