-- `book_places::all::Half::put_rows` meets its contract. Assumes nothing.
use mathlib.Core.Path.{◌≡◌, refl, ap, ap₂, ◌∙◌, subst}
use Prim.Native.Nat.{ℕ, ◌<◌, ◌-◌, ◌+◌, ◌*◌}
use native.Mathlib.Omega.{arith}
use Rattle.book_sort.specs.Sort.{at}
use Rattle.book_places.specs.Boxes.{RowsTold}
use Rattle.book_places.proofs.Boxes.{rows_none, rows_more}
use Rattle.book_places.proofs.all.Half.put_rows.Goals as goal

pub loop-b-init : goal.loop-b-init
loop-b-init c =
    (refl, rows_none _ _ _ _ _)

pub loop-b-preserved : goal.loop-b-preserved
loop-b-preserved c =
    let box_in : c.loop-b.b < c.args.k =
    omega (arith, c.loop-b-test.true, c.requires.1.0.last_in) in
    let from_is : c.index_at-from.result ≡ at c.args.heads.now (c.loop-b.b * 18) =
    c.index_at-from.ensures.0 ∙ ap (λ (x : ℕ). at c.args.heads.now (x * 18)) c.from-row.ensures in
    let to_is : c.index_at-to.result ≡ at c.args.heads.now (c.loop-b.b * 18 + (c.args.k + 1)) =
    c.index_at-to.ensures.0 ∙ ap₂ (λ (x y : ℕ). at c.args.heads.now (x * 18 + (y + 1))) c.from-row.ensures c.from.ensures in
    let row_is : c.from-in-loop-b.result ≡ c.loop-b.b - c.args.self.first =
    c.from-in-loop-b.ensures in (
      c.put_numbers.auto.table ∙ c.loop-b.invariant.0,
      rows_more c.args.k c.args.self.first c.loop-b.b c.args.heads.now c.args.grocers.now c.loop-b.table _ c.loop-b.auto.b
          (λ c' li. let n = c.requires.0.numbers_in c' (omega (arith, box_in)) in n.word_in_lem) c.loop-b.invariant.1
          _ _ _ from_is to_is (ap (λ (x : ℕ). x * 255) row_is) c.put_numbers.ensures.by_index c.put_numbers.ensures.by_index_2,
    )

pub returns : goal.returns
returns c =
    subst (λ (b : ℕ). RowsTold c.args.k c.args.self.first b c.args.heads.now c.args.grocers.now c.loop-b.table) (omega arith) c.loop-b.invariant.1
