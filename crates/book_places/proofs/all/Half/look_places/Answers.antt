-- `book_places::all::Half::look_places` meets its contract. Assumes nothing.
use mathlib.Core.Path.{◌≡◌, ap, ap₂, ◌∙◌}
use mathlib.Core.List.{List}
use Prim.Native.Nat.{ℕ}
use native.Mathlib.Omega.{arith}
use Rattle.laws.proofs.Tables.{get_d_past, fill_none, fill_more, fill_end}
use Rattle.book_sort.specs.Sort.{at}
use Rattle.book_places.specs.Boxes.{place_at}
use Rattle.book_places.proofs.all.Half.look_places.Goals as goal

pub loop-t-init : goal.loop-t-init
loop-t-init c =
    (fill_none _ _)

pub loop-t-preserved : goal.loop-t-preserved
loop-t-preserved c =
    let word : at c.loop-t.places c.loop-t.t ≡ at c.args.places.now c.loop-t.t =
    ap (λ (l : List ℕ). at l c.loop-t.t) c.loop-t.invariant ∙ get_d_past c.loop-t.t _ c.args.places.now c.loop-t.t 0 (omega arith) in
    fill_more _ c.loop-t.t c.args.places.now c.loop-t.places c.place_at.result c.loop-t.invariant (omega (arith, c.loop-t-test.true, c.requires.n_in_bounds.1.1.1))
    (c.place_at.ensures
    ∙ ap₂ (λ (x g : ℕ). place_at c.args.self.first c.args.self.last c.args.table.now x g (at c.loop-t.places c.loop-t.t)) c.u16_at.ensures c.index_at.ensures.0
    ∙ ap (λ (x : ℕ). place_at c.args.self.first c.args.self.last c.args.table.now (at c.args.boxes.now c.loop-t.t) (at c.args.items.now c.loop-t.t) x) word)

pub returns : goal.returns
returns c =
    fill_end _ c.loop-t.t c.args.n c.args.places.now c.loop-t.places c.loop-t.invariant c.loop-t.auto.t-end c.loop-t-test.false
