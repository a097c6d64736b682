-- `book_places::look_up` meets its contract. Assumes nothing.
use mathlib.Core.Path.{◌≡◌, ap, ◌∙◌}
use mathlib.Core.List.{List}
use Prim.Native.Nat.{ℕ}
use native.Mathlib.Omega.{arith}
use Rattle.laws.proofs.Tables.{get_d_past, fill_none, fill_more, fill_end}
use Rattle.book_sort.specs.Sort.{at}
use Rattle.book_places.proofs.look_up.Goals as goal

pub loop-i-init : goal.loop-i-init
loop-i-init c =
    (fill_none _ _)

pub u16_at-requires : goal.u16_at-requires
u16_at-requires c =
    let place_is : c.index_at-place.result ≡ at c.args.list.now c.loop-i.i =
    c.index_at-place.ensures.0
    ∙ ap (λ (z : List ℕ). at z c.loop-i.i) c.loop-i.invariant
    ∙ get_d_past c.loop-i.i _ c.args.list.now c.loop-i.i 0 (omega arith) in
    omega (arith, place_is, c.requires.1 c.loop-i.i c.loop-i-test.true)

pub loop-i-preserved : goal.loop-i-preserved
loop-i-preserved c =
    let place_is : c.index_at-place.result ≡ at c.args.list.now c.loop-i.i =
    c.index_at-place.ensures.0
    ∙ ap (λ (z : List ℕ). at z c.loop-i.i) c.loop-i.invariant
    ∙ get_d_past c.loop-i.i _ c.args.list.now c.loop-i.i 0 (omega arith) in
    fill_more _ c.loop-i.i c.args.list.now c.loop-i.list c.u16_at.result c.loop-i.invariant (omega (arith, c.loop-i-test.true, c.requires.0))
    (c.u16_at.ensures ∙ ap (at c.args.table.now) place_is)

pub returns : goal.returns
returns c =
    fill_end _ c.loop-i.i c.args.l c.args.list.now c.loop-i.list c.loop-i.invariant c.loop-i.auto.i-end c.loop-i-test.false
