-- `settle::due::put_due` meets its contract: at place i the order has the places below i that have a step. Assumes nothing.
use mathlib.Core.Path.{◌≡◌, ap, ◌∙◌}
use Prim.Native.Nat.{ℕ, ◌*◌, ◌≤◌}
use native.Mathlib.Omega.{arith}
use lib.ListN.{length-set}
use borrow.Author.Rules.{rules}
use Rattle.laws.specs.Below.{ascending}
use Rattle.step_places.specs.Places.{PlaceIn}
use Rattle.step_places.proofs.Walking.{at_first, at_next, at_in}
use Rattle.job_masks.specs.Due.{due_at}
use Rattle.settle.proofs.Steps.{none_yet, due_next, due_most, due_here, places_few}
use Rattle.settle.proofs.due.put_due.Goals as goal

pub loop-i-init : goal.loop-i-init
loop-i-init c =
    (search rules, (at_first _ c.requires.0, (omega arith, (c.requires.2, none_yet _ c.args.order.now))))

pub overflow_cast-order : goal.overflow_cast-order
overflow_cast-order c =
    let place_few : c.loop-i.i ≤ 1535 =
    omega (arith, c.loop-i-test.true, c.marks-places.ensures, places_few c.args.k c.requires.1) in
    omega (arith, place_few)

pub bounds-order-words : goal.bounds-order-words
bounds-order-words c =
    let place_few : c.loop-i.i ≤ 1535 =
    omega (arith, c.loop-i-test.true, c.marks-places.ensures, places_few c.args.k c.requires.1) in
    omega (arith, place_few, c.loop-i.invariant.1.1.0)

pub is_due-requires : goal.is_due-requires
is_due-requires c =
    let place_at : PlaceIn c.args.k c.loop-i.p.kind c.loop-i.p.first c.loop-i.p.second =
    at_in _ c.loop-i.i _ _ _ c.requires.1 c.loop-i.invariant.1.0 (omega (arith, c.loop-i-test.true, c.marks-places.ensures)) in
    let p = place_at in (p.kind_from, p.kind_to, omega (arith, p.a_in, p.boxes_in), omega (arith, p.b_in, p.boxes_in))

pub overflow_add-words : goal.overflow_add-words
overflow_add-words c =
    let place_few : c.loop-i.i ≤ 1535 =
    omega (arith, c.loop-i-test.true, c.marks-places.ensures, places_few c.args.k c.requires.1) in
    omega (arith, place_few, due_most c.loop-i.words c.loop-i.i c.is_due.result c.loop-i.invariant.1.1.0)

pub next-q-requires : goal.next-q-requires
next-q-requires c =
    let place_at : PlaceIn c.args.k c.loop-i.p.kind c.loop-i.p.first c.loop-i.p.second =
    at_in _ c.loop-i.i _ _ _ c.requires.1 c.loop-i.invariant.1.0 (omega (arith, c.loop-i-test.true, c.marks-places.ensures)) in
    place_at

pub loop-i-preserved : goal.loop-i-preserved
loop-i-preserved c =
    let place_at : PlaceIn c.args.k c.loop-i.p.kind c.loop-i.p.first c.loop-i.p.second =
    at_in _ c.loop-i.i _ _ _ c.requires.1 c.loop-i.invariant.1.0 (omega (arith, c.loop-i-test.true, c.marks-places.ensures)) in
    let place_few : c.loop-i.i ≤ 1535 =
    omega (arith, c.loop-i-test.true, c.marks-places.ensures, places_few c.args.k c.requires.1) in
    let v = c.loop-i.invariant.1 in
    let here = c.is_due.ensures ∙ due_here c.args.k _ _ _ _ _ place_at ∙ ap (due_at c.args.k _ _) v.0.place_is in (
      omega (arith, c.loop-i-test.true),
      (
        at_next _ c.loop-i.i _ _ _ _ _ _ v.0 c.next-q.ensures,
        (
          due_most c.loop-i.words c.loop-i.i c.is_due.result v.1.0,
          (length-set c.loop-i.order c.loop-i.words c.loop-i.i ∙ v.1.1.0, due_next _ c.loop-i.i c.loop-i.words c.loop-i.order (rw v.1.1.0 (omega (arith, place_few, v.1.0))) v.1.1.1 _ here),
        ),
      ),
    )

pub returns : goal.returns
returns c =
    let last : c.loop-i.i ≡ 6 * c.args.k * c.args.k = omega (arith, c.loop-i-test.false, c.loop-i.invariant.0) ∙ c.marks-places.ensures in (
      omega (arith, c.loop-i.invariant.1.1.0, last, places_few c.args.k c.requires.1),
      c.loop-i.invariant.1.1.1.0,
      c.loop-i.invariant.1.1.1.1 ∙ ap (λ (i : ℕ). ascending i (due_at c.args.k c.args.receivers.now c.args.senders.now)) last,
    )

pub offset_bounds-order-words : goal.offset_bounds-order-words
offset_bounds-order-words c =
    let place_few : c.loop-i.i ≤ 1535 =
    omega (arith, c.loop-i-test.true, c.marks-places.ensures, places_few c.args.k c.requires.1) in
    omega (arith, place_few, c.loop-i.invariant.1.1.0)
