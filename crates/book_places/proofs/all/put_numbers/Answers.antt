-- `book_places::all::put_numbers` meets its contract. Assumes nothing.
use mathlib.Core.Path.{refl, ap, ◌∙◌}
use Prim.Native.Nat.{ℕ, ◌<◌, ◌+◌}
use native.Mathlib.Omega.{arith}
use lib.ListN.{length, length-set, set}
use lib.Seq.{get_or-set_other}
use Rattle.book_sort.specs.Sort.{at}
use Rattle.book_places.proofs.Boxes.{keyed_more}
use Rattle.book_places.proofs.all.put_numbers.Goals as goal

pub loop-i-init : goal.loop-i-init
loop-i-init c =
    (refl, (λ x f l. absurd (omega arith)), λ i l. refl)

pub loop-i-preserved : goal.loop-i-preserved
loop-i-preserved c =
    let small : at c.args.list.now c.loop-i.i < 255 =
    c.requires.0.word_in_lem c.loop-i.i c.loop-i.auto.i c.loop-i-test.true in
    let there : c.args.row + at c.args.list.now c.loop-i.i < length c.loop-i.table =
    omega (arith, small, c.requires.1.0, c.loop-i.invariant.0) in
    let v = c.word_of.result in
    let g = c.args.row + c.index_at.result in (
      length-set c.loop-i.table g v ∙ c.loop-i.invariant.0,
      (λ x f l. ap (λ (y : ℕ). at (set c.loop-i.table (c.args.row + y) v) (c.args.row + at c.args.list.now x)) c.index_at.ensures.0
          ∙ keyed_more (λ i. c.args.row + at c.args.list.now i) c.args.from c.args.to c.loop-i.i c.loop-i.table v c.loop-i.auto.i c.loop-i-test.true there
          c.word_of.ensures (λ x y fx lx fy ly z. c.requires.0.once x y fx lx fy ly (omega arith)) c.loop-i.invariant.1 x f l),
      λ i l. get_or-set_other c.loop-i.table g i v 0 (λ z. omega arith) ∙ c.loop-i.invariant.2 i l,
    )

pub returns : goal.returns
returns c =
    record {
      by_index = (λ i f l. c.loop-i.invariant.1 i f (omega (arith, c.loop-i-test.false)));
      by_index_2 = c.loop-i.invariant.2;
    }
