-- `book_places::all::Sorted::take` meets its contract. Assumes nothing.
use mathlib.Core.Path.{◌≡◌, refl, ap, ap₂, ◌∙◌}
use mathlib.Core.Bool.{Bool, ◌||◌}
use mathlib.Core.List.{List}
use Prim.Native.Nat.{ℕ, ◌+◌}
use native.Mathlib.Omega.{arith}
use lib.Dec.{eqb}
use lib.ListN.{set}
use lib.Seq.{get_or-set_other}
use mir.Val.{bool_byte}
use Rattle.laws.specs.Below.{count}
use Rattle.laws.specs.Masks.{bit}
use Rattle.laws.proofs.Below.{count_start, count_le, count_lt}
use Rattle.book_sort.specs.Sort.{at}
use Rattle.book_places.specs.Spots.{total_by}
use Rattle.book_places.specs.Boxes.{takes}
use Rattle.book_places.proofs.Local.{count_more}
use Rattle.book_places.proofs.Taking.{taken_next}
use Rattle.book_places.proofs.all.Sorted.take.Goals as goal

pub loop-i-init : goal.loop-i-init
loop-i-init c =
    let has : ℕ → Bool =
    takes c.args.self.now.owners.now c.args.self.now.words.now c.args.b c.args.self.now.list.now c.args.part.from in
    (refl, omega (arith, count_start has), (λ y l e. absurd (omega arith)), λ y l. refl)

pub loop-i-preserved : goal.loop-i-preserved
unfolding takes total_by
loop-i-preserved c =
    let has : ℕ → Bool =
    takes c.args.self.now.owners.now c.args.self.now.words.now c.args.b c.args.self.now.list.now c.args.part.from in
    let number_is : c.from-number.result ≡ at c.args.self.now.list.now (c.args.part.from + c.loop-i.i) =
    c.from-number.ensures ∙ c.u16_at-x.ensures in
    let passes : c.is_local.result ≡ has c.loop-i.i =
    c.is_local.ensures
    ∙ ap₂ (λ (o w : ℕ). eqb o c.args.b || bit c.args.b w) (c.u16_at.ensures ∙ ap (at c.args.self.now.owners.now) number_is)
    (c.u16_at-in-loop-i.ensures ∙ ap (at c.args.self.now.words.now) number_is) in
    let more : c.loop-i.next + bool_byte c.is_local.result ≡ c.args.start + count (c.loop-i.i + 1) (has) =
    omega (arith, c.loop-i.invariant.1, count_more has c.loop-i.i (count c.loop-i.i has) c.is_local.result refl passes) in
    let put = c.put_word.ensures ∙ ap (λ (x : ℕ). set c.loop-i.out x c.u16_at-x.result) c.loop-i.invariant.1 in (
      c.put_word.auto.out ∙ c.loop-i.invariant.0,
      more,
      (λ y ly t. ap (λ (l : List ℕ). at l (c.args.start + count y has)) put
          ∙ taken_next has (λ x. at c.args.self.now.list.now (c.args.part.from + x)) c.args.start c.loop-i.i c.u16_at-x.result c.loop-i.out c.u16_at-x.ensures
          (λ z. omega (arith, count_lt c.args.part.size has c.loop-i.i c.loop-i-test.true z, c.requires.from_in_bounds, c.loop-i.invariant.0)) c.loop-i.invariant.2 y ly t),
      λ y ly. ap (λ (l : List ℕ). at l y) c.put_word.ensures ∙ get_or-set_other c.loop-i.out c.loop-i.next y c.u16_at-x.result 0 (λ z. omega (arith, c.loop-i.invariant.1)) ∙ c.loop-i.invariant.3 y ly,
    )

pub returns : goal.returns
returns c =
    let has : ℕ → Bool =
    takes c.args.self.now.owners.now c.args.self.now.words.now c.args.b c.args.self.now.list.now c.args.part.from in
    let last : c.loop-i.i ≡ c.args.part.size = omega arith in
    record {
      value = c.loop-i.invariant.1 ∙ ap (λ (x : ℕ). c.args.start + count x has) last;
      by_index = (λ x h. c.loop-i.invariant.2 x (omega (arith, last)));
      by_index_2 = c.loop-i.invariant.3;
    }

pub overflow_add-next : goal.overflow_add-next
unfolding takes total_by
overflow_add-next c =
    let has : ℕ → Bool =
    takes c.args.self.now.owners.now c.args.self.now.words.now c.args.b c.args.self.now.list.now c.args.part.from in
    let number_is : c.from-number.result ≡ at c.args.self.now.list.now (c.args.part.from + c.loop-i.i) =
    c.from-number.ensures ∙ c.u16_at-x.ensures in
    let passes : c.is_local.result ≡ has c.loop-i.i =
    c.is_local.ensures
    ∙ ap₂ (λ (o w : ℕ). eqb o c.args.b || bit c.args.b w) (c.u16_at.ensures ∙ ap (at c.args.self.now.owners.now) number_is)
    (c.u16_at-in-loop-i.ensures ∙ ap (at c.args.self.now.words.now) number_is) in
    let more : c.loop-i.next + bool_byte c.is_local.result ≡ c.args.start + count (c.loop-i.i + 1) (has) =
    omega (arith, c.loop-i.invariant.1, count_more has c.loop-i.i (count c.loop-i.i has) c.is_local.result refl passes) in
    omega (arith, more, count_le (c.loop-i.i + 1) (has), c.loop-i-test.true, c.requires.take_in.0.few, c.requires.take_in.1.1)
