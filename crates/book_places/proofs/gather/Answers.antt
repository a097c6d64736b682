-- `book_places::gather` meets its contract: at number x the list has the numbers below x that the box has. Assumes nothing.
use mathlib.Core.Path.{◌≡◌, refl, sym, ap, ap₂, ◌∙◌}
use mathlib.Core.Bool.{Bool, ◌||◌}
use Prim.Native.Nat.{ℕ, ◌+◌, ◌<◌, ◌≤◌}
use native.Mathlib.Omega.{arith}
use mir.Val.{bool_byte}
use lib.Dec.{eqb}
use lib.ListN.{length, length-set}
use Rattle.laws.specs.Below.{count}
use Rattle.laws.specs.Masks.{bit}
use Rattle.laws.proofs.Below.{count_start, count_le}
use Rattle.book_places.specs.Spots.{total_by}
use Rattle.book_places.proofs.Local.{stands_next, count_more}
use Rattle.book_places.proofs.gather.Goals as goal

pub loop-x-init : goal.loop-x-init
loop-x-init c =
    let has : ℕ → Bool =
    total_by c.args.owners.now c.args.words.now c.args.b in
    (refl, sym (count_start has), λ y l e. absurd (omega arith))

pub offset_bounds-list-l : goal.offset_bounds-list-l
offset_bounds-list-l c =
    let has : ℕ → Bool =
    total_by c.args.owners.now c.args.words.now c.args.b in
    let few : c.loop-x.l ≤ c.loop-x.x =
    let v = c.loop-x in omega (arith, v.invariant.1, count_le v.x has) in
    let small : c.loop-x.x < 500 =
    omega (arith, c.loop-x-test.true, c.requires.n_bound.0) in
    omega (arith, few, small)

pub bounds-list-l : goal.bounds-list-l
bounds-list-l c =
    let has : ℕ → Bool =
    total_by c.args.owners.now c.args.words.now c.args.b in
    let few : c.loop-x.l ≤ c.loop-x.x =
    let v = c.loop-x in omega (arith, v.invariant.1, count_le v.x has) in
    let there : c.loop-x.l < length c.loop-x.list =
    omega (arith, few, c.loop-x-test.true, c.loop-x.invariant.0, c.requires.b_bound.1) in
    there

pub overflow_add-l : goal.overflow_add-l
unfolding total_by
overflow_add-l c =
    let has : ℕ → Bool =
    total_by c.args.owners.now c.args.words.now c.args.b in
    let small : c.loop-x.x < 500 =
    omega (arith, c.loop-x-test.true, c.requires.n_bound.0) in
    let passes : c.is_local.result ≡ has c.loop-x.x =
    c.is_local.ensures ∙ ap₂ (λ (o w : ℕ). eqb o c.args.b || bit c.args.b w) c.u16_at.ensures c.u16_at-in-loop-x.ensures in
    let more : c.loop-x.l + bool_byte c.is_local.result ≡ count (c.loop-x.x + 1) (has) =
    count_more has c.loop-x.x _ _ c.loop-x.invariant.1 (passes) in
    omega (arith, more, count_le (c.loop-x.x + 1) (has), small)

pub loop-x-preserved : goal.loop-x-preserved
unfolding total_by
loop-x-preserved c =
    let has : ℕ → Bool =
    total_by c.args.owners.now c.args.words.now c.args.b in
    let few : c.loop-x.l ≤ c.loop-x.x =
    let v = c.loop-x in omega (arith, v.invariant.1, count_le v.x has) in
    let there : c.loop-x.l < length c.loop-x.list =
    omega (arith, few, c.loop-x-test.true, c.loop-x.invariant.0, c.requires.b_bound.1) in
    let passes : c.is_local.result ≡ has c.loop-x.x =
    c.is_local.ensures ∙ ap₂ (λ (o w : ℕ). eqb o c.args.b || bit c.args.b w) c.u16_at.ensures c.u16_at-in-loop-x.ensures in
    let more : c.loop-x.l + bool_byte c.is_local.result ≡ count (c.loop-x.x + 1) (has) =
    count_more has c.loop-x.x _ _ c.loop-x.invariant.1 (passes) in
    let v = c.loop-x in (
      length-set v.list v.l c.word_of.result ∙ v.invariant.0,
      more,
      rw v.invariant.1 (stands_next has v.x c.word_of.result v.list (omega (arith, there, v.invariant.1)) c.word_of.ensures v.invariant.2),
    )

pub returns : goal.returns
returns c =
    let has : ℕ → Bool =
    total_by c.args.owners.now c.args.words.now c.args.b in
    let v = c.loop-x in
    let last : v.x ≡ c.args.n = omega arith in
    record {
      value = v.invariant.1 ∙ ap (λ (x : ℕ). count x has) last;
      by_index = λ x h. v.invariant.2 x (omega (arith, last));
    }
