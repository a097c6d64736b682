-- `book_places::all::Sorted::put_box` meets its contract. Assumes nothing.
use mathlib.Core.Path.{◌≡◌, refl, sym, ap, ◌∙◌}
use Prim.Native.Nat.{ℕ, ◌+◌, ◌*◌, ◌<◌, ◌≤◌}
use native.Mathlib.Omega.{arith}
use lib.ListN.{length, length-set}
use lib.Seq.{get_or-set_other}
use Rattle.book_sort.specs.Sort.{at, begin, place}
use Rattle.book_places.specs.Spots.{class_by, group_by}
use Rattle.book_places.specs.Boxes.{group_owner, group_size}
use Rattle.book_places.proofs.Taking.{part_in, next_is, group_more, begin_none, head_first, head_more}
use Rattle.book_places.proofs.Boxes.{list_ends, groups_within, start_few, start_next}
use Rattle.book_places.proofs.all.Sorted.put_box.Goals as goal

pub loop-d-init : goal.loop-d-init
loop-d-init c =
    let many : ℕ =
    at c.args.self.now.starts.now c.args.self.now.k in
    let class : ℕ → ℕ =
    class_by c.args.self.now.k c.args.b c.args.self.now.owners.now c.args.self.now.words.now in
    let turn_is : c.from-turn.result ≡ c.args.b =
    c.from-turn.ensures in
    let row_in : c.from-turn.result * 18 + 18 ≤ length c.args.heads.now =
    omega (arith, turn_is, c.requires.box_in.0, c.requires.box_in.1) in (
      refl,
      refl,
      omega (arith, begin_none class many),
      head_first (λ e. c.args.start + begin class many e) (c.from-turn.result * 18) c.word_of.result c.args.heads.now (omega (arith, row_in))
          (omega (arith, c.word_of.ensures, begin_none class many)),
      (λ i l. refl),
      (λ x l k. absurd (omega arith)),
      λ i l. refl,
    )

pub take-next-requires : goal.take-next-requires
take-next-requires c =
    let many : ℕ =
    at c.args.self.now.starts.now c.args.self.now.k in
    let class : ℕ → ℕ =
    class_by c.args.self.now.k c.args.b c.args.self.now.owners.now c.args.self.now.words.now in
    let turn_is : c.from-turn.result ≡ c.args.b =
    c.from-turn.ensures in
    let starts_in : (d : ℕ) → d ≤ c.args.self.now.k + 1 → (c.args.start + begin class many d ≤ 8_000) × (c.args.start + begin class many d ≤ length c.args.out.now) =
    λ d. λ l. let w = groups_within c.args.self.now.k many c.args.self.now.owners.now c.args.self.now.words.now c.args.b c.args.self.now.by_owner.owners_in c.requires.box_in.0 d l in
    let o = c.args.self.now.by_owner.owners_in in
    (omega (arith, w, c.requires.start_value.0, start_few many c.args.self.now.owners.now c.args.self.now.words.now c.args.self.now.k o.n_in o.k_in), omega (arith, w, c.requires.start_value.0, c.requires.start_value.1)) in
    let low_d : c.loop-d.d ≤ c.args.self.now.k =
    omega (arith, c.loop-d-test.true, c.from-groups.ensures) in
    let from_is : c.group_part-part.result.from ≡ at c.args.self.now.starts.now (group_owner c.args.b c.loop-d.d) =
    c.group_part-part.ensures.0 ∙ ap (λ (t : ℕ). at c.args.self.now.starts.now (group_owner t c.loop-d.d)) (turn_is) in
    let size_is : c.group_part-part.result.size ≡ group_size c.args.self.now.starts.now c.args.b c.loop-d.d =
    c.group_part-part.ensures.1 ∙ ap (λ (t : ℕ). group_size c.args.self.now.starts.now t c.loop-d.d) (turn_is) in
    let h = c.args.self.now.by_owner in
    let n = next_is c.args.self.now.k many _ _ _ _ h c.args.b c.loop-d.d c.requires.box_in.0 low_d _ _ from_is size_is c.args.start c.loop-d.next c.loop-d.invariant.2 in record {
      take_in = (
        part_in c.args.self.now.k many _ _ _ _ h c.args.b c.loop-d.d c.requires.box_in.0 low_d _ _ from_is (size_is),
        (omega (arith, c.requires.box_in.0, h.owners_in.k_in), omega (arith, c.loop-d.invariant.2, (starts_in c.loop-d.d (omega (arith, low_d))).0)),
      );
      from_in_bounds = omega (arith, n, (starts_in (c.loop-d.d + 1) (omega (arith, low_d))).1, c.loop-d.invariant.1);
    }

pub loop-d-preserved : goal.loop-d-preserved
loop-d-preserved c =
    let many : ℕ =
    at c.args.self.now.starts.now c.args.self.now.k in
    let class : ℕ → ℕ =
    class_by c.args.self.now.k c.args.b c.args.self.now.owners.now c.args.self.now.words.now in
    let turn_is : c.from-turn.result ≡ c.args.b =
    c.from-turn.ensures in
    let row_in : c.from-turn.result * 18 + 18 ≤ length c.args.heads.now =
    omega (arith, turn_is, c.requires.box_in.0, c.requires.box_in.1) in
    let low_d : c.loop-d.d ≤ c.args.self.now.k =
    omega (arith, c.loop-d-test.true, c.from-groups.ensures) in
    let from_is : c.group_part-part.result.from ≡ at c.args.self.now.starts.now (group_owner c.args.b c.loop-d.d) =
    c.group_part-part.ensures.0 ∙ ap (λ (t : ℕ). at c.args.self.now.starts.now (group_owner t c.loop-d.d)) (turn_is) in
    let size_is : c.group_part-part.result.size ≡ group_size c.args.self.now.starts.now c.args.b c.loop-d.d =
    c.group_part-part.ensures.1 ∙ ap (λ (t : ℕ). group_size c.args.self.now.starts.now t c.loop-d.d) (turn_is) in
    let next_at : c.take-next.result ≡ c.args.start + begin class many (c.loop-d.d + 1) =
    c.take-next.ensures.value ∙ next_is c.args.self.now.k many _ _ _ _ c.args.self.now.by_owner c.args.b c.loop-d.d c.requires.box_in.0 low_d _ _ from_is size_is c.args.start c.loop-d.next c.loop-d.invariant.2 in
    let head_in : c.from-turn.result * 18 + c.loop-d.d + 1 < length c.loop-d.heads =
    omega (arith, row_in, low_d, c.args.self.now.by_owner.owners_in.k_in, c.loop-d.invariant.0, length-set c.args.heads.now (c.from-turn.result * 18) c.word_of.result) in
    let row = c.from-turn.result * 18 in
    let w = c.word_of-in-loop-d.result in (
      length-set c.loop-d.heads (row + c.loop-d.d + 1) w ∙ c.loop-d.invariant.0,
      c.take-next.auto.out ∙ c.loop-d.invariant.1,
      next_at,
      head_more (λ e'. c.args.start + begin class many e') row c.loop-d.d w c.loop-d.heads head_in (c.word_of-in-loop-d.ensures ∙ next_at) c.loop-d.invariant.3,
      (λ i l. get_or-set_other c.loop-d.heads (row + c.loop-d.d + 1) i w 0 (λ z. omega arith) ∙ c.loop-d.invariant.4 i l),
      group_more c.args.self.now.k many _ _ _ _ c.args.self.now.by_owner c.args.b c.loop-d.d c.requires.box_in.0 low_d _ _ from_is size_is c.args.start c.loop-d.next c.loop-d.invariant.2 c.loop-d.out c.take-next.new.out c.loop-d.invariant.5
          c.take-next.ensures.by_index c.take-next.ensures.by_index_2,
      λ i l. c.take-next.ensures.by_index_2 i (omega (arith, c.loop-d.invariant.2)) ∙ c.loop-d.invariant.6 i l,
    )

pub returns : goal.returns
unfolding group_by
returns c =
    let many : ℕ =
    at c.args.self.now.starts.now c.args.self.now.k in
    let class : ℕ → ℕ =
    class_by c.args.self.now.k c.args.b c.args.self.now.owners.now c.args.self.now.words.now in
    let turn_is : c.from-turn.result ≡ c.args.b =
    c.from-turn.ensures in
    let done : c.loop-d.d ≡ c.args.self.now.k + 1 = omega arith ∙ ap (λ (x : ℕ). x + 1) c.from-groups.ensures in
    let ends : begin class many c.loop-d.d ≡ _ = ap (begin class many) done ∙ list_ends c.args.self.now.k many c.args.self.now.owners.now c.args.self.now.words.now c.args.b in record {
      value = (
        omega (arith, c.loop-d.invariant.2, c.requires.start_value.0, ends, start_next c.args.self.now.k many c.args.self.now.owners.now c.args.self.now.words.now c.args.b c.args.self.now.by_owner.owners_in),
        record {
          heads_are = λ e l. ap (λ (x : ℕ). at c.loop-d.heads (x * 18 + e)) (sym turn_is) ∙ c.loop-d.invariant.3 e (omega (arith, done)) ∙ ap (λ (x : ℕ). x + begin class many e) c.requires.start_value.0;
          numbers_are = λ x l k. ap (λ (z : ℕ). at c.loop-d.out (z + place class many x)) (sym c.requires.start_value.0) ∙ c.loop-d.invariant.5 x l (omega (arith, done));
        },
      );
      by_index = (
        (λ i l. c.loop-d.invariant.4 i (omega (arith, turn_is)) ∙ get_or-set_other c.args.heads.now (c.from-turn.result * 18) i c.word_of.result 0 (λ z. omega (arith, turn_is))),
        c.loop-d.invariant.6,
      );
    }

pub word_of-requires : goal.word_of-requires
word_of-requires c =
    let many : ℕ =
    at c.args.self.now.starts.now c.args.self.now.k in
    let class : ℕ → ℕ =
    class_by c.args.self.now.k c.args.b c.args.self.now.owners.now c.args.self.now.words.now in
    let starts_in : (d : ℕ) → d ≤ c.args.self.now.k + 1 → (c.args.start + begin class many d ≤ 8_000) × (c.args.start + begin class many d ≤ length c.args.out.now) =
    λ d. λ l. let w = groups_within c.args.self.now.k many c.args.self.now.owners.now c.args.self.now.words.now c.args.b c.args.self.now.by_owner.owners_in c.requires.box_in.0 d l in
    let o = c.args.self.now.by_owner.owners_in in
    (omega (arith, w, c.requires.start_value.0, start_few many c.args.self.now.owners.now c.args.self.now.words.now c.args.self.now.k o.n_in o.k_in), omega (arith, w, c.requires.start_value.0, c.requires.start_value.1)) in
    omega (arith, (starts_in 0 (omega arith)).0)

pub word_of-requires-in-loop-d : goal.word_of-requires-in-loop-d
word_of-requires-in-loop-d c =
    let many : ℕ =
    at c.args.self.now.starts.now c.args.self.now.k in
    let class : ℕ → ℕ =
    class_by c.args.self.now.k c.args.b c.args.self.now.owners.now c.args.self.now.words.now in
    let turn_is : c.from-turn.result ≡ c.args.b =
    c.from-turn.ensures in
    let starts_in : (d : ℕ) → d ≤ c.args.self.now.k + 1 → (c.args.start + begin class many d ≤ 8_000) × (c.args.start + begin class many d ≤ length c.args.out.now) =
    λ d. λ l. let w = groups_within c.args.self.now.k many c.args.self.now.owners.now c.args.self.now.words.now c.args.b c.args.self.now.by_owner.owners_in c.requires.box_in.0 d l in
    let o = c.args.self.now.by_owner.owners_in in
    (omega (arith, w, c.requires.start_value.0, start_few many c.args.self.now.owners.now c.args.self.now.words.now c.args.self.now.k o.n_in o.k_in), omega (arith, w, c.requires.start_value.0, c.requires.start_value.1)) in
    let low_d : c.loop-d.d ≤ c.args.self.now.k =
    omega (arith, c.loop-d-test.true, c.from-groups.ensures) in
    let from_is : c.group_part-part.result.from ≡ at c.args.self.now.starts.now (group_owner c.args.b c.loop-d.d) =
    c.group_part-part.ensures.0 ∙ ap (λ (t : ℕ). at c.args.self.now.starts.now (group_owner t c.loop-d.d)) (turn_is) in
    let size_is : c.group_part-part.result.size ≡ group_size c.args.self.now.starts.now c.args.b c.loop-d.d =
    c.group_part-part.ensures.1 ∙ ap (λ (t : ℕ). group_size c.args.self.now.starts.now t c.loop-d.d) (turn_is) in
    let next_at : c.take-next.result ≡ c.args.start + begin class many (c.loop-d.d + 1) =
    c.take-next.ensures.value ∙ next_is c.args.self.now.k many _ _ _ _ c.args.self.now.by_owner c.args.b c.loop-d.d c.requires.box_in.0 low_d _ _ from_is size_is c.args.start c.loop-d.next c.loop-d.invariant.2 in
    omega (arith, next_at, (starts_in (c.loop-d.d + 1) (omega (arith, low_d))).0)
