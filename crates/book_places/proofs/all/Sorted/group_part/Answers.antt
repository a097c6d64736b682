-- `book_places::all::Sorted::group_part` meets its contract. Assumes nothing.
use mathlib.Core.Path.{◌≡◌, sym, ap, ap₂, ◌∙◌}
use Prim.Native.Nat.{ℕ, ◌-◌, ◌+◌}
use native.Mathlib.Omega.{arith}
use lib.Dec.{eqb}
use borrow.Author.Tests.{eq-eqb, ne_eqb}
use Rattle.laws.proofs.Bools.{cond_yes, cond_no}
use lib.ListN.{length}
use Prim.Native.Nat.{◌<◌, ◌≤◌}
use Rattle.book_sort.specs.Sort.{at}
use Rattle.book_places.specs.declared.all.Sorted.{Sorted}
use Rattle.book_places.proofs.Taking.{owner_below, part_ordered}
use Rattle.book_places.specs.Boxes.{group_owner, group_size}
use Rattle.book_places.proofs.all.Sorted.group_part.Goals as goal

-- The owner of a group is one of the boxes, whose numbers end where they begin or behind.
bounds : (s : Sorted) (b d : ℕ) → b < s.k → d ≤ s.k → (d ≤ 16) × (group_owner b d + 1 < length s.starts.now) × (at s.starts.now (group_owner b d) ≤ at s.starts.now (group_owner b d + 1))
bounds s b d lb ld =
    let h = s.by_owner in (
      omega (arith, ld, h.owners_in.k_in),
      omega (arith, owner_below s.k b d lb ld, h.starts_long),
      part_ordered s.k (at s.starts.now s.k) _ _ _ _ h b d lb ld,
    )

pub index_at-from-requires : goal.index_at-from-requires
index_at-from-requires c =
    omega (arith, c.group_owner-owner.ensures, (bounds c.args.self.now c.args.b c.args.d c.requires.0 c.requires.1).1)

pub index_at-requires : goal.index_at-requires
index_at-requires c =
    omega (arith, c.group_owner-owner.ensures, (bounds c.args.self.now c.args.b c.args.d c.requires.0 c.requires.1).1)

pub overflow_add-owner : goal.overflow_add-owner
overflow_add-owner c =
    omega (arith, c.group_owner-owner.ensures, (bounds c.args.self.now c.args.b c.args.d c.requires.0 c.requires.1).1)

pub returns-then-d-b : goal.returns-then-d-b
unfolding group_size
returns-then-d-b c =
    let from_is : c.index_at-from.result ≡ at c.args.self.now.starts.now (group_owner c.args.b c.args.d) =
    c.index_at-from.ensures.0 ∙ ap (at c.args.self.now.starts.now) c.group_owner-owner.ensures in
    (from_is, sym (cond_yes (eqb c.args.d (c.args.b + 1)) 0 _ (eq-eqb c.args.d (c.args.b + 1) c.if-d-b.true)))

pub overflow_sub-result : goal.overflow_sub-result
overflow_sub-result c =
    let from_is : c.index_at-from.result ≡ at c.args.self.now.starts.now (group_owner c.args.b c.args.d) =
    c.index_at-from.ensures.0 ∙ ap (at c.args.self.now.starts.now) c.group_owner-owner.ensures in
    let to_is : c.index_at.result ≡ at c.args.self.now.starts.now (group_owner c.args.b c.args.d + 1) =
    c.index_at.ensures.0 ∙ ap (λ (x : ℕ). at c.args.self.now.starts.now (x + 1)) c.group_owner-owner.ensures in
    omega (arith, to_is, from_is, (bounds c.args.self.now c.args.b c.args.d c.requires.0 c.requires.1).2)

pub returns : goal.returns
unfolding group_size
returns c =
    let from_is : c.index_at-from.result ≡ at c.args.self.now.starts.now (group_owner c.args.b c.args.d) =
    c.index_at-from.ensures.0 ∙ ap (at c.args.self.now.starts.now) c.group_owner-owner.ensures in
    let to_is : c.index_at.result ≡ at c.args.self.now.starts.now (group_owner c.args.b c.args.d + 1) =
    c.index_at.ensures.0 ∙ ap (λ (x : ℕ). at c.args.self.now.starts.now (x + 1)) c.group_owner-owner.ensures in (
      from_is,
      ap₂ (λ (x y : ℕ). x - y) to_is from_is ∙ sym (cond_no (eqb c.args.d (c.args.b + 1)) 0 _ (ne_eqb c.args.d (c.args.b + 1) c.if-d-b.false)),
    )
