-- The refusals of a file's form at their places, and what a file is that has none of them. Assumes nothing.
use mathlib.Core.Path.{◌≡◌, refl, sym, ◌∙◌, ap, subst}
use mathlib.Core.Bool.{true, false, not}
use mathlib.Core.List.{List, [], ◌∷◌}
use Prim.Native.Nat.{ℕ, ◌+◌, ◌*◌, ◌-◌, ◌/◌, ◌%◌, ◌≤◌, ◌<◌}
use native.Mathlib.Omega.{arith}
use lib.Dec.{ltb, eqb}
use lib.ListN.{get_or, length}
use borrow.Author.Tests.{ltb-false, eqb-false, eq-eqb, ne_eqb}
use Rattle.laws.specs.Below.{any}
use Rattle.laws.specs.Checks.{first_met}
use Rattle.laws.proofs.Below.{any_none}
use Rattle.laws.proofs.Checks.{none_of, unmet, one_met, one_off}
use Rattle.laws.proofs.Bools.{or_off}
use Rattle.recount.specs.Recount.{counted_twice}
use Rattle.format.specs.First.{first_of, first_below}
use Rattle.format.specs.Job.{Head, bad_sizes, shared, unnamed, counted_tallies}
use Rattle.format.specs.Blocks.{BlockKind, offer_block, tally_block, blocks, offers_at, tallies_at, kind_at, records}
use Rattle.format.specs.File.{decode}
use Rattle.format.specs.Refusals.{bad_length, bad_count, bad_header, bad_record, header_refusal, block_refusal, file_refusal}
use Rattle.file_blocks.specs.Due.{Most}
use Rattle.file_blocks.specs.Shape.{shape_refusal}
use Rattle.format.proofs.Firsts.{each, hit, next, alone, below_at, first_split}
use Rattle.format.proofs.Accept.{even}
use Rattle.format.proofs.Plan.{kind_offers, kind_tallies}
use Rattle.format.proofs.Range.{SizesIn, OfferIn, TallyIn, sizes_in, offer_in, tally_in}

-- A length that is not refused: at least one block, and at most 102.
pub length_in : (f : List ℕ) → bad_length f ≡ false → (512 ≤ length f) × (length f ≤ 52224)
unfolding bad_length
length_in f h =
    let r = none_of (eqb (length f) 0 ∷ not (eqb (length f % 512) 0) ∷ ltb (512 * 102) (length f) ∷ []) h in
    let z = eqb-false (length f) 0 r.0 in
    let m = even (length f % 512) 0 r.1.0 in
    let t = ltb-false (512 * 102) (length f) r.1.1.0 in
    (omega (arith, z), omega arith)

-- A header that is not refused has sizes within their values.
pub header_sizes : (f : List ℕ) → header_refusal f ≡ 0 → SizesIn (decode f).head
unfolding header_refusal bad_header
header_sizes f h = sizes_in (decode f).head (or_off (not (eqb (get_or f 5 0) 1)) (bad_sizes (decode f).head) (unmet _ refl h).1.1.0).1

-- No number of it is above its largest.
pub header_most : (f : List ℕ) {h : Head} → header_refusal f ≡ 0 → h ≡ (decode f).head → Most h
header_most f e says =
    let z = header_sizes f e in
    subst Most (sym says) (record { boxes = z.boxes_most; grocers = z.grocers_most; offers = z.offers_most; tallies = z.tallies_most; lists = z.lists_most })

-- A length that is the header's block count, and one that is not.
pub count_off : (f : List ℕ) → length f ≡ 512 * blocks (decode f) → bad_count f ≡ false
unfolding bad_count
count_off f e = rw (eq-eqb _ _ e)

pub count_on : (f : List ℕ) → (length f ≡ 512 * blocks (decode f) → ⊥) → bad_count f ≡ true
unfolding bad_count
count_on f n = rw (ne_eqb _ _ n)

-- ---- the order: 1, the header, the block count, other blocks

module _ (f : List ℕ) where
  -- 1, by the length alone.
  pub shape_length : bad_length f ≡ true → shape_refusal f ≡ 1
  unfolding shape_refusal
  shape_length h = rw (one_met (bad_length f) 1 h) (hit 1 _ (omega arith))

  module _ (right : bad_length f ≡ false) where
    -- The header's refusal.
    pub shape_header : (header_refusal f ≡ 0 → ⊥) → shape_refusal f ≡ header_refusal f
    unfolding shape_refusal
    shape_header n = rw (one_off (bad_length f) 1 right, next) (hit (header_refusal f) _ n)

    module _ (top : header_refusal f ≡ 0) where
      -- 1, by the header's block count.
      pub shape_count : bad_count f ≡ true → shape_refusal f ≡ 1
      unfolding shape_refusal
      shape_count h = rw (one_off (bad_length f) 1 right, next, top, next, one_met (bad_count f) 1 h) (hit 1 _ (omega arith))

      -- Then the other blocks decide.
      pub shape_blocks : bad_count f ≡ false → shape_refusal f ≡ first_below (blocks (decode f) - 1) (λ k. block_refusal f (1 + k))
      unfolding shape_refusal
      shape_blocks h = rw (one_off (bad_length f) 1 right, next, top, next, one_off (bad_count f) 1 h, next) (alone _)

-- The reader's refusal is that of the form, and where there is none, 7, 8 or 9.
pub file_shape : (f : List ℕ) → file_refusal f ≡ first_of (shape_refusal f ∷ first_met ((shared (decode f), 7) ∷ (unnamed (decode f), 8) ∷ (counted_twice (counted_tallies (decode f)), 9) ∷ []) ∷ [])
unfolding file_refusal shape_refusal
file_shape f =
    first_split
    (first_met ((bad_length f, 1) ∷ []) ∷ header_refusal f ∷ first_met ((bad_count f, 1) ∷ []) ∷ first_below (blocks (decode f) - 1) (λ k. block_refusal f (1 + k)) ∷ [])
    (first_met ((shared (decode f), 7) ∷ (unnamed (decode f), 8) ∷ (counted_twice (counted_tallies (decode f)), 9) ∷ []) ∷ [])

-- A file whose form is refused is refused with that number.
pub shape_refused : (f : List ℕ) → (shape_refusal f ≡ 0 → ⊥) → file_refusal f ≡ shape_refusal f
shape_refused f n = file_shape f ∙ hit (shape_refusal f) _ n

-- ---- a file whose form is not refused

module _ (f : List ℕ) (ok : shape_refusal f ≡ 0) where
  -- None of its parts refuses.
  pub shape_top : header_refusal f ≡ 0
  unfolding shape_refusal
  shape_top = each _ ok 1

  pub shape_counted : bad_count f ≡ false
  unfolding shape_refusal
  shape_counted = (unmet _ refl (each _ ok 2)).0

  pub shape_clean : first_below (blocks (decode f) - 1) (λ k. block_refusal f (1 + k)) ≡ 0
  unfolding shape_refusal
  shape_clean = each _ ok 3

  -- 7, 8 or 9 decides.
  pub shape_accepted : file_refusal f ≡ first_met ((shared (decode f), 7) ∷ (unnamed (decode f), 8) ∷ (counted_twice (counted_tallies (decode f)), 9) ∷ [])
  shape_accepted = file_shape f ∙ rw (ok, next) (alone _)

  -- The file is as long as its header says.
  pub shape_long : length f ≡ 512 * blocks (decode f)
  unfolding bad_count
  shape_long = even _ _ shape_counted

  -- Sizes are within their values.
  pub shape_sizes : SizesIn (decode f).head
  shape_sizes = header_sizes f shape_top

  inner : (k : ℕ) (z : BlockKind) → 0 < k → k < blocks (decode f) → kind_at (decode f).head k ≡ z → (r : ℕ) → r < records (decode f).head z → bad_record (decode f) z r ≡ false
  unfolding block_refusal
  inner k z p h e r l =
      let q : 1 + (k - 1) ≡ k = omega arith in
      let b = ap (block_refusal f) (sym q) ∙ below_at _ _ shape_clean (k - 1) (omega arith) in
      subst (λ (y : BlockKind). any (records (decode f).head y) (bad_record (decode f) y) ≡ false → bad_record (decode f) z r ≡ false) (sym e)
      (any_none (records (decode f).head z) (bad_record (decode f) z) r l) (unmet _ refl b).1.1.1.0

  -- Each offer's fields are within their ranges,
  pub shape_offer : (i : ℕ) → i < (decode f).head.offers → OfferIn (decode f).head ((decode f).offer i)
  unfolding bad_record
  shape_offer i h =
      let e : 21 * (i / 21) + i % 21 ≡ i = omega arith in
      offer_in (decode f).head ((decode f).offer i) (rw e at (inner (offers_at + i / 21) (offer_block (i / 21)) (omega arith) (omega arith) (kind_offers (decode f).head (i / 21) (omega arith)) (i % 21) (omega arith)))

  -- and each tally's fields are.
  pub shape_tally : (i : ℕ) → i < (decode f).head.tallies → TallyIn (decode f).head ((decode f).tally i)
  unfolding bad_record
  shape_tally i h =
      let n = (decode f).head in
      let e : 21 * (i / 21) + i % 21 ≡ i = omega arith in
      tally_in (decode f).head ((decode f).tally i) (rw e at (inner (tallies_at n + i / 21) (tally_block (i / 21)) (omega arith) (omega arith) (kind_tallies n (i / 21)) (i % 21) (omega arith)))
