-- In an accepted file a change of one or two bytes of one block gives refusal 2. Assumes nothing.
use mathlib.Core.Path.{◌≡◌, refl, sym, ◌∙◌, ap}
use mathlib.Core.Bool.{true}
use mathlib.Core.List.{List, [], ◌∷◌}
use Prim.Native.Nat.{ℕ, ◌+◌, ◌*◌, ◌-◌, ◌/◌, ◌≤◌, ◌<◌}
use native.Mathlib.Omega.{arith}
use native.Mathlib.Decide.{ℕ_discrete}
use lib.ListN.{get_or, length, set, length-set}
use lib.Seq.{ext_get_or, get_or-set_same, get_or-set_other}
use borrow.Author.Tests.{eq-eqb, ne_eqb}
use Rattle.laws.specs.Below.{any}
use Rattle.laws.specs.Checks.{first_met}
use Rattle.laws.proofs.Below.{any_cong}
use Rattle.format.specs.First.{first_of, first_below}
use Rattle.format.specs.Bytes.{from, after, word16}
use Rattle.format.specs.Job.{Head, bad_price}
use Rattle.format.specs.Blocks.{BlockKind, header, offer_block, grocer_block, price_block, tally_block, list_blocks, block_count, blocks, offers_at, grocers_at, prices_at, tallies_at, kind_at, records, first_sum, second_sum, list_at}
use Rattle.format.specs.File.{read_offer, read_tally, record_at, price_at, read_head, decode}
use Rattle.format.specs.Refusals.{bad_length, bad_count, sums_differ, not_due, bad_header, spare_used, bad_record, header_refusal, block_refusal, file_refusal}
use Rattle.format.proofs.Firsts.{each, below_none, below_hit}
use Rattle.format.proofs.Words.{first_cong, second_cong}
use Rattle.format.proofs.Plan.{At, at_header, at_offers, at_grocers, at_prices, at_tallies, kind_at_lem}
use Rattle.format.proofs.Accept.{long, top, below, clean_all, accepted_range}
use Rattle.format.specs.Same.{OfferWords, TallyWords}
use Rattle.format.proofs.Same.{offer_same, tally_same}
use Rattle.format.proofs.Detect.{seen}

-- Sums that do not both agree.
differ : (g : ℕ → ℕ) → (first_sum g ≡ word16 (after g 508) → second_sum g ≡ word16 (after g 510) → ⊥) → sums_differ g ≡ true
unfolding sums_differ
differ g n =
    elim (ℕ_discrete (first_sum g) (word16 (after g 508))) [
      | no d ↦ rw (ne_eqb _ _ d)
      | yes e ↦ elim (ℕ_discrete (second_sum g) (word16 (after g 510))) [
        | no d ↦ rw (eq-eqb _ _ e, ne_eqb _ _ d)
        | yes q ↦ absurd (n e q)
      ]
    ]

-- The sums go by a block's bytes.
sums_cong : (g h : ℕ → ℕ) → ((q : ℕ) → q < 512 → g q ≡ h q) → sums_differ g ≡ sums_differ h
unfolding sums_differ
sums_cong g h e =
    rw (first_cong g h (λ q l. e q (omega arith)), second_cong g h (λ q l. e q (omega arith)), e 508 (omega arith), e 509 (omega arith), e 510 (omega arith), e 511 (omega arith))

-- ---- two files with the same bytes before block k

module _ (f f' : List ℕ) (k : ℕ) (k₀ : 0 < k) (same : (p : ℕ) → p < 512 * k → get_or f' p 0 ≡ get_or f p 0) where
  same_head : (decode f').head ≡ (decode f).head
  unfolding decode read_head
  same_head =
      rw (same 4 (omega arith), same 6 (omega arith), same 7 (omega arith), same 8 (omega arith), same 9 (omega arith), same 10 (omega arith), same 11 (omega arith), same 12 (omega arith), same 13 (omega arith), same 14 (omega arith))

  same_block : (m q : ℕ) → m < k → q < 512 → from f' (512 * m) q ≡ from f (512 * m) q
  same_block m q hm hq = same (512 * m + q) (omega arith)

  same_due : (m : ℕ) → m < k → not_due (decode f').head m (from f' (512 * m)) ≡ not_due (decode f).head m (from f (512 * m))
  unfolding not_due
  same_due m h =
      rw (same_block m 0 h (omega arith), same_block m 1 h (omega arith), same_block m 2 h (omega arith), same_block m 3 h (omega arith), same_head)

  same_spare : (m : ℕ) → m < k → spare_used (decode f').head m (from f' (512 * m)) ≡ spare_used (decode f).head m (from f (512 * m))
  unfolding spare_used
  same_spare m h = any_cong 504 _ _ (λ s l. rw (same_head, same_block m (4 + s) h (omega arith)))

  offer_words : (i : ℕ) → offers_at + i / 21 < k → OfferWords ((decode f').offer i) ((decode f).offer i)
  unfolding decode read_offer
  offer_words i h =
      record {
        price = rw (at 0 (omega arith), at 1 (omega arith), at 2 (omega arith), at 3 (omega arith));
        owner = at 4 (omega arith);
        code = record { size = at 5 (omega arith); digit = λ d l. at (5 + (1 + d)) (omega arith) };
        issuer = rw (at 16 (omega arith), at 17 (omega arith));
      }
    where
      at : (c : ℕ) → c < 24 → from f' (record_at offers_at i) c ≡ from f (record_at offers_at i) c
      at c l = same (record_at offers_at i + c) (omega arith)

  tally_words : (i : ℕ) → tallies_at (decode f).head + i / 21 < k → TallyWords ((decode f').tally i) ((decode f).tally i)
  unfolding decode read_tally
  tally_words i h =
      rw same_head
      (record {
        grocer = rw (at 0 (omega arith), at 1 (omega arith));
        box = at 2 (omega arith);
        code = record { size = at 3 (omega arith); digit = λ d l. at (3 + (1 + d)) (omega arith) };
        count = rw (at 14 (omega arith), at 15 (omega arith), at 16 (omega arith), at 17 (omega arith));
        issuer = rw (at 18 (omega arith), at 19 (omega arith));
        bag = rw (at 20 (omega arith), at 21 (omega arith));
        revision = rw (at 22 (omega arith), at 23 (omega arith));
      })
    where
      b : ℕ
      b = tallies_at (decode f).head

      at : (c : ℕ) → c < 24 → from f' (record_at b i) c ≡ from f (record_at b i) c
      at c l = same (record_at b i + c) (omega arith)

  owner_word : (i : ℕ) → grocers_at (decode f).head < k → i < 504 → (decode f').grocer_owner i ≡ (decode f).grocer_owner i
  unfolding decode
  owner_word i h l = rw same_head (same (512 * grocers_at (decode f).head + 4 + i) (omega arith))

  price_word_lem : (q i : ℕ) → prices_at (decode f).head + (q * list_blocks (decode f).head.offers + i / 126) < k → (decode f').list_price q i ≡ (decode f).list_price q i
  unfolding decode
  price_word_lem q i h = rw same_head (rw (at 0 (omega arith), at 1 (omega arith), at 2 (omega arith), at 3 (omega arith)))
    where
      at : (c : ℕ) → c < 4 → from f' (price_at (list_at (decode f).head q) i) c ≡ from f (price_at (list_at (decode f).head q) i) c
      at c l = same (price_at (list_at (decode f).head q) i + c) (omega arith)

  same_record : (m r : ℕ) (z : BlockKind) → m < k → At (decode f).head m z → r < records (decode f).head z → (decode f).head.grocers ≤ 504 → bad_record (decode f') z r ≡ bad_record (decode f) z r
  unfolding bad_record
  same_record m r header h (at_header e) l s = refl
  same_record m r (offer_block b) h (at_offers _ e _) l s = rw same_head (offer_same (decode f).head _ _ (offer_words (21 * b + r) (omega arith)))
  same_record m r grocer_block h (at_grocers e) l s = rw (same_head, owner_word r (omega arith) (omega arith))
  same_record m r (price_block q b) h (at_prices _ _ e u v) l s = ap bad_price (price_word_lem q (126 * b + r) (omega arith))
  same_record m r (tally_block b) h (at_tallies _ e) l s = rw same_head (tally_same (decode f).head _ _ (tally_words (21 * b + r) (omega arith)))

-- ---- an accepted file, and another whose first difference is in the sums of block k

module _ (f f' : List ℕ) (ok : file_refusal f ≡ 0) (k : ℕ) (hk : k < blocks (decode f)) (same_length : length f' ≡ length f) (bad : sums_differ (from f' (512 * k)) ≡ true) where
  length_fine : first_met ((bad_length f', 1) ∷ []) ≡ 0
  unfolding file_refusal bad_length
  length_fine = rw same_length (each _ ok 0)

  in_header : k ≡ 0 → file_refusal f' ≡ 2
  unfolding file_refusal header_refusal first_of
  in_header e = rw (length_fine, rw e at bad) (unfold first_met in refl)

  module _ (k₀ : 0 < k) (same : (p : ℕ) → p < 512 * k → get_or f' p 0 ≡ get_or f p 0) where
    sums_same : (m : ℕ) → m < k → sums_differ (from f' (512 * m)) ≡ sums_differ (from f (512 * m))
    sums_same m h = sums_cong _ _ (λ q l. same_block f f' k k₀ same m q h l)

    header_fine : header_refusal f' ≡ 0
    unfolding header_refusal bad_header
    header_fine =
        rw (sums_same 0 k₀, same_due f f' k k₀ same 0 k₀, same_spare f f' k k₀ same 0 k₀, same 5 (omega arith), same_head f f' k k₀ same) (top f ok)

    blocks_same : blocks (decode f') ≡ blocks (decode f)
    blocks_same = ap block_count (same_head f f' k k₀ same)

    records_fine : (m : ℕ) (z : BlockKind) → m < k → At (decode f).head m z → any (records (decode f').head z) (bad_record (decode f') z) ≡ any (records (decode f).head z) (bad_record (decode f) z)
    records_fine m z h at =
        ap (λ (x : Head). any (records x z) (bad_record (decode f') z)) (same_head f f' k k₀ same) ∙
        any_cong (records (decode f).head z) _ _ (λ r l. same_record f f' k k₀ same m r z h at l (let g = (accepted_range f ok).sizes.grocers_most in omega arith))

    early : (m : ℕ) → 0 < m → m < k → block_refusal f' m ≡ 0
    unfolding block_refusal
    early m p h =
        let e =
        ap (λ (x : Head). any (records (decode f').head (kind_at x m)) (bad_record (decode f') (kind_at x m))) (same_head f f' k k₀ same) ∙
        records_fine m (kind_at (decode f).head m) h (kind_at_lem (decode f).head m) in
        rw (sums_same m h, same_due f f' k k₀ same m h, same_spare f f' k k₀ same m h, e) (below f ok m p (omega arith))

    block_bad : block_refusal f' k ≡ 2
    unfolding block_refusal first_met
    block_bad = rw bad

    count_fine : first_met ((bad_count f', 1) ∷ []) ≡ 0
    unfolding bad_count first_met
    count_fine = rw (eq-eqb _ _ (same_length ∙ long f ok ∙ ap (λ (n : ℕ). 512 * n) (sym blocks_same)))

    found : first_below (blocks (decode f') - 1) (λ m. block_refusal f' (1 + m)) ≡ 2
    found =
        let b = blocks_same in
        let e : 1 + (k - 1) ≡ k = omega arith in
        below_hit _ (k - 1) _ 2 (omega arith) (below_none _ (k - 1) (λ m l. early (1 + m) (omega arith) (omega arith))) (ap (block_refusal f') e ∙ block_bad) (omega arith)

    later : file_refusal f' ≡ 2
    unfolding file_refusal first_of
    later = rw (length_fine, header_fine, count_fine, found)

-- The same of two bytes that are set.
pub damaged_set : (f : List ℕ) → ((p : ℕ) → get_or f p 0 < 256) → file_refusal f ≡ 0 → (k i j x y : ℕ) → k < blocks (decode f) → i < 512 → j < 512 → x < 256 → y < 256 →
    (set (set f (512 * k + i) x) (512 * k + j) y ≡ f → ⊥) → file_refusal (set (set f (512 * k + i) x) (512 * k + j) y) ≡ 2
damaged_set f bytes ok k i j x y hk hi hj hx hy changed =
    elim (ℕ_discrete k 0) [
      | yes e ↦ in_header f g ok k hk same_length bad e
      | no d ↦ later f g ok k hk same_length bad (omega (arith, d)) same
    ]
  where
    g : List ℕ
    g = set (set f (512 * k + i) x) (512 * k + j) y

    same_length : length g ≡ length f
    same_length = simp length-set

    same : (p : ℕ) → p < 512 * k → get_or g p 0 ≡ get_or f p 0
    same p h = get_or-set_other (set f (512 * k + i) x) (512 * k + j) p y 0 (omega arith) ∙ get_or-set_other f (512 * k + i) p x 0 (omega arith)

    bad : sums_differ (from g (512 * k)) ≡ true
    bad = differ (from g (512 * k)) (λ a b. changed (seen f (512 * k) (omega (arith, long f ok)) bytes (record { first = (clean_all f ok k hk).first; second = (clean_all f ok k hk).second }) i j x y hi
        hj hx hy (record { first = a; second = b })))

-- "In an accepted file, changing one or two bytes of one block always gives refusal 2": f' differs from f, and only at two places of block k, which may be one.
pub damaged : (f f' : List ℕ) → ((p : ℕ) → get_or f p 0 < 256) → ((p : ℕ) → get_or f' p 0 < 256) → file_refusal f ≡ 0 → (k i j : ℕ) → k < blocks (decode f) → i < 512 → j < 512 → length f' ≡ length f →
    ((p : ℕ) → (p ≡ 512 * k + i → ⊥) → (p ≡ 512 * k + j → ⊥) → get_or f' p 0 ≡ get_or f p 0) → (f' ≡ f → ⊥) → file_refusal f' ≡ 2
damaged f f' bytes bytes' ok k i j hk hi hj same_length same changed =
    rw is (damaged_set f bytes ok k i j _ _ hk hi hj (bytes' (512 * k + i)) (bytes' (512 * k + j)) (λ e. changed (is ∙ e)))
  where
    g : List ℕ
    g = set f (512 * k + i) (get_or f' (512 * k + i) 0)

    long_g : length g ≡ length f
    long_g = length-set f (512 * k + i) _

    at : (p : ℕ) → get_or f' p 0 ≡ get_or (set g (512 * k + j) (get_or f' (512 * k + j) 0)) p 0
    at p =
        elim (ℕ_discrete p (512 * k + j)) [
          | yes e ↦ rw e (sym (get_or-set_same g (512 * k + j) _ 0 (omega (arith, long f ok, long_g))))
          | no d ↦ first_place p d ∙ sym (get_or-set_other g (512 * k + j) p _ 0 d)
        ]
      where
        first_place : (p : ℕ) → (p ≡ 512 * k + j → ⊥) → get_or f' p 0 ≡ get_or g p 0
        first_place p d =
            elim (ℕ_discrete p (512 * k + i)) [
              | yes e ↦ rw e (sym (get_or-set_same f (512 * k + i) _ 0 (omega (arith, long f ok))))
              | no c ↦ same p c d ∙ sym (get_or-set_other f (512 * k + i) p _ 0 c)
            ]

    is : f' ≡ set g (512 * k + j) (get_or f' (512 * k + j) 0)
    is = ext_get_or 0 f' _ (same_length ∙ sym long_g ∙ sym (length-set g (512 * k + j) _)) (λ p h. at p)
