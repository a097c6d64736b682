-- A job that is not refused is in range: sizes, every field, and the place of each tally's offer. Assumes nothing.
use mathlib.Core.Path.{◌≡◌, refl, sym}
use mathlib.Core.Bool.{true, false, not, ◌||◌}
use mathlib.Core.List.{[], ◌∷◌}
use Prim.Native.Nat.{ℕ, ◌≤◌, ◌<◌}
use native.Mathlib.Omega.{arith}
use native.Mathlib.Decide.{dec_lt, ℕ_discrete}
use lib.Dec.{leb, ltb, eqb}
use lib.IntN.{nat_abs}
use borrow.Author.Tests.{ltb-false, leb-false, not-false, eq-eqb, ne_eqb}
use Rattle.laws.specs.Below.{any}
use Rattle.laws.proofs.Bools.{split, clash, or_off}
use Rattle.laws.proofs.Below.{any_at, any_none, find_passes, find_none, any_false}
use Rattle.laws.proofs.Checks.{none_of, unmet, none_met}
use Rattle.recount.specs.Recount.{counted_twice}
use Rattle.format.specs.Codes.{is_code, same_offer}
use Rattle.format.specs.Job.{Head, FileJob, Offer, Tally, bad_sizes, bad_offer, bad_owner, bad_price, bad_tally, bad_records, offer_name, tally_name, names, place_of, shared, unnamed, counted_tallies}
use Rattle.format.specs.Refusals.{job_refusal}
use Rattle.format.specs.Rearranged.{Named}
use Rattle.format.proofs.Codes.{same_trans}

-- K, M, N and T within their values.
pub record SizesIn (h : Head) : Type 0 where
  pub boxes_some : 1 ≤ h.boxes
  pub boxes_most : h.boxes ≤ 16
  pub grocers_some : 1 ≤ h.grocers
  pub grocers_most : h.grocers ≤ 255
  pub offers_some : 1 ≤ h.offers
  pub offers_most : h.offers ≤ 500
  pub tallies_most : h.tallies ≤ 1000
  pub lists_most : h.lists ≤ 7

-- An offer's fields within their ranges.
pub record OfferIn (h : Head) (o : Offer) : Type 0 where
  pub price : o.price ≤ 9999999
  pub owner : o.owner < h.boxes
  pub code : is_code o.code ≡ true

-- A tally's fields within their ranges.
pub record TallyIn (h : Head) (t : Tally) : Type 0 where
  pub grocer : t.grocer < h.grocers
  pub box : t.box < h.boxes
  pub code : is_code t.code ≡ true
  pub count : nat_abs t.count ≤ 99999

-- What is in range: sizes and fields; no two offers name one; each tally's place is below N and names its offer;
-- no bag and revision stands twice.
pub record InRange (j : FileJob) : Type 0 where
  pub sizes : SizesIn j.head
  pub offer : (i : ℕ) → i < j.head.offers → OfferIn j.head (j.offer i)
  pub grocer_owner : (i : ℕ) → i < j.head.grocers → j.grocer_owner i < j.head.boxes
  pub list_price : (q i : ℕ) → q < j.head.lists → i < j.head.offers → j.list_price q i ≤ 9999999
  pub tally : (t : ℕ) → t < j.head.tallies → TallyIn j.head (j.tally t)
  pub apart : (i k : ℕ) → k < i → i < j.head.offers → same_offer (offer_name j k) (offer_name j i) ≡ false
  pub place : (t : ℕ) → t < j.head.tallies → place_of j t < j.head.offers
  pub named : (t : ℕ) → t < j.head.tallies → same_offer (offer_name j (place_of j t)) (tally_name j t) ≡ true
  pub once : counted_twice (counted_tallies j) ≡ false

-- What 4 says where it is not met.
pub sizes_in : (h : Head) → bad_sizes h ≡ false → SizesIn h
unfolding bad_sizes
sizes_in h e =
    let r = none_of (ltb h.boxes 1 ∷ ltb 16 h.boxes ∷ ltb h.grocers 1 ∷ ltb 255 h.grocers ∷ ltb h.offers 1 ∷ ltb 500 h.offers ∷ ltb 1000 h.tallies ∷ ltb 7 h.lists ∷ []) e in
    record {
      boxes_some = ltb-false _ _ r.0;
      boxes_most = ltb-false _ _ r.1.0;
      grocers_some = ltb-false _ _ r.1.1.0;
      grocers_most = ltb-false _ _ r.1.1.1.0;
      offers_some = ltb-false _ _ r.1.1.1.1.0;
      offers_most = ltb-false _ _ r.1.1.1.1.1.0;
      tallies_most = ltb-false _ _ r.1.1.1.1.1.1.0;
      lists_most = ltb-false _ _ r.1.1.1.1.1.1.1.0;
    }

-- What 6 of an offer says where it is not met.
pub offer_in : (h : Head) (o : Offer) → bad_offer h o ≡ false → OfferIn h o
unfolding bad_offer
offer_in h o e =
    let r = none_of (ltb 9999999 o.price ∷ leb h.boxes o.owner ∷ not (is_code o.code) ∷ []) e in
    record { price = ltb-false _ _ r.0; owner = leb-false _ _ r.1.0; code = not-false _ r.1.1.0 }

-- What 6 of a tally says where it is not met.
pub tally_in : (h : Head) (t : Tally) → bad_tally h t ≡ false → TallyIn h t
unfolding bad_tally
tally_in h t e =
    let r = none_of (leb h.grocers t.grocer ∷ leb h.boxes t.box ∷ not (is_code t.code) ∷ ltb 99999 (nat_abs t.count) ∷ []) e in
    record { grocer = leb-false _ _ r.0; box = leb-false _ _ r.1.0; code = not-false _ r.1.1.0; count = ltb-false _ _ r.1.1.1.0 }

-- ---- what the conditions of a whole job say where none is met

-- 6 is met by no record.
pub record FineRecords (j : FileJob) : Type 0 where
  pub offer : (i : ℕ) → i < j.head.offers → bad_offer j.head (j.offer i) ≡ false
  pub grocer_owner : (i : ℕ) → i < j.head.grocers → bad_owner j.head (j.grocer_owner i) ≡ false
  pub list_price : (q i : ℕ) → q < j.head.lists → i < j.head.offers → bad_price (j.list_price q i) ≡ false
  pub tally : (t : ℕ) → t < j.head.tallies → bad_tally j.head (j.tally t) ≡ false

-- A job that does not meet 6.
pub fine_records : (j : FileJob) → bad_records j ≡ false → FineRecords j
unfolding bad_records
fine_records j e =
    let p = any j.head.offers (λ i. bad_offer j.head (j.offer i)) in
    let q = any j.head.grocers (λ i. bad_owner j.head (j.grocer_owner i)) in
    let s = any j.head.tallies (λ i. bad_tally j.head (j.tally i)) in
    let v = any j.head.lists (λ q. any j.head.offers (λ i. bad_price (j.list_price q i))) in
    let b = or_off (p || q || v) s e in
    let c = or_off (p || q) v b.0 in
    let a = or_off p q c.0 in
    record {
      offer = λ i h. any_none j.head.offers (λ i. bad_offer j.head (j.offer i)) i h a.0;
      grocer_owner = λ i h. any_none j.head.grocers (λ i. bad_owner j.head (j.grocer_owner i)) i h a.1;
      list_price = λ q i m h. any_none j.head.offers (λ i. bad_price (j.list_price q i)) i h
          (any_none j.head.lists (λ q. any j.head.offers (λ i. bad_price (j.list_price q i))) q m c.1);
      tally = λ i h. any_none j.head.tallies (λ i. bad_tally j.head (j.tally i)) i h b.1;
    }

-- None of the conditions 4 and 6 to 9 is met.
pub record Fine (j : FileJob) : Type 0 where
  pub sizes : bad_sizes j.head ≡ false
  pub offer : (i : ℕ) → i < j.head.offers → bad_offer j.head (j.offer i) ≡ false
  pub grocer_owner : (i : ℕ) → i < j.head.grocers → bad_owner j.head (j.grocer_owner i) ≡ false
  pub list_price : (q i : ℕ) → q < j.head.lists → i < j.head.offers → bad_price (j.list_price q i) ≡ false
  pub tally : (t : ℕ) → t < j.head.tallies → bad_tally j.head (j.tally t) ≡ false
  pub shared : shared j ≡ false
  pub unnamed : unnamed j ≡ false
  pub once : counted_twice (counted_tallies j) ≡ false

-- A job that is not refused does not meet 6, 7 and 8,
pub named_job : (j : FileJob) → job_refusal j ≡ 0 → Named j
unfolding job_refusal
named_job j e = let r = unmet _ refl e in record { codes = r.1.0; apart = r.1.1.0; named = r.1.1.1.0 }

-- nor 4 and 9.
pub fine : (j : FileJob) → job_refusal j ≡ 0 → Fine j
unfolding job_refusal
fine j e =
    let r = unmet _ refl e in
    let n = named_job j e in
    let f = fine_records j n.codes in
    record {
      sizes = r.0;
      offer = f.offer;
      grocer_owner = f.grocer_owner;
      list_price = f.list_price;
      tally = f.tally;
      shared = n.apart;
      unnamed = n.named;
      once = r.1.1.1.1.0;
    }

-- And the other way round.
pub fine_job : (j : FileJob) → Fine j → job_refusal j ≡ 0
unfolding job_refusal bad_records
fine_job j f =
    none_met _ (
      f.sizes,
      (
        rw (
          any_false _ (λ i. bad_offer j.head (j.offer i)) f.offer,
          any_false _ (λ i. bad_owner j.head (j.grocer_owner i)) f.grocer_owner,
          any_false _ (λ q. any j.head.offers (λ i. bad_price (j.list_price q i))) (λ q m. any_false _ (λ i. bad_price (j.list_price q i)) (λ i h. f.list_price q i m h)),
          any_false _ (λ i. bad_tally j.head (j.tally i)) f.tally,
        ),
        (f.shared, (f.unnamed, (f.once, tt))),
      ),
    )

-- ---- the place of a tally's offer

-- No two offers share a number under one issuer.
pub apart : (j : FileJob) → shared j ≡ false → (i k : ℕ) → k < i → i < j.head.offers → same_offer (offer_name j k) (offer_name j i) ≡ false
unfolding shared
apart j h i k l m =
    any_none i (λ k. same_offer (offer_name j k) (offer_name j i)) k l
    (any_none j.head.offers (λ i. any i (λ k. same_offer (offer_name j k) (offer_name j i))) i m h)

module _ (j : FileJob) (t : ℕ) where
  -- A name that an offer has, has a place below N, and names the offer there.
  pub named_place : any j.head.offers (names j t) ≡ true → (place_of j t < j.head.offers) × (same_offer (offer_name j (place_of j t)) (tally_name j t) ≡ true)
  unfolding place_of names
  named_place h = find_passes j.head.offers (names j t) h

  -- A tally names no offer exactly where its place is N.
  pub unnamed-place : not (any j.head.offers (names j t)) ≡ eqb (place_of j t) j.head.offers
  unfolding place_of
  unnamed-place =
      split (any j.head.offers (names j t))
      (λ e. let l = (find_passes j.head.offers (names j t) e).0 in rw e (sym (ne_eqb (place_of j t) j.head.offers (omega arith))))
      (λ e. rw e (sym (eq-eqb (place_of j t) j.head.offers (find_none j.head.offers (names j t) e))))

  -- Where no two offers share a name, the offer that a tally names is the one at its place.
  pub only_place : shared j ≡ false → (i : ℕ) → i < j.head.offers → same_offer (offer_name j i) (tally_name j t) ≡ true → place_of j t ≡ i
  only_place h i l e =
      elim (ℕ_discrete (place_of j t) i) [
        | yes q ↦ q
        | no d ↦ elim (dec_lt (place_of j t) i) [
          | yes m ↦ absurd (clash (same_trans _ _ (tally_name j t) n.1 e) (apart j h i (place_of j t) m l))
          | no m ↦ absurd (clash (same_trans _ _ (tally_name j t) e n.1) (apart j h (place_of j t) i (omega (arith, m, d)) n.0))
        ]
      ]
    where
      here : any j.head.offers (names j t) ≡ true
      here = any_at j.head.offers (names j t) i l (unfold names in e)

      n : (place_of j t < j.head.offers) × (same_offer (offer_name j (place_of j t)) (tally_name j t) ≡ true)
      n = named_place here

-- A job that is not refused is in range.
pub in_range_lem : (j : FileJob) → job_refusal j ≡ 0 → InRange j
unfolding unnamed bad_owner bad_price
in_range_lem j e =
    let f = fine j e in
    let n : (t : ℕ) → t < j.head.tallies → any j.head.offers (names j t) ≡ true =
    λ t h. not-false _ (any_none j.head.tallies (λ t. not (any j.head.offers (names j t))) t h f.unnamed) in
    record {
      sizes = sizes_in j.head f.sizes;
      offer = λ i h. offer_in j.head (j.offer i) (f.offer i h);
      grocer_owner = λ i h. leb-false _ _ (f.grocer_owner i h);
      list_price = λ q i m h. ltb-false _ _ (f.list_price q i m h);
      tally = λ t h. tally_in j.head (j.tally t) (f.tally t h);
      apart = apart j f.shared;
      place = λ t h. (named_place j t (n t h)).0;
      named = λ t h. (named_place j t (n t h)).1;
      once = f.once;
    }
