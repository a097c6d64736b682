-- The fields of a file's records where they stand, and the room that a whole file has for them. Assumes nothing.
use mathlib.Core.Path.{◌≡◌, ap, ap₂, ◌∙◌}
use mathlib.Core.List.{List}
use Prim.Native.Nat.{ℕ, ◌+◌, ◌*◌, ◌≤◌, ◌<◌}
use native.Mathlib.Omega.{arith}
use lib.ListN.{length, get_or}
use mir.Syntax.{w32}
use mir.Val.{to_z}
use Rattle.format.specs.Bytes.{from, after, word16, word32}
use Rattle.format.specs.Codes.{Code, read_code, name_of, name_number}
use Rattle.format.specs.Job.{Head, offer_name, tally_name}
use Rattle.format.specs.Blocks.{offers_at, grocers_at, list_at, tallies_at}
use Rattle.format.specs.File.{read_offer, read_tally, record_at, price_at, decode}
use Rattle.file_blocks.specs.Fills.{Whole}

-- Each tally's record is in the file.
pub tally_room : {f : List ℕ} {h : Head} → Whole f h → (i : ℕ) → i < h.tallies → record_at (tallies_at h) i + 24 ≤ length f
tally_room w i l = omega (arith, w.long)

-- The code at a place behind another.
pub code_shift : (f : List ℕ) (at place : ℕ) → read_code (from f (at + place)) ≡ read_code (after (from f at) place)
code_shift f at place =
    let e : (k : ℕ) → from f (at + place) k ≡ after (from f at) place k = λ k. ap (λ (p : ℕ). get_or f p 0) (omega arith) in
    λ i. record { size = e 0 i; digit = λ k. e (1 + k) i }

-- The word at a place behind another.
pub word_shift : (f : List ℕ) (at place : ℕ) → word16 (from f (at + place)) ≡ word16 (after (from f at) place)
word_shift f at place =
    let e : (k : ℕ) → from f (at + place) k ≡ after (from f at) place k = λ k. ap (λ (p : ℕ). get_or f p 0) (omega arith) in
    rw (e 0, e 1)

-- The count at byte 14 behind a place.
pub count_shift : (f : List ℕ) (at : ℕ) → to_z w32 (word32 (from f (at + 14))) ≡ to_z w32 (word32 (after (from f at) 14))
count_shift f at = ap (λ (g : ℕ → ℕ). to_z w32 (word32 g)) (λ d k. ap (λ (p : ℕ). get_or f p 0) (here k) d)
  where
    here : (k : ℕ) → at + 14 + k ≡ at + (14 + k)
    here k = omega arith

-- The fields of offer i, whose record stands at `at`.
module _ (f : List ℕ) (i : ℕ) {at : ℕ} (e : at ≡ record_at offers_at i) where
  pub offer_price : word32 (from f at) ≡ ((decode f).offer i).price
  unfolding decode read_offer
  offer_price = ap (λ (p : ℕ). word32 (from f p)) e

  pub offer_code_lem : read_code (from f (at + 5)) ≡ ((decode f).offer i).code
  unfolding decode read_offer
  offer_code_lem = code_shift f at 5 ∙ ap (λ (p : ℕ). read_code (after (from f p) 5)) e

  pub offer_issuer_lem : word16 (from f (at + 16)) ≡ ((decode f).offer i).issuer
  unfolding decode read_offer
  offer_issuer_lem = word_shift f at 16 ∙ ap (λ (p : ℕ). word16 (after (from f p) 16)) e

  -- The number of its name, by the issuer and the code that are read.
  pub offer_name_lem : (s : ℕ) → s ≡ word16 (from f (at + 16)) → name_number (name_of s (read_code (from f (at + 5)))) ≡ name_number (offer_name (decode f) i)
  offer_name_lem s q = ap₂ (λ (x : ℕ) (c : Code). name_number (name_of x c)) (q ∙ offer_issuer_lem) offer_code_lem

-- The first tally block is the one that the header says.
tally_at : (f : List ℕ) {h : Head} (i : ℕ) {at : ℕ} → Whole f h → at ≡ record_at (tallies_at h) i → at ≡ record_at (tallies_at (decode f).head) i
tally_at f i w e = e ∙ ap (λ (x : Head). record_at (tallies_at x) i) w.says

-- The fields of tally i.
module _ (f : List ℕ) {h : Head} (i : ℕ) {at : ℕ} (w : Whole f h) (e : at ≡ record_at (tallies_at h) i) where
  pub tally_grocer_lem : word16 (from f at) ≡ ((decode f).tally i).grocer
  unfolding decode read_tally
  tally_grocer_lem = ap (λ (p : ℕ). word16 (from f p)) (tally_at f i w e)

  pub tally_code_lem : read_code (from f (at + 3)) ≡ ((decode f).tally i).code
  unfolding decode read_tally
  tally_code_lem = code_shift f at 3 ∙ ap (λ (p : ℕ). read_code (after (from f p) 3)) (tally_at f i w e)

  pub tally_issuer_lem : word16 (from f (at + 18)) ≡ ((decode f).tally i).issuer
  unfolding decode read_tally
  tally_issuer_lem = word_shift f at 18 ∙ ap (λ (p : ℕ). word16 (after (from f p) 18)) (tally_at f i w e)

  pub tally_bag_lem : word16 (from f (at + 20)) ≡ ((decode f).tally i).bag
  unfolding decode read_tally
  tally_bag_lem = word_shift f at 20 ∙ ap (λ (p : ℕ). word16 (after (from f p) 20)) (tally_at f i w e)

  pub tally_revision_lem : word16 (from f (at + 22)) ≡ ((decode f).tally i).revision
  unfolding decode read_tally
  tally_revision_lem = word_shift f at 22 ∙ ap (λ (p : ℕ). word16 (after (from f p) 22)) (tally_at f i w e)

  -- The number of the name that it has for its offer.
  pub tally_name_lem : (s : ℕ) → s ≡ word16 (from f (at + 18)) → name_number (name_of s (read_code (from f (at + 3)))) ≡ name_number (tally_name (decode f) i)
  tally_name_lem s q = ap₂ (λ (x : ℕ) (c : Code). name_number (name_of x c)) (q ∙ tally_issuer_lem) tally_code_lem

-- The owner of grocer i.
pub grocer_owner_lem : (f : List ℕ) {h : Head} (i : ℕ) {at : ℕ} → Whole f h → at ≡ 512 * grocers_at h + 4 → get_or f (at + i) 0 ≡ (decode f).grocer_owner i
unfolding decode
grocer_owner_lem f i w e = ap (λ (p : ℕ). get_or f (p + i) 0) (e ∙ ap (λ (x : Head). 512 * grocers_at x + 4) w.says)

-- The price of offer i on additional list q, whose first block is `first`.
pub list_price_lem : (f : List ℕ) {h : Head} (q i : ℕ) {first : ℕ} → Whole f h → first ≡ list_at h q → word32 (from f (price_at first i)) ≡ (decode f).list_price q i
unfolding decode
list_price_lem f q i w e = ap (λ (k : ℕ). word32 (from f (price_at k i))) (e ∙ ap (λ (x : Head). list_at x q) w.says)
