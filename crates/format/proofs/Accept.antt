-- A file that the reader does not refuse is the file of the job that it says, and the writer takes that job. Assumes nothing.
use mathlib.Core.Path.{◌≡◌, refl, sym, ◌∙◌, ap, subst}
use mathlib.Core.Bool.{Bool, true, false, not, ◌&&◌}
use mathlib.Core.List.{List, [], ◌∷◌}
use Prim.Native.Nat.{ℕ, ◌+◌, ◌*◌, ◌-◌, ◌/◌, ◌%◌, ◌<◌}
use native.Mathlib.Omega.{arith}
use native.Mathlib.Decide.{ℕ_discrete}
use lib.Dec.{eqb}
use lib.ListN.{get_or, length}
use borrow.Author.Tests.{eqb-true, not-false}
use Rattle.laws.specs.Below.{any}
use Rattle.laws.proofs.Bools.{no_true, or_off}
use Rattle.laws.proofs.Below.{any_none}
use Rattle.laws.proofs.Checks.{none_of, unmet}
use Rattle.recount.specs.Recount.{counted_twice}
use Rattle.format.specs.First.{first_below}
use Rattle.format.specs.Bytes.{from, after, word16}
use Rattle.format.specs.Job.{bad_sizes, shared, unnamed, counted_tallies}
use Rattle.format.specs.Blocks.{BlockKind, offer_block, grocer_block, price_block, tally_block, list_blocks, blocks, offers_at, grocers_at, prices_at, tallies_at, kind_at, block_kind_number, records, spare, first_sum, second_sum}
use Rattle.format.specs.File.{encode, decode}
use Rattle.format.specs.Refusals.{bad_length, bad_count, sums_differ, not_due, bad_header, spare_used, bad_record, header_refusal, block_refusal, file_refusal, job_refusal}
use Rattle.format.proofs.Firsts.{each, below_at}
use Rattle.format.proofs.Order.{shared_refused, unnamed_refused, twice_refused}
use Rattle.format.proofs.Plan.{kind_offers, kind_grocers, kind_prices, prices_in, kind_tallies}
use Rattle.format.proofs.Read.{Clean, file_read}
use Rattle.format.proofs.Range.{Fine, fine_job, InRange, in_range_lem}

-- Two numbers that are not told apart.
pub even : (a b : ℕ) → not (eqb a b) ≡ false → a ≡ b
even a b e = eqb-true a b (not-false (eqb a b) e)

clear_of : (t : Bool) (x : ℕ) → (t && not (eqb x 0)) ≡ false → t ≡ true → x ≡ 0
clear_of t x e h = even x 0 (rw h at e)

clean : (f : List ℕ) (k : ℕ) → sums_differ (from f (512 * k)) ≡ false → not_due (decode f).head k (from f (512 * k)) ≡ false → spare_used (decode f).head k (from f (512 * k)) ≡ false → Clean f k
unfolding sums_differ not_due spare_used
clean f k a b c =
    let g = from f (512 * k) in
    let z = kind_at (decode f).head k in
    let s = none_of (not (eqb (first_sum g) (word16 (after g 508))) ∷ not (eqb (second_sum g) (word16 (after g 510))) ∷ []) a in
    let d = none_of (not (eqb (g 0) (block_kind_number z)) ∷ not (eqb (word16 (after g 2)) k) ∷ not (eqb (g 1) (records (decode f).head z)) ∷ []) b in
    record {
      first = even _ _ s.0;
      second = even _ _ s.1.0;
      kinds = even _ _ d.0;
      number = even _ _ d.1.0;
      count = even _ _ d.1.1.0;
      clear = λ i h. clear_of _ _ (any_none 504 (λ i. spare (decode f).head z i && not (eqb (g (4 + i)) 0)) i h c);
    }

module _ (f : List ℕ) (ok : file_refusal f ≡ 0) where
  -- The file is as long as its header says.
  pub long : length f ≡ 512 * blocks (decode f)
  unfolding file_refusal bad_count
  long = even _ _ (unmet _ refl (each _ ok 2)).0

  -- Its header is not refused.
  pub top : header_refusal f ≡ 0
  unfolding file_refusal
  top = each _ ok 1

  -- Nothing in the header is outside its values.
  pub good_header : bad_header f ≡ false
  unfolding header_refusal
  good_header = (unmet _ refl top).1.1.0

  -- Byte 5 is 1.
  pub mark : get_or f 5 0 ≡ 1
  unfolding bad_header
  mark = even _ _ (or_off (not (eqb (get_or f 5 0) 1)) (bad_sizes (decode f).head) good_header).0

  -- K, M, N and T are within their values.
  pub sizes : bad_sizes (decode f).head ≡ false
  unfolding bad_header
  sizes = (or_off (not (eqb (get_or f 5 0) 1)) (bad_sizes (decode f).head) good_header).1

  -- No other block is refused.
  pub below : (k : ℕ) → 0 < k → k < blocks (decode f) → block_refusal f k ≡ 0
  unfolding file_refusal
  below k p h =
      let e : 1 + (k - 1) ≡ k = omega arith in
      ap (block_refusal f) (sym e) ∙ below_at _ _ (each _ ok 3) (k - 1) (omega arith)

  -- Every block is clean.
  pub clean_all : (k : ℕ) → k < blocks (decode f) → Clean f k
  unfolding header_refusal block_refusal
  clean_all k h =
      elim (ℕ_discrete k 0) [
        | yes e ↦ let r = unmet _ refl top in subst (Clean f) (sym e) (clean f 0 r.0 r.1.0 r.1.1.1.0)
        | no d ↦ let r = unmet _ refl (below k (omega (arith, d)) h) in clean f k r.0 r.1.0 r.1.1.0
      ]

  -- The records of a block.
  inner : (k : ℕ) (z : BlockKind) → 0 < k → k < blocks (decode f) → kind_at (decode f).head k ≡ z → (r : ℕ) → r < records (decode f).head z → bad_record (decode f) z r ≡ false
  unfolding block_refusal
  inner k z p h e r l =
      subst (λ (y : BlockKind). any (records (decode f).head y) (bad_record (decode f) y) ≡ false → bad_record (decode f) z r ≡ false) (sym e)
      (any_none (records (decode f).head z) (bad_record (decode f) z) r l) (unmet _ refl (below k p h)).1.1.1.0

  right : bad_length f ≡ false
  unfolding file_refusal
  right = (unmet _ refl (each _ ok 0)).0

  count : bad_count f ≡ false
  unfolding file_refusal
  count = (unmet _ refl (each _ ok 2)).0

  others : first_below (blocks (decode f) - 1) (λ k. block_refusal f (1 + k)) ≡ 0
  unfolding file_refusal
  others = each _ ok 3

  apart : shared (decode f) ≡ false
  apart = no_true _ (λ h. let e = shared_refused f right top count others h in omega arith)

  named : unnamed (decode f) ≡ false
  named = no_true _ (λ h. let e = unnamed_refused f right top count others apart h in omega arith)

  once : counted_twice (counted_tallies (decode f)) ≡ false
  once = no_true _ (λ h. let e = twice_refused f right top count others apart named h in omega arith)

  fine_read : Fine (decode f)
  unfolding bad_record
  fine_read =
      let j = decode f in
      let n = j.head in
      record {
        sizes = sizes;
        offer = λ i h.
            let e : 21 * (i / 21) + i % 21 ≡ i = omega arith in
            rw e at (inner (offers_at + i / 21) (offer_block (i / 21)) (omega arith) (omega arith) (kind_offers n (i / 21) (omega arith)) (i % 21) (omega arith));
        grocer_owner = λ i h. inner (grocers_at n) grocer_block (omega arith) (omega arith) (kind_grocers n) i h;
        list_price = λ q i m h.
            let e : 126 * (i / 126) + i % 126 ≡ i = omega arith in
            let c : i / 126 < list_blocks n.offers = omega arith in
            rw e at (inner (prices_at n + (q * list_blocks n.offers + i / 126)) (price_block q (i / 126)) (omega arith) (omega (arith, prices_in n q (i / 126) m c))
            (kind_prices n q (i / 126) m c) (i % 126) (omega arith));
        tally = λ i h.
            let e : 21 * (i / 21) + i % 21 ≡ i = omega arith in
            rw e at (inner (tallies_at n + i / 21) (tally_block (i / 21)) (omega arith) (omega arith) (kind_tallies n (i / 21)) (i % 21) (omega arith));
        shared = apart;
        unnamed = named;
        once = once;
      }

  -- The writer takes the job of an accepted file.
  pub job_accepted : job_refusal (decode f) ≡ 0
  job_accepted = fine_job (decode f) fine_read

  -- An accepted file's job is in range.
  pub accepted_range : InRange (decode f)
  accepted_range = in_range_lem (decode f) job_accepted

-- Each accepted file is its job's file.
pub accepted : (f : List ℕ) → ((p : ℕ) → get_or f p 0 < 256) → file_refusal f ≡ 0 → encode (decode f) ≡ f
accepted f bytes ok = file_read f bytes (mark f ok) (long f ok) (clean_all f ok)
