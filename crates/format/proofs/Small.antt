-- The bytes of a written job's file are bytes: each is below 256. Assumes nothing.
use mathlib.Core.Path.{◌≡◌}
use mathlib.Core.Bool.{true}
use mathlib.Core.List.{List, [], ◌∷◌, ◌++◌}
use Prim.Native.Nat.{ℕ, zero, suc, ◌+◌, ◌*◌, ◌-◌, ◌/◌, ◌%◌, ◌≤◌, ◌<◌}
use native.Mathlib.Omega.{arith}
use native.Mathlib.Nat.{mul-le-mul}
use native.Mathlib.Decide.{dec_lt}
use lib.Dec.{ltb}
use lib.ListN.{get_or, get_or-eq_default}
use lib.IntN.{ℤ, pos, negsuc, nat_abs}
use mir.Syntax.{w32}
use mir.Val.{of_z}
use Rattle.laws.specs.Tables.{tabulate}
use Rattle.laws.proofs.Bools.{split}
use Rattle.laws.proofs.Tables.{get_d_tabulate, length_tabulate}
use Rattle.format.specs.Bytes.{bytes16, bytes32}
use Rattle.format.specs.Codes.{Code, is_code, code_bytes}
use Rattle.format.specs.Job.{FileJob, Words16}
use Rattle.format.specs.Blocks.{BlockKind, header, offer_block, grocer_block, price_block, tally_block, blocks, kind_at, block_kind_number}
use Rattle.format.specs.Blocks.{records, record_size, header_bytes, offer_bytes, tally_bytes, record_bytes, spare, first_sum, second_sum}
use Rattle.format.specs.File.{record_byte, body_byte, block_byte, encode}
use Rattle.format.specs.Refusals.{job_refusal}
use Rattle.format.proofs.Codes.{code_is}
use Rattle.format.proofs.Read.{in_field}
use Rattle.format.proofs.Plan.{At, at_prices, kind_at_lem, list_few}
use Rattle.format.proofs.Range.{InRange, in_range_lem}

-- Each byte of a list is below 256.
pub record Small (l : List ℕ) : Type 0 where
  pub at : (p : ℕ) → get_or l p 0 < 256

nil : Small []
nil = record { at = λ p. omega arith }

cons : {x : ℕ} {l : List ℕ} → x < 256 → Small l → Small (x ∷ l)
cons {x} {l} h s = record { at = at }
  where
    at : (p : ℕ) → get_or (x ∷ l) p 0 < 256
    at zero = h
    at (suc p) = s.at p

append_at : (l r : List ℕ) → Small l → Small r → (p : ℕ) → get_or (l ++ r) p 0 < 256
append_at [] r a b p = b.at p
append_at (x ∷ l) r a b zero = a.at 0
append_at (x ∷ l) r a b (suc p) = append_at l r (record { at = λ p. a.at (suc p) }) b p

append : {l r : List ℕ} → Small l → Small r → Small (l ++ r)
append {l} {r} a b = record { at = append_at l r a b }

small_tabulate : (n : ℕ) (f : ℕ → ℕ) → ((i : ℕ) → i < n → f i < 256) → Small (tabulate n f)
small_tabulate n f h = record { at = at }
  where
    at : (p : ℕ) → get_or (tabulate n f) p 0 < 256
    at p =
        elim (dec_lt p n) [
          | yes l ↦ rw (get_d_tabulate n f p 0 l) (h p l)
          | no l ↦ let z : get_or (tabulate n f) p 0 ≡ 0 = get_or-eq_default (tabulate n f) 0 (rw length_tabulate (omega (arith, l))) in omega arith
        ]

small16 : (v : ℕ) → v < 65536 → Small (bytes16 v)
small16 v h = cons (omega arith) (cons (omega arith) nil)

small32 : (v : ℕ) → v < 4294967296 → Small (bytes32 v)
small32 v h = cons (omega arith) (cons (omega arith) (cons (omega arith) (cons (omega arith) nil)))

-- The bits of a count.
bits_small : (z : ℤ) → nat_abs z ≤ 99999 → of_z w32 z < 4294967296
bits_small (pos n) h = omega arith
bits_small (negsuc n) h = omega arith

-- The bytes of a field that holds a code.
digit_small : (c : Code) → is_code c ≡ true → (k : ℕ) → k < 10 → c.digit k < 256
digit_small c h k l =
    let i = code_is c h in
    elim (dec_lt k c.size) [
      | yes m ↦ omega (arith, i.digits k m)
      | no m ↦ omega (arith, i.rest k (omega (arith, m)) l)
    ]

small-code : (c : Code) → is_code c ≡ true → Small (code_bytes c)
unfolding code_bytes
small-code c h = cons (omega (arith, (code_is c h).few)) (small_tabulate 10 c.digit (digit_small c h))

module _ (j : FileJob) (ok : job_refusal j ≡ 0) (words : Words16 j) where
  range : InRange j
  range = in_range_lem j ok

  small_header : Small (header_bytes j.head)
  unfolding header_bytes
  small_header =
      let s = range.sizes in
      let m = small16 j.head.grocers (omega arith) in
      let n = small16 j.head.offers (omega arith) in
      let t = small16 j.head.tallies (omega arith) in
      cons (omega arith) (cons (omega arith) (append (append (append (append m n) t) (small16 j.head.cycle words.cycle)) (cons (omega arith) nil)))

  small_record : (n : ℕ) (b : BlockKind) → At j.head n b → (r : ℕ) → r < records j.head b → Small (record_bytes j b r)
  unfolding record_bytes offer_bytes tally_bytes
  small_record n header at r h = small_header
  small_record n (offer_block b) at r h =
      let o = range.offer (21 * b + r) (omega arith) in
      let i = words.offer_issuer (21 * b + r) (omega arith) in
      append
      (append (small32 (j.offer (21 * b + r)).price (omega arith)) (cons (omega (arith, range.sizes.boxes_most)) (small-code _ o.code)))
      (small16 (j.offer (21 * b + r)).issuer i)
  small_record n (price_block q b) (at_prices _ _ e l m) r h = small32 (j.list_price q (126 * b + r)) (omega (arith, range.list_price q (126 * b + r) l (omega arith)))
  small_record n grocer_block at r h = cons (omega (arith, range.grocer_owner r h, range.sizes.boxes_most)) nil
  small_record n (tally_block b) at r h =
      let t = range.tally (21 * b + r) (omega arith) in
      let s = range.sizes in
      let i = words.tally_issuer (21 * b + r) (omega arith) in
      append
      (append
      (append
      (append
      (append (small16 (j.tally (21 * b + r)).grocer (omega arith)) (cons (omega arith) (small-code _ t.code)))
      (small32 (of_z w32 (j.tally (21 * b + r)).count) (bits_small (j.tally (21 * b + r)).count t.count)))
      (small16 (j.tally (21 * b + r)).issuer i))
      (small16 (j.tally (21 * b + r)).bag (words.tally_bag (21 * b + r) (omega arith))))
      (small16 (j.tally (21 * b + r)).revision (words.tally_revision (21 * b + r) (omega arith)))

  record_small : (n : ℕ) (b : BlockKind) → At j.head n b → (s : ℕ) → record_byte j b s < 256
  unfolding record_byte
  record_small n b at s =
      split (spare j.head b s)
      (λ e. rw e (omega arith))
      (λ e. rw e ((small_record n b at (s / record_size b) (in_field j.head b s e).0).at (s % record_size b)))

  count_small : (b : BlockKind) → records j.head b < 256
  count_small header = omega arith
  count_small (offer_block b) = omega arith
  count_small grocer_block = omega (arith, range.sizes.grocers_most)
  count_small (price_block q b) = omega arith
  count_small (tally_block b) = omega arith

  kind_small : (b : BlockKind) → block_kind_number b < 256
  kind_small header = omega arith
  kind_small (offer_block b) = omega arith
  kind_small grocer_block = omega arith
  kind_small (price_block q b) = omega arith
  kind_small (tally_block b) = omega arith

  body_small : (k q : ℕ) → k < blocks j → body_byte j k q < 256
  unfolding body_byte
  body_small k q h =
      let b = kind_at j.head k in
      let s = range.sizes in
      split (ltb q 4)
      (λ e. rw e ((cons (kind_small b) (cons (count_small b) (small16 k (omega (arith, mul-le-mul s.lists_most (list_few s.offers_most)))))).at q))
      (λ e. rw e (record_small k b (kind_at_lem j.head k) (q - 4)))

  block_small : (k q : ℕ) → k < blocks j → block_byte (body_byte j k) q < 256
  unfolding block_byte first_sum second_sum
  block_small k q h =
      split (ltb q 508)
      (λ e. rw e (body_small k q h))
      (λ e. rw e ((append (small16 (first_sum (body_byte j k)) (omega arith)) (small16 (second_sum (body_byte j k)) (omega arith))).at (q - 508)))

  -- Every byte of a written job's file is below 256, where its cycle, issuers, bags and revisions are 16-bit numbers.
  pub encode-small : (p : ℕ) → get_or (encode j) p 0 < 256
  unfolding encode
  encode-small p = (small_tabulate (512 * blocks j) _ (λ i l. block_small (i / 512) (i % 512) (omega arith))).at p
