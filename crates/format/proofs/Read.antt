-- A file whose blocks are as due is the file of the job that it says. Assumes nothing.
use mathlib.Core.Path.{◌≡◌, sym, ◌∙◌, ap}
use mathlib.Core.Bool.{true, false, cond}
use mathlib.Core.List.{List, [], ◌∷◌, ◌++◌}
use Prim.Native.Nat.{ℕ, ◌+◌, ◌*◌, ◌-◌, ◌/◌, ◌%◌, ◌≤◌, ◌<◌}
use native.Mathlib.Omega.{arith}
use native.Mathlib.Decide.{dec_lt}
use native.Mathlib.Nat.{div-add-mod}
use lib.Dec.{leb, ltb}
use lib.ListN.{get_or, length}
use lib.Seq.{ext_get_or}
use mir.Syntax.{w32}
use mir.Val.{to_z, of_z}
use mir.Facts.{of_z-to_z}
use borrow.Author.Tests.{lt-ltb, le-ltb, leb-false}
use Rattle.laws.specs.Tables.{tabulate}
use Rattle.laws.proofs.Bools.{split, or_off}
use Rattle.laws.proofs.Tables.{get_d_tabulate, length_tabulate}
use Rattle.format.specs.Bytes.{from, after, word16, word32, bytes16, bytes32}
use Rattle.format.specs.Codes.{code_bytes}
use Rattle.format.specs.Job.{Head}
use Rattle.format.specs.Blocks.{BlockKind, header, offer_block, grocer_block, price_block, tally_block, blocks, offers_at, tallies_at}
use Rattle.format.specs.Blocks.{kind_at, block_kind_number, records, record_size, field_size, header_bytes, offer_bytes, tally_bytes, list_at}
use Rattle.format.specs.Blocks.{record_bytes, spare, first_sum, second_sum}
use Rattle.format.specs.File.{record_byte, body_byte, block_byte, encode, read_offer, read_tally, record_at, price_at, read_head, decode}
use Rattle.format.proofs.Words.{bytes_word16, bytes_word32, first_cong, second_cong}
use Rattle.format.proofs.Plan.{At, at_header, at_offers, at_grocers, at_prices, at_tallies, kind_at_lem}

-- Bytes, each below 256.
abbrev pub Bytes : (ℕ → ℕ) → Type 0
Bytes g = (k : ℕ) → g k < 256

-- ---- records: what is read and written again is what stood there

-- An offer's fields.
pub offer_bytes_lem : (g : ℕ → ℕ) → Bytes g → offer_bytes (read_offer g) ≡ tabulate 18 g
unfolding offer_bytes read_offer code_bytes tabulate
offer_bytes_lem g b =
    ap (λ (l : List ℕ). l ++ (g 4 ∷ g 5 ∷ tabulate 10 (after g 6)) ++ bytes16 (word16 (after g 16))) (bytes_word32 (g 0) (g 1) (g 2) (g 3) (b 0) (b 1) (b 2)) ∙
    ap (λ (l : List ℕ). (g 0 ∷ g 1 ∷ g 2 ∷ g 3 ∷ []) ++ (g 4 ∷ g 5 ∷ tabulate 10 (after g 6)) ++ l) (bytes_word16 (g 16) (g 17) (b 16))

-- A price.
pub price_bytes : (g : ℕ → ℕ) → Bytes g → bytes32 (word32 g) ≡ tabulate 4 g
unfolding tabulate
price_bytes g b = bytes_word32 (g 0) (g 1) (g 2) (g 3) (b 0) (b 1) (b 2)

-- A tally's fields.
pub tally_bytes_lem : (g : ℕ → ℕ) → Bytes g → tally_bytes (read_tally g) ≡ tabulate 24 g
unfolding tally_bytes read_tally code_bytes tabulate
tally_bytes_lem g b =
    let v = word32 (after g 14) in
    let z : of_z w32 (to_z w32 v) ≡ v = of_z-to_z {w = w32} (record { fits = omega (arith, b 14, b 15, b 16, b 17) }) in
    let name = g 2 ∷ g 3 ∷ tabulate 10 (after g 4) in
    let last = bytes16 (word16 (after g 22)) in
    rw z
    (ap (λ (l : List ℕ). l ++ name ++ bytes32 v ++ bytes16 (word16 (after g 18)) ++ bytes16 (word16 (after g 20)) ++ last) (bytes_word16 (g 0) (g 1) (b 0)) ∙
    ap (λ (l : List ℕ). (g 0 ∷ g 1 ∷ []) ++ name ++ l ++ bytes16 (word16 (after g 18)) ++ bytes16 (word16 (after g 20)) ++ last) (bytes_word32 (g 14) (g 15) (g 16) (g 17) (b 14) (b 15) (b 16)) ∙
    ap (λ (l : List ℕ). (g 0 ∷ g 1 ∷ []) ++ name ++ (g 14 ∷ g 15 ∷ g 16 ∷ g 17 ∷ []) ++ l ++ bytes16 (word16 (after g 20)) ++ last) (bytes_word16 (g 18) (g 19) (b 18)) ∙
    ap (λ (l : List ℕ). (g 0 ∷ g 1 ∷ []) ++ name ++ (g 14 ∷ g 15 ∷ g 16 ∷ g 17 ∷ []) ++ (g 18 ∷ g 19 ∷ []) ++ l ++ last) (bytes_word16 (g 20) (g 21) (b 20)) ∙
    ap (λ (l : List ℕ). (g 0 ∷ g 1 ∷ []) ++ name ++ (g 14 ∷ g 15 ∷ g 16 ∷ g 17 ∷ []) ++ (g 18 ∷ g 19 ∷ []) ++ (g 20 ∷ g 21 ∷ []) ++ l) (bytes_word16 (g 22) (g 23) (b 22)))

sum_bytes : (g : ℕ → ℕ) → Bytes g → bytes16 (word16 (after g 508)) ++ bytes16 (word16 (after g 510)) ≡ tabulate 4 (after g 508)
unfolding tabulate
sum_bytes g b =
    let a₀ : word16 (after g 508) % 256 ≡ g 508 = omega (arith, b 508) in
    let a₁ : word16 (after g 508) / 256 ≡ g 509 = omega (arith, b 508) in
    let b₀ : word16 (after g 510) % 256 ≡ g 510 = omega (arith, b 510) in
    let b₁ : word16 (after g 510) / 256 ≡ g 511 = omega (arith, b 510) in
    rw (a₀, a₁, b₀, b₁)

-- A byte that is not spare is in a field of a record that the block has.
pub in_field : (h : Head) (b : BlockKind) (s : ℕ) → spare h b s ≡ false → (s / record_size b < records h b) × (s % record_size b < field_size b)
unfolding spare
in_field h b s e =
    let q = or_off (leb (records h b) (s / record_size b)) (leb (field_size b) (s % record_size b)) e in
    (leb-false _ _ q.0, leb-false _ _ q.1)

-- A field's byte, where the record's fields are the w bytes of the file from p on.
field_read : (f : List ℕ) (l : List ℕ) (w p c : ℕ) → l ≡ tabulate w (from f p) → c < w → (q : ℕ) → p + c ≡ q → get_or l c 0 ≡ get_or f q 0
field_read f l w p c e h q z = ap (λ (x : List ℕ). get_or x c 0) e ∙ get_d_tabulate w (from f p) c 0 h ∙ ap (λ (n : ℕ). get_or f n 0) z

-- What the checks of block k leave where none refuses.
pub record Clean (f : List ℕ) (k : ℕ) : Type 0 where
  pub first : first_sum (from f (512 * k)) ≡ word16 (after (from f (512 * k)) 508)
  pub second : second_sum (from f (512 * k)) ≡ word16 (after (from f (512 * k)) 510)
  pub kinds : from f (512 * k) 0 ≡ block_kind_number (kind_at (decode f).head k)
  pub count : from f (512 * k) 1 ≡ records (decode f).head (kind_at (decode f).head k)
  pub number : word16 (after (from f (512 * k)) 2) ≡ k
  pub clear : (s : ℕ) → s < 504 → spare (decode f).head (kind_at (decode f).head k) s ≡ true → from f (512 * k) (4 + s) ≡ 0

module _ (f : List ℕ) (bytes : (p : ℕ) → get_or f p 0 < 256) (mark : get_or f 5 0 ≡ 1) where
  anywhere : (at : ℕ) → Bytes (from f at)
  anywhere at k = bytes (at + k)

  header_bytes_lem : header_bytes (decode f).head ≡ tabulate 11 (from f 4)
  unfolding header_bytes decode read_head tabulate
  header_bytes_lem =
      let m₀ : word16 (from f 6) % 256 ≡ get_or f 6 0 = omega (arith, bytes 6) in
      let m₁ : word16 (from f 6) / 256 ≡ get_or f 7 0 = omega (arith, bytes 6) in
      let n₀ : word16 (from f 8) % 256 ≡ get_or f 8 0 = omega (arith, bytes 8) in
      let n₁ : word16 (from f 8) / 256 ≡ get_or f 9 0 = omega (arith, bytes 8) in
      let t₀ : word16 (from f 10) % 256 ≡ get_or f 10 0 = omega (arith, bytes 10) in
      let t₁ : word16 (from f 10) / 256 ≡ get_or f 11 0 = omega (arith, bytes 10) in
      let c₀ : word16 (from f 12) % 256 ≡ get_or f 12 0 = omega (arith, bytes 12) in
      let c₁ : word16 (from f 12) / 256 ≡ get_or f 13 0 = omega (arith, bytes 12) in
      rw (m₀, m₁, n₀, n₁, t₀, t₁, c₀, c₁, mark)

  -- A byte of a field.
  field_at : (b : BlockKind) (k s : ℕ) → At (decode f).head k b → s < 504 → s % record_size b < field_size b → get_or (record_bytes (decode f) b (s / record_size b)) (s % record_size b) 0 ≡ from f (512 * k) (4 + s)
  unfolding record_bytes decode
  field_at header k s (at_header e) hs h = field_read f _ 11 4 (s % 504) header_bytes_lem h _ (omega arith)
  field_at (offer_block b) k s (at_offers _ e _) hs h = field_read f _ 18 (record_at offers_at (21 * b + s / 24)) (s % 24) (offer_bytes_lem _ (anywhere (record_at offers_at (21 * b + s / 24)))) h _ (omega arith)
  field_at grocer_block k s (at_grocers e) hs h =
      let z : s % 1 ≡ 0 = omega arith in
      rw z (ap (λ (p : ℕ). get_or f p 0) (omega arith))
  field_at (price_block q b) k s (at_prices _ _ e l m) hs h = field_read f _ 4 (price_at (list_at (decode f).head q) (126 * b + s / 4)) (s % 4)
      (price_bytes _ (anywhere (price_at (list_at (decode f).head q) (126 * b + s / 4)))) h _ (omega arith)
  field_at (tally_block b) k s (at_tallies _ e) hs h = field_read f _ 24 (record_at (tallies_at (decode f).head) (21 * b + s / 24)) (s % 24)
      (tally_bytes_lem _ (anywhere (record_at (tallies_at (decode f).head) (21 * b + s / 24)))) h _ (omega arith)

  record_read : (b : BlockKind) (k s : ℕ) → At (decode f).head k b → s < 504 → (spare (decode f).head b s ≡ true → from f (512 * k) (4 + s) ≡ 0) → record_byte (decode f) b s ≡ from f (512 * k) (4 + s)
  unfolding record_byte
  record_read b k s at hs clear =
      split (spare (decode f).head b s)
      (λ e. rw e (sym (clear e)))
      (λ e. rw e (field_at b k s at hs (in_field (decode f).head b s e).1))

  -- A block's body, and the block.
  body_read : (k : ℕ) → Clean f k → (q : ℕ) → q < 508 → body_byte (decode f) k q ≡ from f (512 * k) q
  unfolding body_byte tabulate
  body_read k c q hq =
      elim (dec_lt q 4) [
        | yes l ↦ rw (lt-ltb q 4 l) (ap (λ (x : List ℕ). get_or x q 0) front ∙ get_d_tabulate 4 (from f (512 * k)) q 0 l)
        | no l ↦ later (omega (arith, l))
      ]
    where
      z : BlockKind
      z = kind_at (decode f).head k

      front : (block_kind_number z ∷ records (decode f).head z ∷ bytes16 k) ≡ tabulate 4 (from f (512 * k))
      front =
          let e₀ : k % 256 ≡ from f (512 * k) 2 = omega (arith, c.number, bytes (512 * k + 2)) in
          let e₁ : k / 256 ≡ from f (512 * k) 3 = omega (arith, c.number, bytes (512 * k + 2)) in
          rw (e₀, e₁, ← c.kinds, ← c.count)

      later : 4 ≤ q → cond (ltb q 4) (get_or (block_kind_number z ∷ records (decode f).head z ∷ bytes16 k) q 0) (record_byte (decode f) z (q - 4)) ≡ from f (512 * k) q
      later h =
          let e : 4 + (q - 4) ≡ q = omega arith in
          rw (le-ltb q 4 h)
          (record_read z k (q - 4) (kind_at_lem (decode f).head k) (omega arith) (c.clear (q - 4) (omega arith)) ∙ ap (from f (512 * k)) e)

  block_read : (k : ℕ) → Clean f k → (q : ℕ) → q < 512 → block_byte (body_byte (decode f) k) q ≡ from f (512 * k) q
  unfolding block_byte
  block_read k c q hq =
      elim (dec_lt q 508) [
        | yes l ↦ rw (lt-ltb q 508 l) (body_read k c q l)
        | no l ↦ later (omega (arith, l))
      ]
    where
      g : ℕ → ℕ
      g = from f (512 * k)

      later : 508 ≤ q → cond (ltb q 508) (body_byte (decode f) k q) (get_or (bytes16 (first_sum (body_byte (decode f) k)) ++ bytes16 (second_sum (body_byte (decode f) k))) (q - 508) 0) ≡ from f (512 * k) q
      later h =
          let s₁ : first_sum (body_byte (decode f) k) ≡ word16 (after g 508) = first_cong _ g (body_read k c) ∙ c.first in
          let s₂ : second_sum (body_byte (decode f) k) ≡ word16 (after g 510) = second_cong _ g (body_read k c) ∙ c.second in
          let e : 508 + (q - 508) ≡ q = omega arith in
          rw (le-ltb q 508 h, s₁, s₂)
          (ap (λ (l : List ℕ). get_or l (q - 508) 0) (sum_bytes g (anywhere (512 * k))) ∙ get_d_tabulate 4 (after g 508) (q - 508) 0 (omega arith) ∙ ap g e)

-- A file all of whose blocks are clean is the file of its job.
pub file_read : (f : List ℕ) → ((p : ℕ) → get_or f p 0 < 256) → get_or f 5 0 ≡ 1 → length f ≡ 512 * blocks (decode f) → ((k : ℕ) → k < blocks (decode f) → Clean f k) → encode (decode f) ≡ f
unfolding encode
file_read f bytes mark long clean =
    ext_get_or 0 (encode (decode f)) f (length_tabulate _ _ ∙ sym long) (λ p h. at p (rw length_tabulate at h))
  where
    at : (p : ℕ) → p < 512 * blocks (decode f) → get_or (encode (decode f)) p 0 ≡ get_or f p 0
    at p h =
        get_d_tabulate _ _ p 0 h ∙
        block_read f bytes mark (p / 512) (clean (p / 512) (omega arith)) (p % 512) (omega arith) ∙
        ap (λ (m : ℕ). get_or f m 0) (div-add-mod p 512)
