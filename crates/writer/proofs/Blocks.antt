-- Laws of blocks that are put into a buffer: head, records, zeros and sums. Assumes nothing.
use mathlib.Core.Path.{◌≡◌, refl, sym, ap, ◌∙◌}
use mathlib.Core.Bool.{cond}
use mathlib.Core.List.{List, ◌∷◌}
use Prim.Native.Nat.{ℕ, zero, suc, ◌+◌, ◌-◌, ◌*◌, ◌/◌, ◌%◌, ◌≤◌, ◌<◌}
use native.Mathlib.Omega.{arith}
use native.Mathlib.Nat.{div-lt_iff_lt-mul}
use native.Mathlib.Decide.{dec_lt}
use lib.Dec.{ltb, leb}
use lib.ListN.{length, get_or, get_or-eq_default}
use lib.Arith.{digits_div, digits_mod}
use borrow.Author.Tests.{lt-ltb, le-ltb, ltb-true, le-leb, lt-leb, leb-true}
use Rattle.laws.proofs.Bools.{split}
use Rattle.format.specs.Bytes.{from, bytes16}
use Rattle.format.specs.Job.{FileJob}
use Rattle.format.specs.Blocks.{BlockKind, header, offer_block, grocer_block, price_block, tally_block, kind_at, block_kind_number, records, record_size, field_size, record_bytes, spare, first_sum, second_sum}
use Rattle.format.specs.File.{record_byte, body_byte, block_byte}
use Rattle.writer_bytes.specs.Puts.{put, bytes_of}
use Rattle.writer.specs.Bodies.{rows_of, body_of, keep_of, blocks_of}
use Rattle.format.proofs.Plan.{fields_length}
use Rattle.format.proofs.Words.{first_cong, second_cong}
use Rattle.writer_bytes.proofs.Puts.{put_in, put_cong, put_next, put_keep, put_over}

-- ---- what a block of a job's file holds

some_bytes : (b : BlockKind) → 0 < record_size b
some_bytes header = omega arith
some_bytes (offer_block b) = omega arith
some_bytes grocer_block = omega arith
some_bytes (price_block q b) = omega arith
some_bytes (tally_block b) = omega arith

-- A record's bytes past its fields are 0, as are those past the block's records.
record_is : (j : FileJob) (b : BlockKind) (s : ℕ) → record_byte j b s ≡ cond (ltb s (records j.head b * record_size b)) (rows_of (record_size b) (λ r. bytes_of (record_bytes j b r)) s) 0
unfolding record_byte spare
record_is j b s =
    elim (dec_lt s (records j.head b * record_size b)) [
      | yes l ↦ rw (lt-ltb s (records j.head b * record_size b) l, lt-leb (records j.head b) (s / record_size b) ((div-lt_iff_lt-mul (some_bytes b)).1 l))
          (split (leb (field_size b) (s % record_size b))
          (λ e. rw e (sym (get_or-eq_default (record_bytes j b (s / record_size b)) 0 (rw fields_length (leb-true _ _ e)))))
          (λ e. rw e))
      | no l ↦ rw (le-ltb s (records j.head b * record_size b) (omega (arith, l)), le-leb (records j.head b) (s / record_size b) (behind l))
    ]
  where
    behind : (s < records j.head b * record_size b → ⊥) → records j.head b ≤ s / record_size b
    behind l =
        elim (dec_lt (s / record_size b) (records j.head b)) [
          | yes h ↦ absurd (l ((div-lt_iff_lt-mul (some_bytes b)).0 h))
          | no h ↦ omega (arith, h)
        ]

-- Block k of a job's file is its head, its records and zeros.
pub body_is : (j : FileJob) (k p : ℕ) → body_byte j k p ≡ body_of (block_kind_number (kind_at j.head k) ∷ records j.head (kind_at j.head k) ∷ bytes16 k) (record_size (kind_at j.head k))
    (records j.head (kind_at j.head k)) (λ r. bytes_of (record_bytes j (kind_at j.head k) r)) p
unfolding body_byte body_of
body_is j k p = rw (record_is j (kind_at j.head k) (p - 4))

-- ---- a block's bytes

-- Bodies with the same 508 bytes make the same block.
pub block_cong : (g h : ℕ → ℕ) → ((p : ℕ) → p < 508 → g p ≡ h p) → (p : ℕ) → block_byte g p ≡ block_byte h p
unfolding block_byte
block_cong g h e p =
    split (ltb p 508)
    (λ q. rw q (e p (ltb-true p 508 q)))
    (λ q. rw (q, first_cong g h e, second_cong g h e))

-- A block's byte below 508 is its body's.
pub block_body : (g : ℕ → ℕ) (p : ℕ) → p < 508 → block_byte g p ≡ g p
unfolding block_byte
block_body g p h = rw (lt-ltb p 508 h)

-- Behind them stand the first sum,
pub block_first : (g : ℕ → ℕ) (k : ℕ) → k < 2 → block_byte g (508 + k) ≡ bytes_of (bytes16 (first_sum g)) k
unfolding block_byte
block_first g zero h = refl
block_first g (suc zero) h = refl
block_first g (suc (suc k)) h = absurd (omega arith)

-- and the second.
pub block_second : (g : ℕ → ℕ) (k : ℕ) → k < 2 → block_byte g (510 + k) ≡ bytes_of (bytes16 (second_sum g)) k
unfolding block_byte
block_second g zero h = refl
block_second g (suc zero) h = refl
block_second g (suc (suc k)) h = absurd (omega arith)

-- ---- a block is closed: zeros up to 508, then both sums

keep_in : (n : ℕ) (g : ℕ → ℕ) (p : ℕ) → p < n → keep_of n g p ≡ g p
unfolding keep_of
keep_in n g p h = rw (lt-ltb p n h)

keep_behind : (n : ℕ) (g : ℕ → ℕ) (p : ℕ) → n ≤ p → keep_of n g p ≡ 0
unfolding keep_of
keep_behind n g p h = rw (le-ltb p n h)

module _ (at used : ℕ) (d : List ℕ) (few : used ≤ 508) (room : at + 512 ≤ length d) where
  -- The bytes that are used are followed by zeros.
  zeros_behind : put (at + used) (508 - used) (λ k. 0) d ≡ put at 508 (keep_of used (from d at)) d
  zeros_behind =
      let g = keep_of used (from d at) in
      let e : used + (508 - used) ≡ 508 = omega arith in
      ap (put (at + used) (508 - used) (λ k. 0)) (sym (put_keep at used d (omega arith)) ∙ put_cong at used (from d at) g d (λ k h. sym (keep_in used (from d at) k h)))
      ∙ put_next at used g d (508 - used) (λ k. 0) (omega arith) (λ k h. sym (keep_behind used (from d at) (used + k) (omega arith)))
      ∙ ap (λ (n : ℕ). put at n g d) e

  module _ (z : List ℕ) (e : z ≡ put (at + used) (508 - used) (λ k. 0) d) where
    body_read : (k : ℕ) → k < 508 → from z at k ≡ keep_of used (from d at) k
    body_read k h = ap (λ (l : List ℕ). get_or l (at + k) 0) (e ∙ zeros_behind) ∙ put_in at 508 (keep_of used (from d at)) d (omega arith) k h

    -- With both sums behind them the block is whole.
    pub closed : (a b : ℕ) → a ≡ first_sum (from z at) → b ≡ second_sum (from z at) →
        put (at + 510) 2 (bytes_of (bytes16 b)) (put (at + 508) 2 (bytes_of (bytes16 a)) z) ≡ put at 512 (block_byte (keep_of used (from d at))) d
    closed a b p q =
        let g = keep_of used (from d at) in
        let ea : a ≡ first_sum g = p ∙ first_cong (from z at) g body_read in
        let eb : b ≡ second_sum g = q ∙ second_cong (from z at) g body_read in
        rw (e, zeros_behind, ea, eb)
        (ap (λ (l : List ℕ). put (at + 510) 2 (bytes_of (bytes16 (second_sum g))) (put (at + 508) 2 (bytes_of (bytes16 (first_sum g))) l)) (put_cong at 508 g (block_byte g) d (λ k h. sym (block_body g k h)))
        ∙ ap (put (at + 510) 2 (bytes_of (bytes16 (second_sum g)))) (put_next at 508 (block_byte g) d 2 (bytes_of (bytes16 (first_sum g))) (omega arith) (λ k h. sym (block_first g k h)))
        ∙ put_next at 510 (block_byte g) d 2 (bytes_of (bytes16 (second_sum g))) (omega arith) (λ k h. sym (block_second g k h)))

-- A block that is made of a head, m bytes of records, and closed.
pub block_made : (f : ℕ → ℕ) (at m : ℕ) (head rows : ℕ → ℕ) (d d₁ d₂ d₃ : List ℕ) → at + 512 ≤ length d → m ≤ 504 →
    d₁ ≡ put at 4 head d → d₂ ≡ put (at + 4) m rows d₁ → d₃ ≡ put at 512 (block_byte (keep_of (4 + m) (from d₂ at))) d₂ →
    ((k : ℕ) → k < 4 → head k ≡ f k) → ((k : ℕ) → k < m → rows k ≡ f (4 + k)) → ((p : ℕ) → 4 + m ≤ p → p < 508 → f p ≡ 0) →
    d₃ ≡ put at 512 (block_byte f) d
block_made f at m head rows d d₁ d₂ d₃ room few e₁ e₂ e₃ h₁ h₂ h₃ =
    e₃ ∙ put_cong at 512 (block_byte (keep_of (4 + m) (from d₂ at))) (block_byte f) d₂ (λ k h. block_cong _ f body k)
    ∙ ap (put at 512 (block_byte f)) e ∙ put_over at (4 + m) 512 f (block_byte f) d (omega arith) room
  where
    e : d₂ ≡ put at (4 + m) f d
    e =
        e₂ ∙ ap (put (at + 4) m rows) (e₁ ∙ put_cong at 4 head f d h₁) ∙ put_next at 4 f d m rows (omega arith) h₂

    body : (p : ℕ) → p < 508 → keep_of (4 + m) (from d₂ at) p ≡ f p
    body p h =
        elim (dec_lt p (4 + m)) [
          | yes l ↦ keep_in (4 + m) (from d₂ at) p l ∙ ap (λ (l : List ℕ). get_or l (at + p) 0) e ∙ put_in at (4 + m) f d (omega arith) p l
          | no l ↦ keep_behind (4 + m) (from d₂ at) p (omega (arith, l)) ∙ sym (h₃ p (omega (arith, l)) h)
        ]

-- ---- records one after the other

-- Byte c of row r.
pub row_at : (size : ℕ) (row : ℕ → ℕ → ℕ) (r c : ℕ) → c < size → rows_of size row (r * size + c) ≡ row r c
row_at size row r c h = rw (digits_div r h, digits_mod r h)

-- Row r is put behind those before it.
pub row_next : (size : ℕ) (row : ℕ → ℕ → ℕ) (at r : ℕ) (d : List ℕ) → at + (r + 1) * size ≤ length d → put (at + r * size) size (row r) (put at (r * size) (rows_of size row) d) ≡ put at ((r + 1) * size) (rows_of size row) d
row_next size row at r d room =
    let e : (r + 1) * size ≡ r * size + size = omega arith in
    put_next at (r * size) (rows_of size row) d size (row r) (omega arith) (λ k h. sym (row_at size row r k h))
    ∙ ap (λ (n : ℕ). put at n (rows_of size row) d) (sym e)

module _ (head : List ℕ) (size count : ℕ) (row : ℕ → ℕ → ℕ) where
  -- A block's head,
  pub body_head : (k : ℕ) → k < 4 → body_of head size count row k ≡ bytes_of head k
  unfolding body_of
  body_head k h = rw (lt-ltb k 4 h)

  -- its records,
  pub body_row : (k : ℕ) → k < count * size → body_of head size count row (4 + k) ≡ rows_of size row k
  unfolding body_of
  body_row k h = let e : (4 + k) - 4 ≡ k = omega arith in rw (le-ltb (4 + k) 4 (omega arith), e, lt-ltb k (count * size) h)

  -- and zeros.
  pub body_rest : (p : ℕ) → 4 + count * size ≤ p → body_of head size count row p ≡ 0
  unfolding body_of
  body_rest p h = rw (le-ltb p 4 (omega arith), le-ltb (p - 4) (count * size) (omega arith))

-- ---- blocks one after the other

-- Block k + b is put behind b blocks from block k on.
pub block_next : (body : ℕ → ℕ → ℕ) (k b : ℕ) (d : List ℕ) → 512 * k + (b + 1) * 512 ≤ length d →
    put (512 * (k + b)) 512 (block_byte (body b)) (put (512 * k) (b * 512) (blocks_of body) d) ≡ put (512 * k) ((b + 1) * 512) (blocks_of body) d
block_next body k b d room =
    let e : 512 * (k + b) ≡ 512 * k + b * 512 = omega arith in
    ap (λ (at : ℕ). put at 512 (block_byte (body b)) (put (512 * k) (b * 512) (blocks_of body) d)) e
    ∙ row_next 512 (λ b. block_byte (body b)) (512 * k) b d room

-- C blocks are put behind the first k blocks of a file.
pub blocks_behind : (body part : ℕ → ℕ → ℕ) (k c : ℕ) (d : List ℕ) → 512 * (k + c) ≤ length d → ((b p : ℕ) → b < c → part b p ≡ body (k + b) p) →
    put (512 * k) (c * 512) (blocks_of part) (put 0 (512 * k) (blocks_of body) d) ≡ put 0 (512 * (k + c)) (blocks_of body) d
blocks_behind body part k c d room same =
    let z : 512 * k ≡ 0 + 512 * k = omega arith in
    let e : 512 * k + c * 512 ≡ 512 * (k + c) = omega arith in
    ap (λ (at : ℕ). put at (c * 512) (blocks_of part) (put 0 (512 * k) (blocks_of body) d)) z
    ∙ put_next 0 (512 * k) (blocks_of body) d (c * 512) (blocks_of part) (omega arith) byte
    ∙ ap (λ (n : ℕ). put 0 n (blocks_of body) d) e
  where
    byte : (q : ℕ) → q < c * 512 → blocks_of part q ≡ blocks_of body (512 * k + q)
    byte q h =
        let a : (512 * k + q) / 512 ≡ k + q / 512 = omega arith in
        let m : (512 * k + q) % 512 ≡ q % 512 = omega arith in
        block_cong (part (q / 512)) (body (k + q / 512)) (λ p l. same (q / 512) p (omega arith)) (q % 512)
        ∙ sym (rw (a, m))

-- One block is.
pub block_behind : (body : ℕ → ℕ → ℕ) (g : ℕ → ℕ) (k : ℕ) (d : List ℕ) → 512 * (k + 1) ≤ length d → ((p : ℕ) → g p ≡ body k p) →
    put (512 * k) 512 (block_byte g) (put 0 (512 * k) (blocks_of body) d) ≡ put 0 (512 * (k + 1)) (blocks_of body) d
block_behind body g k d room same =
    put_cong (512 * k) 512 (block_byte g) (blocks_of (λ b. g)) (put 0 (512 * k) (blocks_of body) d) (λ q h. let m : q % 512 ≡ q = omega arith in sym (rw m))
    ∙ blocks_behind body (λ b. g) k 1 d room (λ b p h. same p ∙ ap (λ (i : ℕ). body i p) (omega (arith, h)))
