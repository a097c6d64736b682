-- The fields of an offer and of a tally, put one after the other. Assumes nothing.
use mathlib.Core.Path.{◌≡◌, refl, sym, ap, ◌∙◌}
use mathlib.Core.List.{List, [], ◌∷◌, ◌++◌}
use Prim.Native.Nat.{ℕ, ◌+◌, ◌/◌, ◌%◌, ◌≤◌, ◌<◌}
use native.Mathlib.Omega.{arith}
use lib.IntN.{ℤ}
use lib.ListN.{length, set, length-set, get_or-append, get_or-eq_default}
use lib.Seq.{get_or-append-add}
use mir.Syntax.{w32}
use mir.Val.{of_z}
use Rattle.laws.specs.Tables.{tabulate}
use Rattle.format.specs.Bytes.{bytes16, bytes32}
use Rattle.format.specs.Codes.{code_bytes, read_code}
use Rattle.format.specs.Job.{Offer, Tally}
use Rattle.format.specs.Blocks.{offer_bytes, tally_bytes}
use Rattle.file_blocks.specs.Copied.{Copied}
use Rattle.writer_bytes.specs.Puts.{put, bytes_of}
use Rattle.file_codes.proofs.Codes.{code_byte}
use Rattle.writer_bytes.proofs.Puts.{length_put, is_put, put_cong, put_next, store_next}

-- Bytes that are copied are put.
pub copied_put : (g : ℕ → ℕ) (at n : ℕ) (d d' : List ℕ) → at + n ≤ length d → length d' ≡ length d → Copied g at n d d' → d' ≡ put at n g d
copied_put g at n d d' room e c = is_put at n g d room d' e c.before c.inside c.past

-- ---- an offer

module _ (p w : ℕ) (g : ℕ → ℕ) (s : ℕ) where
  abbrev offer : Offer
  offer = record { price = p; owner = w; code = read_code g; issuer = s }

  price_byte : (k : ℕ) → k < 4 → bytes_of (bytes32 p) k ≡ bytes_of (offer_bytes offer) k
  unfolding offer_bytes
  price_byte k h = sym (get_or-append (bytes32 p) (w ∷ code_bytes (read_code g) ++ bytes16 s) 0 k h)

  owner_byte : w ≡ bytes_of (offer_bytes offer) 4
  unfolding offer_bytes
  owner_byte = refl

  offer_code_lem : (k : ℕ) → k < 11 → g k ≡ bytes_of (offer_bytes offer) (5 + k)
  unfolding offer_bytes
  offer_code_lem k h =
      sym (get_or-append-add (p % 256 ∷ p / 256 % 256 ∷ p / 65536 % 256 ∷ p / 16777216 ∷ w ∷ []) (code_bytes (read_code g) ++ bytes16 s) k 0
      ∙ get_or-append (code_bytes (read_code g)) (bytes16 s) 0 k (unfold code_bytes tabulate in h)
      ∙ code_byte g k h)

  offer_issuer_lem : (k : ℕ) → k < 2 → bytes_of (bytes16 s) k ≡ bytes_of (offer_bytes offer) (16 + k)
  unfolding offer_bytes code_bytes tabulate
  offer_issuer_lem k h = sym (get_or-append-add (p % 256 ∷ p / 256 % 256 ∷ p / 65536 % 256 ∷ p / 16777216 ∷ w ∷ code_bytes (read_code g)) (bytes16 s) k 0)

  offer_spare : (k : ℕ) → 0 ≡ bytes_of (offer_bytes offer) (18 + k)
  unfolding offer_bytes code_bytes tabulate
  offer_spare k = sym (get_or-eq_default (offer_bytes offer) 0 {n = 18 + k} (omega arith))

  -- Price, owner, code, issuer and zeros are the offer's 24 bytes.
  pub offer_put : (at : ℕ) (d d₁ d₂ d₃ d₄ d₅ : List ℕ) → at + 24 ≤ length d → d₁ ≡ put at 4 (bytes_of (bytes32 p)) d → d₂ ≡ set d₁ (at + 4) w → length d₃ ≡ length d →
      Copied g (at + 5) 11 d₂ d₃ → d₄ ≡ put (at + 16) 2 (bytes_of (bytes16 s)) d₃ → d₅ ≡ put (at + 18) 6 (λ _. 0) d₄ →
      d₅ ≡ put at 24 (bytes_of (offer_bytes offer)) d
  offer_put at d d₁ d₂ d₃ d₄ d₅ room e₁ e₂ l₃ c₃ e₄ e₅ =
      let f = bytes_of (offer_bytes offer) in
      let l₁ : length d₁ ≡ length d = ap length e₁ ∙ length_put at 4 (bytes_of (bytes32 p)) d (omega arith) in
      let l₂ : length d₂ ≡ length d = ap length e₂ ∙ length-set d₁ (at + 4) w ∙ l₁ in
      let q₂ : d₂ ≡ put at 5 f d = e₂ ∙ rw (e₁, put_cong at 4 (bytes_of (bytes32 p)) f d price_byte) (store_next at 4 f d w (omega arith) owner_byte) in
      let q₃ : d₃ ≡ put at 16 f d = copied_put g (at + 5) 11 d₂ d₃ (omega arith) (l₃ ∙ sym l₂) c₃ ∙ ap (put (at + 5) 11 g) q₂ ∙ put_next at 5 f d 11 g (omega arith) offer_code_lem in
      let q₄ : d₄ ≡ put at 18 f d = e₄ ∙ ap (put (at + 16) 2 (bytes_of (bytes16 s))) q₃ ∙ put_next at 16 f d 2 (bytes_of (bytes16 s)) (omega arith) offer_issuer_lem in
      e₅ ∙ ap (put (at + 18) 6 (λ _. 0)) q₄ ∙ put_next at 18 f d 6 (λ _. 0) (omega arith) (λ k h. offer_spare k)

-- ---- a tally

module _ (m b : ℕ) (g : ℕ → ℕ) (z : ℤ) (s a r : ℕ) where
  abbrev tally : Tally
  tally = record { grocer = m; box = b; code = read_code g; count = z; issuer = s; bag = a; revision = r }

  -- Issuer, bag and revision.
  abbrev last : List ℕ
  last = bytes16 s ++ bytes16 a ++ bytes16 r

  grocer_byte : (k : ℕ) → k < 2 → bytes_of (bytes16 m) k ≡ bytes_of (tally_bytes tally) k
  unfolding tally_bytes
  grocer_byte k h = sym (get_or-append (bytes16 m) (b ∷ code_bytes (read_code g) ++ bytes32 (of_z w32 z) ++ bytes16 s ++ bytes16 a ++ bytes16 r) 0 k h)

  box_byte : b ≡ bytes_of (tally_bytes tally) 2
  unfolding tally_bytes
  box_byte = refl

  tally_code_lem : (k : ℕ) → k < 11 → g k ≡ bytes_of (tally_bytes tally) (3 + k)
  unfolding tally_bytes code_bytes tabulate
  tally_code_lem k h =
      let c = code_bytes (read_code g) in
      let n = bytes32 (of_z w32 z) ++ last in
      sym (get_or-append-add (m % 256 ∷ m / 256 ∷ b ∷ []) (c ++ n) k 0 ∙ get_or-append c n 0 k h ∙ code_byte g k h)

  count_byte : (k : ℕ) → k < 4 → bytes_of (bytes32 (of_z w32 z)) k ≡ bytes_of (tally_bytes tally) (14 + k)
  unfolding tally_bytes code_bytes tabulate
  count_byte k h =
      let n = bytes32 (of_z w32 z) in
      sym (get_or-append-add (m % 256 ∷ m / 256 ∷ b ∷ code_bytes (read_code g)) (n ++ last) k 0 ∙ get_or-append n last 0 k h)

  last_byte : (k : ℕ) → k < 6 → bytes_of last k ≡ bytes_of (tally_bytes tally) (18 + k)
  unfolding tally_bytes code_bytes tabulate
  last_byte k h = sym (get_or-append-add (m % 256 ∷ m / 256 ∷ b ∷ code_bytes (read_code g) ++ bytes32 (of_z w32 z)) last k 0)

  -- Grocer, box, code, count, issuer, bag and revision are the tally's 24 bytes.
  pub tally_put : (at : ℕ) (d d₁ d₂ d₃ d₄ d₅ : List ℕ) → at + 24 ≤ length d → d₁ ≡ put at 2 (bytes_of (bytes16 m)) d → d₂ ≡ set d₁ (at + 2) b → length d₃ ≡ length d →
      Copied g (at + 3) 11 d₂ d₃ → d₄ ≡ put (at + 14) 4 (bytes_of (bytes32 (of_z w32 z))) d₃ → d₅ ≡ put (at + 18) 6 (bytes_of last) d₄ →
      d₅ ≡ put at 24 (bytes_of (tally_bytes tally)) d
  tally_put at d d₁ d₂ d₃ d₄ d₅ room e₁ e₂ l₃ c₃ e₄ e₅ =
      let f = bytes_of (tally_bytes tally) in
      let l₁ : length d₁ ≡ length d = ap length e₁ ∙ length_put at 2 (bytes_of (bytes16 m)) d (omega arith) in
      let l₂ : length d₂ ≡ length d = ap length e₂ ∙ length-set d₁ (at + 2) b ∙ l₁ in
      let q₂ : d₂ ≡ put at 3 f d = e₂ ∙ rw (e₁, put_cong at 2 (bytes_of (bytes16 m)) f d grocer_byte) (store_next at 2 f d b (omega arith) box_byte) in
      let q₃ : d₃ ≡ put at 14 f d = copied_put g (at + 3) 11 d₂ d₃ (omega arith) (l₃ ∙ sym l₂) c₃ ∙ ap (put (at + 3) 11 g) q₂ ∙ put_next at 3 f d 11 g (omega arith) tally_code_lem in
      let q₄ : d₄ ≡ put at 18 f d = e₄ ∙ ap (put (at + 14) 4 (bytes_of (bytes32 (of_z w32 z)))) q₃ ∙ put_next at 14 f d 4 (bytes_of (bytes32 (of_z w32 z))) (omega arith) count_byte in
      e₅ ∙ ap (put (at + 18) 6 (bytes_of last)) q₄ ∙ put_next at 18 f d 6 (bytes_of last) (omega arith) last_byte
