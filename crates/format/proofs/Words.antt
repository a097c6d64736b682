-- Words and their bytes, and the sums of a block's bytes. Assumes nothing.
use Prim.Native.Nat.{ℕ, ◌+◌, ◌-◌, ◌*◌, ◌/◌, ◌%◌, ◌<◌}
use mathlib.Core.Path.{◌≡◌, ap}
use mathlib.Core.List.{[], ◌∷◌}
use native.Mathlib.Omega.{arith}
use Rattle.laws.specs.Below.{naturals}
use Rattle.laws.proofs.Sums.{sum_cong}
use Rattle.format.specs.Bytes.{bytes16, bytes32}
use Rattle.format.specs.Blocks.{first_sum, second_sum}

-- A word that is read has the bytes that stood there.
pub bytes_word16 : (a b : ℕ) → a < 256 → bytes16 (a + 256 * b) ≡ a ∷ b ∷ []
bytes_word16 a b ha =
    let e₀ : (a + 256 * b) % 256 ≡ a = omega arith in
    let e₁ : (a + 256 * b) / 256 ≡ b = omega arith in
    rw (e₀, e₁)

-- The same of four bytes.
pub bytes_word32 : (a b c d : ℕ) → a < 256 → b < 256 → c < 256 → bytes32 (a + 256 * b + 65536 * c + 16777216 * d) ≡ a ∷ b ∷ c ∷ d ∷ []
bytes_word32 a b c d ha hb hc =
    let v = a + 256 * b + 65536 * c + 16777216 * d in
    let q₁ : v / 256 ≡ b + 256 * c + 65536 * d = omega arith in
    let q₂ : v / 65536 ≡ c + 256 * d = omega arith in
    let q₃ : v / 16777216 ≡ d = omega arith in
    let e₀ : v % 256 ≡ a = omega arith in
    let e₁ : (b + 256 * c + 65536 * d) % 256 ≡ b = omega arith in
    let e₂ : (c + 256 * d) % 256 ≡ c = omega arith in
    rw (q₁, q₂, q₃, e₀, e₁, e₂)

-- Bytes that are written read as the word.
pub word_bytes16 : (v : ℕ) → v % 256 + 256 * (v / 256) ≡ v
word_bytes16 v = omega arith

-- The same of four bytes.
pub word_bytes32 : (v : ℕ) → v % 256 + 256 * (v / 256 % 256) + 65536 * (v / 65536 % 256) + 16777216 * (v / 16777216) ≡ v
word_bytes32 v = omega arith

-- The first sum goes by the first 508 bytes.
pub first_cong : (g h : ℕ → ℕ) → ((k : ℕ) → k < 508 → g k ≡ h k) → first_sum g ≡ first_sum h
unfolding first_sum
first_cong g h e = ap (λ (n : ℕ). n % 65521) (sum_cong naturals 508 g h e)

-- The second sum likewise.
pub second_cong : (g h : ℕ → ℕ) → ((k : ℕ) → k < 508 → g k ≡ h k) → second_sum g ≡ second_sum h
unfolding second_sum
second_cong g h e = ap (λ (n : ℕ). n % 65521) (sum_cong naturals 508 (λ p. (508 - p) * g p) (λ p. (508 - p) * h p) (λ p l. ap (λ (x : ℕ). (508 - p) * x) (e p l)))
