-- The number of a code, from all ten bytes of its field by their low four bits. Assumes nothing.
use mathlib.Core.Path.{◌≡◌, refl, sym, ap, ◌∙◌}
use mathlib.Core.Bool.{cond}
use Prim.Native.Nat.{ℕ, zero, suc, ◌+◌, ◌-◌, ◌*◌, ◌/◌, ◌%◌, ◌^◌, ◌≤◌, ◌<◌}
use native.Mathlib.Nat.{add-zero, mul_assoc, mul_comm, mul-add, mul-one, mul-le-mul_left, pow-suc, pow-zero}
use native.Mathlib.Omega.{arith}
use lib.Dec.{ltb}
use borrow.Author.Tests.{ltb-true, ltb-false}
use Rattle.laws.proofs.Bools.{split}
use Rattle.format.specs.Codes.{Code, value, code_number}
use Rattle.format.proofs.Codes.{IsCode, value_cong, value_next, value_bound}

-- The digits that the low four bits of bytes write.
abbrev pub lows : (ℕ → ℕ) → ℕ → ℕ
lows d k = 48 + d k % 16

-- One byte more.
low_next : (x : ℕ → ℕ) (n : ℕ) → value (n + 1) (λ k. 48 + x k) ≡ value n (λ k. 48 + x k) * 10 + x n
low_next x n = let e = value_next n (λ k. 48 + x k) in omega (arith, e)

-- Two bytes.
pub two_is : (x : ℕ → ℕ) → value 2 (λ k. 48 + x k) ≡ x 0 * 10 + x 1
unfolding value
two_is x = let none : value 0 (λ k. 48 + x k) ≡ 0 = refl in omega (arith, none, low_next x 0, low_next x 1)

-- Four bytes, two by two.
pub four_is : (x : ℕ → ℕ) → value 4 (λ k. 48 + x k) ≡ value 2 (λ k. 48 + x k) * 100 + value 2 (λ k. 48 + x (2 + k))
four_is x = omega (arith, two_is (λ k. x (2 + k)), low_next x 2, low_next x 3)

-- Nine bytes, four by four.
pub nine_is : (x : ℕ → ℕ) → value 9 (λ k. 48 + x k) ≡ (value 4 (λ k. 48 + x k) * 10000 + value 4 (λ k. 48 + x (4 + k))) * 10 + x 8
nine_is x =
    let v : ℕ → ℕ = λ n. value n (λ k. 48 + x k) in
    let four : value 4 (λ k. 48 + x (4 + k)) ≡ value 2 (λ k. 48 + x (4 + k)) * 100 + value 2 (λ k. 48 + x (4 + (2 + k))) = four_is (λ k. x (4 + k)) in
    let a : value 2 (λ k. 48 + x (4 + k)) ≡ x 4 * 10 + x 5 = two_is (λ k. x (4 + k)) in
    let b : value 2 (λ k. 48 + x (4 + (2 + k))) ≡ x 6 * 10 + x 7 = two_is (λ k. x (4 + (2 + k))) in
    let five : v 5 ≡ v 4 * 10 + x 4 = low_next x 4 in
    let six : v 6 ≡ v 5 * 10 + x 5 = low_next x 5 in
    let seven : v 7 ≡ v 6 * 10 + x 6 = low_next x 6 in
    let eight : v 8 ≡ v 7 * 10 + x 7 = low_next x 7 in
    let nine : v 9 ≡ v 8 * 10 + x 8 = low_next x 8 in
    omega (arith, four, a, b, five, six, seven, eight, nine)

-- A number of n digits and j zeros behind them.
behind : (e : ℕ → ℕ) (n j : ℕ) → ((k : ℕ) → n ≤ k → k < n + j → e k ≡ 48) → value (n + j) e ≡ value n e * 10 ^ j
behind e n zero h = ap (λ (k : ℕ). value k e) (add-zero n) ∙ sym (mul-one (value n e)) ∙ ap (λ (p : ℕ). value n e * p) (sym (pow-zero 10))
behind e n (suc j) h =
    let k : n + suc j ≡ n + j + 1 = omega arith in
    let s : value (n + suc j) e ≡ value (n + j) e * 10 + (e (n + j) - 48) = ap (λ (m : ℕ). value m e) k ∙ value_next (n + j) e in
    let r = behind e n j (λ k l m. h k l (omega arith)) in
    let p : value n e * 10 ^ suc j ≡ value n e * 10 ^ j * 10 = ap (λ (x : ℕ). value n e * x) (pow-suc 10 j) ∙ sym (mul_assoc (value n e) (10 ^ j) 10) in
    omega (arith, s, r, p, h (n + j) (omega arith) (omega arith))

-- A multiple of p below 2^30, over p.
divided : (v p r : ℕ) → 1073741824 ≤ r * p → r * p < 1073741824 + p → v * p < 1000000000 → v * p * r / 1073741824 ≡ v
divided v p r a b l =
    let q = r * p - 1073741824 in
    let t : p * r ≡ 1073741824 + q = mul_comm p r ∙ omega arith in
    let e : v * p * r ≡ v * 1073741824 + v * q = mul_assoc v p r ∙ ap (λ (x : ℕ). v * x) t ∙ mul-add v 1073741824 q in
    let m : v * q ≤ v * p = mul-le-mul_left v (omega arith) in
    omega (arith, e, m)

module _ (c : Code) (i : IsCode c) where
  -- A byte of the field is the digit of its low four bits, or 0 behind the digits.
  low_digit : (k : ℕ) → k < c.size → lows c.digit k ≡ c.digit k
  low_digit k l = omega (arith, i.digits k l)

  low_rest : (k : ℕ) → c.size ≤ k → k < 10 → lows c.digit k ≡ 48
  low_rest k l m = omega (arith, i.rest k l m)

  -- So each of the ten is a digit.
  low_byte : (k : ℕ) → k < 10 → (48 ≤ lows c.digit k) × (lows c.digit k ≤ 57)
  low_byte k m =
      split (ltb k c.size)
      (λ t. let l = ltb-true k c.size t in (omega arith, omega (arith, low_digit k l, i.digits k l)))
      (λ t. (omega arith, omega (arith, low_rest k (ltb-false k c.size t) m)))

  -- The first digits, at most nine, and their number among nine bytes.
  first_nine : (n : ℕ) → n ≤ 9 → n ≤ c.size → ((k : ℕ) → n ≤ k → k < 9 → lows c.digit k ≡ 48) → value 9 (lows c.digit) ≡ value n c.digit * 10 ^ (9 - n)
  first_nine n l h z =
      let e : 9 ≡ n + (9 - n) = omega arith in
      ap (λ (m : ℕ). value m (lows c.digit)) e
      ∙ behind (lows c.digit) n (9 - n) (λ k a b. z k a (omega arith))
      ∙ ap (λ (x : ℕ). x * 10 ^ (9 - n)) (value_cong n (lows c.digit) c.digit (λ k m. low_digit k (omega arith)))

  below : value 9 (lows c.digit) < 1000000000
  below = value_bound (lows c.digit) 9 9 (λ k l. low_byte k (omega arith)) (omega arith)

  -- The number of the first n digits, from that of nine bytes.
  first_digits : (n m r : ℕ) → n ≤ 9 → n ≤ c.size → ((k : ℕ) → n ≤ k → k < 9 → lows c.digit k ≡ 48) → m ≡ value 9 (lows c.digit) →
      1073741824 ≤ r * 10 ^ (9 - n) → r * 10 ^ (9 - n) < 1073741824 + 10 ^ (9 - n) → m * r / 1073741824 ≡ value n c.digit
  first_digits n m r l h z e a b =
      let v = e ∙ first_nine n l h z in
      ap (λ (x : ℕ). x * r / 1073741824) v ∙ divided (value n c.digit) (10 ^ (9 - n)) r a b (omega (arith, v, e, below))

  -- The number of a code, from that of nine bytes and the last.
  pub number_is : (m r : ℕ) → m ≡ value 9 (lows c.digit) → 1073741824 ≤ r * 10 ^ (9 - c.size) → r * 10 ^ (9 - c.size) < 1073741824 + 10 ^ (9 - c.size) →
      m * r / 1073741824 * cond (ltb c.size 10) 1 10 + c.digit 9 % 16 ≡ code_number c
  unfolding code_number
  number_is m r e a b =
      split (ltb c.size 10)
      (λ t.
      let l = ltb-true c.size 10 t in
      let f = first_digits c.size m r (omega arith) (omega arith) (λ k x y. low_rest k x (omega arith)) e a b in
      rw t (omega (arith, f, i.rest 9 (omega arith) (omega arith))))
      (λ t.
      let n : c.size ≡ 10 = omega (arith, ltb-false c.size 10 t, i.few) in
      let f = first_digits 9 m r (omega arith) (omega arith) (λ k x y. absurd (omega arith)) e (rw n at a) (rw n at b) in
      let v : value c.size c.digit ≡ value 9 c.digit * 10 + (c.digit 9 - 48) = ap (λ (k : ℕ). value k c.digit) n ∙ value_next 9 c.digit in
      rw t (omega (arith, f, v, i.digits 9 (omega arith))))
