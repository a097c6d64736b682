-- Numbers in decimal: the digits that are made are those that are said, and there are few. Assumes nothing.
use mathlib.Core.Path.{◌≡◌, ap, ap₂, ◌∙◌}
use mathlib.Core.List.{List, [], ◌∷◌, ◌++◌, append_assoc}
use Prim.Native.Nat.{ℕ, zero, suc, ◌+◌, ◌-◌, ◌/◌, ◌%◌, ◌^◌, ◌≤◌, ◌<◌}
use native.Mathlib.Omega.{arith}
use native.Mathlib.Nat.{pow-suc, mod-eq_of_lt}
use lib.Dec.{ltb}
use lib.IntN.{ℤ, pos, negsuc, nat_abs}
use lib.ListN.{length, length-append}
use mir.Syntax.{w64}
use mir.Val.{SFits}
use borrow.Author.Tests.{lt-ltb, ltb-true, ltb-false}
use Rattle.io.specs.Digits.{last_digits, hex_digit_ascii, IsDigitCount}
use Rattle.laws.proofs.Bools.{split}
use Rattle.printing.specs.Printed.{digits_of, decimal, signed_decimal, line}
use Rattle.printing.proofs.Digits.{below_power}
use Rattle.settle_text.specs.Puts.{Put}
use Rattle.settle_text.proofs.Puts.{behind, reworded}

-- A last digit.
digit : (n : ℕ) → hex_digit_ascii (n % 10) ≡ 48 + n % 10
digit n = rw (lt-ltb (n % 10) 10 (omega arith))

-- A power of ten is at least 1.
some : (k : ℕ) → 1 ≤ 10 ^ k
some zero = omega arith
some (suc k) = omega (arith, pow-suc 10 k, some k)

-- The fewest digits of a number below 10 are one.
one_digit : (n r : ℕ) → n < 10 → IsDigitCount 10 1 n r → last_digits 10 r n ≡ (48 + n) ∷ []
one_digit n zero h f = absurd (omega (arith, f.0))
one_digit n (suc zero) h f = ap (λ (k : ℕ). k ∷ []) (digit n ∙ ap (λ (k : ℕ). 48 + k) (mod-eq_of_lt h))
one_digit n (suc (suc r)) h f = let e : suc (suc r) - 1 ≡ suc r = omega arith in absurd (omega (arith, rw e at (f.2 (omega arith)), pow-suc 10 r, some r))

-- The fewest digits of any other number are those of its tenth, and one more.
fewer : (n r : ℕ) → 10 ≤ n → IsDigitCount 10 1 n (suc r) → IsDigitCount 10 1 (n / 10) r
fewer n zero h f = absurd (omega (arith, f.1))
fewer n (suc r) h f = (
  omega arith,
  omega (arith, f.1, pow-suc 10 (suc r)),
  λ more.
      let d : suc (suc r) - 1 ≡ suc r = omega arith in
      let e : suc r - 1 ≡ r = omega arith in
      rw e (omega (arith, rw d at (f.2 (omega arith)), pow-suc 10 r)),
)

-- The digits of a number that has a tenth, and of one that has none.
more : (k n r : ℕ) → ((m q : ℕ) → m < 10 ^ k → IsDigitCount 10 1 m q → last_digits 10 q m ≡ digits_of k m) →
    10 ≤ n → n < 10 ^ suc k → IsDigitCount 10 1 n r → last_digits 10 r n ≡ digits_of k (n / 10) ++ ((48 + n % 10) ∷ [])
more k n zero rec h small f = absurd (omega (arith, f.0))
more k n (suc r) rec h small f =
    ap₂ (λ (a : List ℕ) (b : ℕ). a ++ (b ∷ [])) (rec (n / 10) r (omega (arith, pow-suc 10 k)) (fewer n r h f)) (digit n)

-- The digits of a number, found from how many they are and found one by one.
digits_are : (k n r : ℕ) → n < 10 ^ suc k → IsDigitCount 10 1 n r → last_digits 10 r n ≡ digits_of (suc k) n
unfolding digits_of
digits_are zero n r small f = rw (lt-ltb n 10 (omega arith)) (one_digit n r (omega arith) f)
digits_are (suc k) n r small f =
    split (ltb n 10)
    (λ e. rw e (one_digit n r (ltb-true n 10 e) f))
    (λ e. rw e (more (suc k) n r (digits_are k) (ltb-false n 10 e) small f))

pub decimal_is : (n r : ℕ) → IsDigitCount 10 1 n r → last_digits 10 r n ≡ decimal n
unfolding decimal
decimal_is n r = digits_are n n r (below_power n)

-- A number below 10 ^ (j + 1) has at most j + 1 digits.
few : (k j n : ℕ) → n < 10 ^ suc j → length (digits_of k n) ≤ suc j
unfolding digits_of
few zero j n h = omega arith
few (suc k) zero n h = rw (lt-ltb n 10 (omega arith)) (omega arith)
few (suc k) (suc j) n h =
    split (ltb n 10)
    (λ e. rw e (omega arith))
    (λ e. rw e (omega (arith, length-append (digits_of k (n / 10)) ((48 + n % 10) ∷ []), few k j (n / 10) (omega (arith, pow-suc 10 (suc j))))))

pub decimal_few : (j n : ℕ) → n < 10 ^ suc j → length (decimal n) ≤ suc j
unfolding decimal
decimal_few j n h = few (suc n) j n h

-- With a sign it is at most one more.
pub signed_few : (j : ℕ) (z : ℤ) → nat_abs z < 10 ^ suc j → length (signed_decimal z) ≤ suc (suc j)
unfolding signed_decimal
signed_few j (pos n) h = omega (arith, decimal_few j n h)
signed_few j (negsuc n) h = omega (arith, decimal_few j (suc n) h)

-- The size of a 64-bit amount.
pub abs_64 : (z : ℤ) → SFits w64 z → nat_abs z < 10 ^ 19
abs_64 (pos n) h = omega (arith, h.sfits)
abs_64 (negsuc n) h = omega (arith, h.sfits)

-- The text of an amount below 0, and of any other.
pub signed_below : {z : ℤ} {n k : ℕ} → z ≡ negsuc n → k ≡ nat_abs z → (45 ∷ []) ++ decimal k ≡ signed_decimal z
unfolding signed_decimal
signed_below {z} {n} {k} e h = rw (h, e)

pub signed_from : {z : ℤ} {n k : ℕ} → z ≡ pos n → k ≡ nat_abs z → decimal k ≡ signed_decimal z
unfolding signed_decimal
signed_from {z} {n} {k} e h = rw (h, e)

-- A name, a space, a value and the end of the line are a line.
pub lined : {at r q p o : ℕ} {name value d e f g h : List ℕ} →
    Put at name d e r → Put r (32 ∷ []) e f q → Put q value f g p → Put p (10 ∷ []) g h o → Put at (line name value) d h o
unfolding line
lined {name = name} {value = value} a b c n = reworded (ap (λ (l : List ℕ). l ++ (10 ∷ [])) (append_assoc name (32 ∷ []) value)) (behind (behind (behind a b) c) n)

-- Its length.
pub line_long : (name value : List ℕ) → length (line name value) ≡ length name + length value + 2
unfolding line
line_long name value = length-append (name ++ (32 ∷ value)) (10 ∷ []) ∙ rw (length-append name (32 ∷ value)) (omega arith)

-- A line of a name and a number.
pub count_short : (name : List ℕ) (n : ℕ) → n < 10 ^ 20 → length (line name (decimal n)) ≤ length name + 22
count_short name n h = omega (arith, line_long name (decimal n), decimal_few 19 n h)
