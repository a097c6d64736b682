-- The size of a whole number, nat_abs, and what fits an i64 or an i32. `omega` reads nat_abs z as an unknown number,
-- so a bound on a sum or a product is had by giving `omega` these laws, applied. Assumes nothing.
use mathlib.Core.Path.{◌≡◌, refl, sym, ap, ap₂, ◌∙◌, subst}
use mathlib.Core.Bool.{Bool, true, false, ◌||◌}
use Prim.Native.Nat.{ℕ, zero, suc, ◌+◌, ◌*◌, ◌^◌, ◌≤◌, ◌<◌}
use native.Mathlib.Nat.{le_refl, le_trans, le_of_eq, le-suc, lt_of_le_of_lt, mul-le-mul}
use native.Mathlib.Omega.{arith}
use lib.Dec.{T, ltb, leb, lit<, leb-suc-suc}
use lib.IntN.{ℤ, pos, negsuc, neg_ℤ, nat_abs, sub_ℕ, ◌+ℤ◌, ◌*ℤ◌}
use lib.Signed.{mag, le_z, lt_z}
use mir.Syntax.{w32, w64}
use mir.Val.{SFits, to_z, of_z}
use mir.Facts.{to_z-of_z}
use borrow.Author.Tests.{lt-leb, le-leb, ltb-true, ltb-false}
use Rattle.laws.specs.Below.{integers, sum, only, count}
use Rattle.laws.proofs.Bools.{split, or_false}
use Rattle.laws.proofs.Below.{count_suc, counts_one, counts_none}

-- |a − b| ≤ a + b
abs_sub : (a b : ℕ) → nat_abs (sub_ℕ a b) ≤ a + b
abs_sub a b = split (ltb a b) (λ e. rw e (omega (arith, ltb-true a b e))) (λ e. rw e (omega arith))

-- |a + b| ≤ |a| + |b|
pub abs_plus : (a b : ℤ) → nat_abs (a +ℤ b) ≤ nat_abs a + nat_abs b
abs_plus (pos a) (pos b) = le_refl (a + b)
abs_plus (pos a) (negsuc b) = abs_sub a (suc b)
abs_plus (negsuc a) (pos b) = omega (arith, abs_sub b (suc a))
abs_plus (negsuc a) (negsuc b) = omega arith

abs_neg : (z : ℤ) → nat_abs (neg_ℤ z) ≡ nat_abs z
abs_neg (pos zero) = refl
abs_neg (pos (suc n)) = refl
abs_neg (negsuc n) = refl

-- |a × b| = |a| × |b|
pub abs_times : (a b : ℤ) → nat_abs (a *ℤ b) ≡ nat_abs a * nat_abs b
abs_times (pos a) (pos b) = refl
abs_times (pos a) (negsuc b) = abs_neg (pos (a * suc b))
abs_times (negsuc a) (pos b) = abs_neg (pos (suc a * b))
abs_times (negsuc a) (negsuc b) = refl

-- A product's size, by its factors' sizes.
pub abs_times_le : (a b : ℤ) {m n : ℕ} → nat_abs a ≤ m → nat_abs b ≤ n → nat_abs (a *ℤ b) ≤ m * n
abs_times_le a b h k = le_trans (le_of_eq (abs_times a b)) (mul-le-mul h k)

-- n terms of at most m each.
pub sum_abs : (n m : ℕ) (f : ℕ → ℤ) → ((i : ℕ) → i < n → nat_abs (f i) ≤ m) → nat_abs (sum integers n f) ≤ n * m
unfolding sum integers
sum_abs zero m f h = omega arith
sum_abs (suc n) m f h = omega (arith, abs_plus (sum integers n f) (f n), sum_abs n m f (λ i l. h i (omega arith)), h n (omega arith))

-- n terms of at most m each, of which only those that pass p are not 0.
pub sum_abs_count : (n m : ℕ) (p : ℕ → Bool) (f : ℕ → ℤ) → ((i : ℕ) → i < n → p i ≡ false → f i ≡ pos 0) → ((i : ℕ) → i < n → nat_abs (f i) ≤ m) →
    nat_abs (sum integers n f) ≤ count n p * m
unfolding sum integers
sum_abs_count zero m p f z h = omega arith
sum_abs_count (suc n) m p f z h =
    let before = sum_abs_count n m p f (λ i l. z i (omega arith)) (λ i l. h i (omega arith)) in
    split (p n)
    (λ e. rw (count_suc n p, counts_one e) (omega (arith, abs_plus (sum integers n f) (f n), before, h n (omega arith))))
    (λ e. let none : nat_abs (f n) ≡ 0 = ap nat_abs (z n (omega arith) e) in
    rw (count_suc n p, counts_none e) (omega (arith, abs_plus (sum integers n f) (f n), before)))

pub only_abs : (t : Bool) (x : ℤ) (m : ℕ) → nat_abs x ≤ m → nat_abs (only integers t x) ≤ m
unfolding only integers
only_abs true x m h = h
only_abs false x m h = omega arith

mag_le : (z : ℤ) → mag z ≤ nat_abs z
mag_le (pos n) = le_refl n
mag_le (negsuc n) = le-suc n

-- A number of at most 9 × 10^18 fits an i64, also where it is known by an equation.
pub fits64 : {z : ℤ} → nat_abs z ≤ 9_000_000_000_000_000_000 → SFits w64 z
fits64 {z} h = record { sfits = lt_of_le_of_lt (le_trans (mag_le z) h) (lit< tt) }

pub fits64_as : {z y : ℤ} → z ≡ y → nat_abs y ≤ 9_000_000_000_000_000_000 → SFits w64 z
fits64_as e h = subst (λ (x : ℤ). SFits w64 x) (sym e) (fits64 h)

-- What the machine reads back from the bits of a number is the number. The range is what a call's `.ok` says of its
-- result, a slice's rule of an element, and `c.fits.x.sfits` of a parameter.
pub read64 : (z : ℤ) → mag z < 2 ^ 63 → to_z w64 (of_z w64 z) ≡ z
read64 z h = to_z-of_z {w = w64} (record { sfits = h })

pub read32 : (z : ℤ) → mag z < 2 ^ 31 → to_z w32 (of_z w32 z) ≡ z
read32 z h = to_z-of_z {w = w32} (record { sfits = h })

-- The same, by the size.
pub read64_abs : (z : ℤ) → nat_abs z ≤ 9_000_000_000_000_000_000 → to_z w64 (of_z w64 z) ≡ z
read64_abs z h = read64 z (lt_of_le_of_lt (le_trans (mag_le z) h) (lit< tt))

pub read32_abs : (z : ℤ) → nat_abs z ≤ 2_000_000_000 → to_z w32 (of_z w32 z) ≡ z
read32_abs z h = read32 z (lt_of_le_of_lt (le_trans (mag_le z) h) (lit< tt))

-- The sum that the machine makes of two numbers, each known by an equation.
pub read_sum : {x y x' y' : ℤ} → mag x < 2 ^ 63 → mag y < 2 ^ 63 → x ≡ x' → y ≡ y' → to_z w64 (of_z w64 x) +ℤ to_z w64 (of_z w64 y) ≡ x' +ℤ y'
read_sum {x} {y} hx hy ex ey = ap₂ ◌+ℤ◌ (read64 x hx ∙ ex) (read64 y hy ∙ ey)

-- A range test as code makes it, x > l and then x >= −l, and the size.
pub over_by : (l : ℕ) (z : ℤ) → lt_z (pos l) z ≡ true → leb (nat_abs z) l ≡ false
over_by l (pos n) e = lt-leb n l (ltb-true l n e)
over_by l (negsuc n) e = absurd (subst T (sym e) tt)

pub not_over_by : (l : ℕ) (z : ℤ) → lt_z (pos (suc l)) z ≡ false → le_z (negsuc l) z ≡ leb (nat_abs z) (suc l)
not_over_by l (pos n) e = sym (le-leb n (suc l) (ltb-false (suc l) n e))
not_over_by l (negsuc n) e = sym (leb-suc-suc n l)

-- Both tests at once, x < −l or x > l.
pub outside_by : (l : ℕ) (z : ℤ) → (lt_z z (negsuc l) || lt_z (pos (suc l)) z) ≡ ltb (suc l) (nat_abs z)
outside_by l (pos n) = refl
outside_by l (negsuc n) = or_false (ltb l n) ∙ sym (leb-suc-suc (suc l) n)
