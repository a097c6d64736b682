-- Shifts and masks, and the bits of a word. Assumes nothing.
use mathlib.Core.Path.{◌≡◌, refl, sym, ap, ap₂, ◌∙◌}
use mathlib.Core.Bool.{Bool, true, false, not, ◌||◌, ◌&&◌, false≢true}
use Prim.Native.Nat.{ℕ, zero, suc, ◌+◌, ◌-◌, ◌*◌, ◌/◌, ◌%◌, ◌^◌, ◌≤◌, ◌<◌, zero-le, suc-le-suc, min, max}
use native.Mathlib.Nat.{le_of_suc-le-suc, not-suc-le-zero, div-one, div-div-eq-div-mul, div-eq_of_lt, pow-succ', mod-eq_of_lt, one-mul}
use native.Mathlib.Omega.{arith}
use lib.Dec.{eqb, ltb, eqb-zero-suc, eqb-suc-zero, eqb-suc-suc, leb-suc-suc, lit<}
use lib.Bits.{bit_and, bit_or, and_mask, and_step, or_step, or_zero_r}
use lib.Count.{ones, ones_step}
use lib.Pow.{pow_pos, pow-lt}
use borrow.Author.Tests.{eqb-true, not-true, not-false, lt-ltb, le-ltb}
use Rattle.laws.specs.Below.{naturals, sum, only, count, all}
use Rattle.laws.specs.Masks.{bit, mask_of, without}
use Rattle.laws.proofs.Bools.{split, and_false, and_one, and_assoc, or_false}
use Rattle.laws.proofs.Below.{only_le, count_first, all_at, all_cong, all_find}

abbrev one : Bool → ℕ
one b = only naturals b 1

-- The code's test, (w >> b) & 1 == 1.
pub bit_test : (b w : ℕ) → eqb (bit_and (w / 2 ^ b) 1) 1 ≡ bit b w
unfolding bit
bit_test b w = ap (λ (n : ℕ). eqb n 1) (and_mask (w / 2 ^ b) 1)

-- The lowest bit of a mask, and the rest.
low_bit : (n : ℕ) (f : ℕ → Bool) → mask_of (suc n) f % 2 ≡ one (f 0)
unfolding mask_of
low_bit n f = omega (arith, only_le (f 0) 1)

high_bits : (n : ℕ) (f : ℕ → Bool) → mask_of (suc n) f / 2 ≡ mask_of n (λ b. f (suc b))
unfolding mask_of
high_bits n f = omega (arith, only_le (f 0) 1)

pub mask_cong : (n : ℕ) (f g : ℕ → Bool) → ((k : ℕ) → k < n → f k ≡ g k) → mask_of n f ≡ mask_of n g
unfolding mask_of
mask_cong zero f g h = refl
mask_cong (suc n) f g h = ap₂ (λ (x y : ℕ). x + 2 * y) (ap one (h 0 (suc-le-suc zero-le))) (mask_cong n (λ b. f (suc b)) (λ b. g (suc b)) (λ k l. h (suc k) (suc-le-suc l)))

pub mask_none : (n : ℕ) → mask_of n (λ b. false) ≡ 0
unfolding mask_of only naturals
mask_none zero = refl
mask_none (suc n) = ap (λ (x : ℕ). 0 + 2 * x) (mask_none n)

pub mask_lt : (n : ℕ) (f : ℕ → Bool) → mask_of n f < 2 ^ n
unfolding mask_of
mask_lt zero f = lit< tt
mask_lt (suc n) f = omega (arith, only_le (f 0) 1, mask_lt n (λ b. f (suc b)), pow-succ' 2 n)

bit_zero : (w : ℕ) → bit 0 w ≡ eqb (w % 2) 1
unfolding bit
bit_zero w = ap (λ (x : ℕ). eqb (x % 2) 1) (div-one w)

bit_suc : (b w : ℕ) → bit (suc b) w ≡ bit b (w / 2)
unfolding bit
bit_suc b w = ap (λ (x : ℕ). eqb (x % 2) 1) (ap (λ (m : ℕ). w / m) (pow-succ' 2 b) ∙ sym (div-div-eq-div-mul w 2 (2 ^ b)))

-- A test by its word of 0 or 1, and such a word by its test.
pub one_is : (b : Bool) → eqb (one b) 1 ≡ b
unfolding only naturals
one_is true = refl
one_is false = refl

-- The bits of a mask.
pub bit_mask : (n b : ℕ) (f : ℕ → Bool) → b < n → bit b (mask_of n f) ≡ f b
bit_mask zero b f l = absurd (not-suc-le-zero l)
bit_mask (suc n) zero f l = bit_zero (mask_of (suc n) f) ∙ ap (λ (x : ℕ). eqb x 1) (low_bit n f) ∙ one_is (f 0)
bit_mask (suc n) (suc b) f l = bit_suc b (mask_of (suc n) f) ∙ ap (bit b) (high_bits n f) ∙ bit_mask n b (λ k. f (suc k)) (le_of_suc-le-suc l)

pub one_bit : (x : ℕ) → x < 2 → one (eqb x 1) ≡ x
unfolding only naturals
one_bit zero l = refl
one_bit (suc zero) l = refl
one_bit (suc (suc x)) l = absurd (not-suc-le-zero (le_of_suc-le-suc (le_of_suc-le-suc l)))

-- Every word of n bits is the mask of its bits.
pub mask_bits : (n w : ℕ) → w < 2 ^ n → mask_of n (λ b. bit b w) ≡ w
unfolding mask_of
mask_bits zero w l = omega arith
mask_bits (suc n) w l =
    ap₂ (λ (x y : ℕ). x + 2 * y)
    (ap one (bit_zero w) ∙ one_bit (w % 2) (omega arith))
    (mask_cong n (λ b. bit (suc b) w) (λ b. bit b (w / 2)) (λ b q. bit_suc b w) ∙ mask_bits n (w / 2) (omega (arith, pow-succ' 2 n)))
    ∙ omega arith

one_max : (b : Bool) → max (one b) 1 ≡ one (b || true)
unfolding only naturals
one_max true = refl
one_max false = refl

pow_half : (b : ℕ) → 2 ^ suc b / 2 ≡ 2 ^ b
pow_half b = omega (arith, pow-succ' 2 b)

pow_even : (b : ℕ) → 2 ^ suc b % 2 ≡ 0
pow_even b = omega (arith, pow-succ' 2 b)

max_zero' : (x : ℕ) → max x 0 ≡ x
max_zero' x = omega arith

-- A bit is set: w | 1 << b.
pub mask_or : (n b : ℕ) (f : ℕ → Bool) → b < n → bit_or (mask_of n f) (2 ^ b) ≡ mask_of n (λ k. f k || eqb b k)
unfolding mask_of
mask_or zero b f l = absurd (not-suc-le-zero l)
mask_or (suc n) zero f l =
    or_step (mask_of (suc n) f) 1
    ∙ ap₂ (λ (x y : ℕ). x * 2 + y)
    (ap (λ (x : ℕ). bit_or x 0) (high_bits n f) ∙ or_zero_r (mask_of n (λ k. f (suc k))) ∙ mask_cong n _ (λ k. f (suc k) || eqb 0 (suc k)) (λ k q. sym (or_false (f (suc k))) ∙ ap (λ (x : Bool). f (suc k) || x) (sym (eqb-zero-suc k))))
    (ap (λ (x : ℕ). max x 1) (low_bit n f) ∙ one_max (f 0))
    ∙ omega arith
mask_or (suc n) (suc b) f l =
    or_step (mask_of (suc n) f) (2 ^ suc b)
    ∙ ap₂ (λ (x y : ℕ). x * 2 + y)
    (ap₂ bit_or (high_bits n f) (pow_half b) ∙ mask_or n b (λ k. f (suc k)) (le_of_suc-le-suc l) ∙ mask_cong n _ (λ k. f (suc k) || eqb (suc b) (suc k)) (λ k q. ap (λ (x : Bool). f (suc k) || x) (sym (eqb-suc-suc b k))))
    (ap₂ max (low_bit n f) (pow_even b) ∙ max_zero' (one (f 0)) ∙ ap one (sym (or_false (f 0)) ∙ ap (λ (x : Bool). f 0 || x) (sym (eqb-suc-zero b))))
    ∙ omega arith

-- The ones of a mask are counted.
pub ones_mask : (n : ℕ) (f : ℕ → Bool) → ones (mask_of n f) ≡ count n f
unfolding mask_of ones lib.Count.ones_in count sum only naturals
ones_mask zero f = refl
ones_mask (suc n) f = ones_step (mask_of (suc n) f) ∙ ap₂ ◌+◌ (low_bit n f) (ap ones (high_bits n f) ∙ ones_mask n (λ k. f (suc k))) ∙ sym (count_first n f)

-- 1 << b in 16 bits, as the code has it.
pub shl_one : (b : ℕ) → b < 16 → (1 * 2 ^ b) % 2 ^ 16 ≡ 2 ^ b
shl_one b l = ap (λ (x : ℕ). x % 2 ^ 16) (one-mul (2 ^ b)) ∙ mod-eq_of_lt (pow-lt l)

one_min : (b : Bool) → min (one b) 1 ≡ one b
one_min b = omega (arith, only_le b 1)

min_none : (x : ℕ) → min x 0 ≡ 0
min_none x = omega arith

one_false : one false ≡ 0
unfolding only naturals
one_false = refl

not_low_half : (n : ℕ) → ((2 ^ suc n - 1) - 2 ^ 0) / 2 ≡ 2 ^ n - 1
not_low_half n = omega (arith, pow-succ' 2 n, pow_pos n)

not_low_even : (n : ℕ) → ((2 ^ suc n - 1) - 2 ^ 0) % 2 ≡ 0
not_low_even n = omega (arith, pow-succ' 2 n, pow_pos n)

not_half : (n b : ℕ) → b < n → ((2 ^ suc n - 1) - 2 ^ suc b) / 2 ≡ (2 ^ n - 1) - 2 ^ b
not_half n b l = omega (arith, pow-succ' 2 n, pow-succ' 2 b, pow-lt l)

not_odd : (n b : ℕ) → b < n → ((2 ^ suc n - 1) - 2 ^ suc b) % 2 ≡ 1
not_odd n b l = omega (arith, pow-succ' 2 n, pow-succ' 2 b, pow-lt l)

pub mask_clear : (n b : ℕ) (f : ℕ → Bool) → b < n → bit_and (mask_of n f) ((2 ^ n - 1) - 2 ^ b) ≡ mask_of n (λ k. f k && not (eqb b k))
unfolding mask_of
mask_clear zero b f l = absurd (not-suc-le-zero l)
mask_clear (suc n) zero f l =
    and_step (mask_of (suc n) f) ((2 ^ suc n - 1) - 2 ^ 0)
    ∙ ap₂ (λ (x y : ℕ). x * 2 + y)
    (ap₂ bit_and (high_bits n f) (not_low_half n) ∙ and_mask (mask_of n (λ k. f (suc k))) n ∙ mod-eq_of_lt (mask_lt n (λ k. f (suc k)))
    ∙ mask_cong n _ (λ k. f (suc k) && not (eqb 0 (suc k))) (λ k q. sym (and_one (f (suc k))) ∙ ap (λ (x : Bool). f (suc k) && not x) (sym (eqb-zero-suc k))))
    (ap₂ min (low_bit n f) (not_low_even n) ∙ min_none (one (f 0)) ∙ sym one_false ∙ ap one (sym (and_false (f 0))))
    ∙ omega arith
mask_clear (suc n) (suc b) f l =
    and_step (mask_of (suc n) f) ((2 ^ suc n - 1) - 2 ^ suc b)
    ∙ ap₂ (λ (x y : ℕ). x * 2 + y)
    (ap₂ bit_and (high_bits n f) (not_half n b (le_of_suc-le-suc l)) ∙ mask_clear n b (λ k. f (suc k)) (le_of_suc-le-suc l)
    ∙ mask_cong n _ (λ k. f (suc k) && not (eqb (suc b) (suc k))) (λ k q. ap (λ (x : Bool). f (suc k) && not x) (sym (eqb-suc-suc b k))))
    (ap₂ min (low_bit n f) (not_odd n b (le_of_suc-le-suc l)) ∙ one_min (f 0) ∙ ap one (sym (and_one (f 0)) ∙ ap (λ (x : Bool). f 0 && not x) (sym (eqb-suc-zero b))))
    ∙ omega arith

-- The bits of a word without one of them.
pub mask_without : (a : ℕ) (f : ℕ → Bool) → a < 16 → without a (mask_of 16 f) ≡ mask_of 16 (λ b. f b && not (eqb a b))
unfolding without
mask_without a f l = mask_clear 16 a f l

-- Numbers from n on are left out.
pub mask_below : (n m : ℕ) (f : ℕ → Bool) → n ≤ m → mask_of m (λ b. ltb b n && f b) ≡ mask_of n f
unfolding mask_of
mask_below zero m f l = mask_cong m _ (λ b. false) (λ b q. rw (le-ltb b 0 zero-le)) ∙ mask_none m
mask_below (suc n) zero f l = absurd (not-suc-le-zero l)
mask_below (suc n) (suc m) f l =
    ap₂ (λ (x y : ℕ). x + 2 * y)
    (ap (λ (t : Bool). one (t && f 0)) (lt-ltb 0 (suc n) (suc-le-suc zero-le)))
    (mask_cong m _ (λ b. ltb b n && f (suc b)) (λ b q. ap (λ (t : Bool). t && f (suc b)) (leb-suc-suc (suc b) n)) ∙ mask_below n m (λ b. f (suc b)) (le_of_suc-le-suc l))

-- The bits below n of a word without one of them.
pub below-without : (n a : ℕ) (f : ℕ → Bool) → n ≤ 16 → a < 16 → without a (mask_of n f) ≡ mask_of n (λ b. f b && not (eqb a b))
below-without n a f l h =
    ap (without a) (sym (mask_below n 16 f l))
    ∙ mask_without a (λ b. ltb b n && f b) h
    ∙ mask_cong 16 _ (λ b. ltb b n && (f b && not (eqb a b))) (λ b q. and_assoc (ltb b n) (f b) (not (eqb a b)))
    ∙ mask_below n 16 (λ b. f b && not (eqb a b)) l

-- The ones of a 16-bit mask without its bit a.
pub ones_without : (a : ℕ) (f : ℕ → Bool) → a < 16 → ones (without a (mask_of 16 f)) ≡ count 16 (λ b. f b && not (eqb a b))
ones_without a f l = ap ones (mask_without a f l) ∙ ones_mask 16 (λ b. f b && not (eqb a b))

-- The bits that a mask lacks: !w in n bits.
one_not : (b : Bool) → one (not b) + one b ≡ 1
unfolding only naturals
one_not true = refl
one_not false = refl

pub mask_not : (n : ℕ) (f : ℕ → Bool) → (2 ^ n - 1) - mask_of n f ≡ mask_of n (λ b. not (f b))
unfolding mask_of
mask_not zero f = omega arith
mask_not (suc n) f = omega (arith, pow-succ' 2 n, pow_pos n, mask_lt n (λ b. f (suc b)), mask_not n (λ b. f (suc b)), one_not (f 0))

-- The bits that two masks have in common.
one_and : (b c : Bool) → min (one b) (one c) ≡ one (b && c)
unfolding only naturals
one_and true true = refl
one_and true false = refl
one_and false c = omega arith

pub mask_and : (n : ℕ) (f g : ℕ → Bool) → bit_and (mask_of n f) (mask_of n g) ≡ mask_of n (λ b. f b && g b)
unfolding mask_of
mask_and zero f g = refl
mask_and (suc n) f g =
    and_step (mask_of (suc n) f) (mask_of (suc n) g)
    ∙ ap₂ (λ (x y : ℕ). x * 2 + y)
    (ap₂ bit_and (high_bits n f) (high_bits n g) ∙ mask_and n (λ b. f (suc b)) (λ b. g (suc b)))
    (ap₂ min (low_bit n f) (low_bit n g) ∙ one_and (f 0) (g 0))
    ∙ omega arith

-- The bits of two masks together.
one_or : (b c : Bool) → max (one b) (one c) ≡ one (b || c)
unfolding only naturals
one_or true true = refl
one_or true false = refl
one_or false c = omega arith

pub mask_join : (n : ℕ) (f g : ℕ → Bool) → bit_or (mask_of n f) (mask_of n g) ≡ mask_of n (λ b. f b || g b)
unfolding mask_of
mask_join zero f g = refl
mask_join (suc n) f g =
    or_step (mask_of (suc n) f) (mask_of (suc n) g)
    ∙ ap₂ (λ (x y : ℕ). x * 2 + y)
    (ap₂ bit_or (high_bits n f) (high_bits n g) ∙ mask_join n (λ b. f (suc b)) (λ b. g (suc b)))
    (ap₂ max (low_bit n f) (low_bit n g) ∙ one_or (f 0) (g 0))
    ∙ omega arith

-- A mask is 0 where no bit of it is set.
bit_none : (b : ℕ) → bit b 0 ≡ false
unfolding bit
bit_none b = ap (λ (x : ℕ). eqb (x % 2) 1) (div-eq_of_lt (pow_pos b))

pub mask_empty : (n : ℕ) (f : ℕ → Bool) → eqb (mask_of n f) 0 ≡ all n (λ b. not (f b))
mask_empty n f =
    split (all n (λ b. not (f b)))
    (λ e. rw e (ap (λ (x : ℕ). eqb x 0) (mask_cong n f (λ b. false) (λ b l. not-true (f b) (all_at n (λ b. not (f b)) b l e)) ∙ mask_none n)))
    (λ e.
    let (b, l, h) = all_find n (λ b. not (f b)) e in
    rw e (split (eqb (mask_of n f) 0)
    (λ z. absurd (false≢true (sym (bit_none b) ∙ ap (bit b) (sym (eqb-true (mask_of n f) 0 z)) ∙ bit_mask n b f l ∙ not-false (f b) h)))
    (λ z. z)))

not_and : (a b : Bool) → not (a && not b) ≡ (not a || b)
not_and true true = refl
not_and true false = refl
not_and false b = refl

-- Every bit of w is set in g: w & !g is 0.
pub mask_covers : (n w g : ℕ) → w < 2 ^ n → g < 2 ^ n → eqb (bit_and w ((2 ^ n - 1) - g)) 0 ≡ all n (λ b. not (bit b w) || bit b g)
mask_covers n w g lw lg =
    ap₂ (λ (x y : ℕ). eqb (bit_and x ((2 ^ n - 1) - y)) 0) (sym (mask_bits n w lw)) (sym (mask_bits n g lg))
    ∙ ap (λ (y : ℕ). eqb (bit_and (mask_of n (λ b. bit b w)) y) 0) (mask_not n (λ b. bit b g))
    ∙ ap (λ (x : ℕ). eqb x 0) (mask_and n (λ b. bit b w) (λ b. not (bit b g)))
    ∙ mask_empty n (λ b. bit b w && not (bit b g))
    ∙ all_cong n _ _ (λ b l. not_and (bit b w) (bit b g))
