-- Sums and products of doubles stay within their sizes. Assumes nothing.
use mathlib.Core.Path.{◌≡◌, sym, ap, ◌∙◌}
use mathlib.Core.Bool.{Bool, true, false, cond, ◌&&◌, beq}
use Prim.Native.Nat.{ℕ, zero, suc, ◌+◌, ◌-◌, ◌*◌, ◌^◌, ◌≤◌, ◌<◌}
use native.Mathlib.Nat.{le_trans, le_of_eq, le_refl, mul_assoc, mul_comm, mul_left_comm, mul-le-mul_right, mul-le-mul_left, mul-pos, add-mul}
use native.Mathlib.Omega.{arith}
use lib.Dec.{ltb}
use lib.Ieee.{Float, nan, inf, fin, Format, binary64, prec, up, down, round, sum, add, mul, unlike}
use lib.Ieee.Fits.{down_pos}
use Rattle.laws.specs.Below.{naturals, only}
use Rattle.laws.proofs.Bools.{split}
use Rattle.forecast_rules.specs.Doubles.{add_up}
use Rattle.forecast_rules.proofs.Bounds.{Within, round_within}
use Rattle.laws.specs.Below as Below

-- one of the two summands, or their difference, is at most both together
left_in : (a b m n c : ℕ) → a ≤ m * c → b ≤ n * c → a + b ≤ (m + n) * c
left_in a b m n c h k = le_trans (both a b (m * c) (n * c) h k) (le_of_eq (sym (add-mul m n c)))
  where
    both : (a b x y : ℕ) → a ≤ x → b ≤ y → a + b ≤ x + y
    both a b x y h k = omega arith

less : (a b x : ℕ) → a + b ≤ x → a - b ≤ x
less a b x h = omega arith

less' : (a b x : ℕ) → a + b ≤ x → b - a ≤ x
less' a b x h = omega arith

sum_within : (f : Format) (s : Bool) (a : ℕ) (t : Bool) (b c k : ℕ) → 0 < c → a + b ≤ k * c → k ≤ 2 ^ prec f → Within (sum f s a t b c) k
unfolding sum
sum_within f s a t b c k C h l = go (beq s t) (ltb a b)
  where
    go : (x y : Bool) → Within (cond x (round f s (a + b) c) (cond y (round f t (b - a) c) (round f (s && ltb b a) (a - b) c))) k
    go true y = round_within f s (a + b) c k C h l
    go false true = round_within f t (b - a) c k C (less' a b (k * c) h) l
    go false false = round_within f (s && ltb b a) (a - b) c k C (less a b (k * c) h) l

pub add_within : (f : Format) (x y : Float) (m n : ℕ) → Within x m → Within y n → m + n ≤ 2 ^ prec f → Within (add f x y) (m + n)
unfolding add
add_within f nan y m n h k l = absurd h
add_within f (inf s) y m n h k l = absurd h
add_within f (fin s a e) nan m n h k l = absurd k
add_within f (fin s a e) (inf t) m n h k l = absurd k
add_within f (fin s a e) (fin t b d) m n h k l =
    sum_within f s (a * up e * down d) t (b * up d * down e) (down e * down d) (m + n) (mul-pos (down_pos e) (down_pos d))
    (left_in (a * up e * down d) (b * up d * down e) m n (down e * down d)
    (le_trans (mul-le-mul_right (down d) h) (le_of_eq (mul_assoc m (down e) (down d))))
    (le_trans (mul-le-mul_right (down e) k) (le_of_eq (mul_assoc n (down d) (down e) ∙ ap (λ (z : ℕ). n * z) (mul_comm (down d) (down e))))))
    l

times : (x y m n p q : ℕ) → x ≤ m * p → y ≤ n * q → x * y ≤ m * n * (p * q)
times x y m n p q h k =
    le_trans (mul-le-mul_right y h) (le_trans (mul-le-mul_left (m * p) k) (le_of_eq (simp (mul_assoc, mul_comm, mul_left_comm))))

pub mul_within : (f : Format) (x y : Float) (m n : ℕ) → Within x m → Within y n → m * n ≤ 2 ^ prec f → Within (mul f x y) (m * n)
unfolding mul
mul_within f nan y m n h k l = absurd h
mul_within f (inf s) y m n h k l = absurd h
mul_within f (fin s a e) nan m n h k l = absurd k
mul_within f (fin s a e) (inf t) m n h k l = absurd k
mul_within f (fin s a e) (fin t b d) m n h k l =
    round_within f (unlike s t) (a * up e * (b * up d)) (down e * down d) (m * n) (mul-pos (down_pos e) (down_pos d)) (times (a * up e) (b * up d) m n (down e) (down d) h k) l

pub within_more : (x : Float) (m n : ℕ) → Within x m → m ≤ n → Within x n
within_more nan m n h l = h
within_more (inf s) m n h l = h
within_more (fin s a e) m n h l = le_trans h (mul-le-mul_right (down e) l)

-- A sum in the fixed order, by the sizes of what is added.
pub up_within : (n : ℕ) (p : ℕ → Bool) (f : ℕ → Float) (w : ℕ → ℕ) → ((i : ℕ) → i < n → p i ≡ true → Within (f i) (w i)) →
    Below.sum naturals n (λ i. only naturals (p i) (w i)) ≤ 2 ^ 53 → Within (add_up n p f) (Below.sum naturals n (λ i. only naturals (p i) (w i)))
unfolding add_up Below.sum only naturals
up_within zero p f w h l = le_refl 0
up_within (suc n) p f w h l =
    split (p n)
    (λ e. rw e (add_within binary64 (add_up n p f) (f n) (Below.sum naturals n (λ i. only naturals (p i) (w i))) (w n) (up_within n p f w (λ i k. h i (omega arith)) (omega (arith, rw e at l))) (h n (omega arith) e) (rw e at l)))
    (λ e. rw e (within_more (add_up n p f) _ _ (up_within n p f w (λ i k. h i (omega arith)) (omega (arith, rw e at l))) (omega arith)))
