-- Words of slices of doubles, and sums in the fixed order with one term more. Assumes nothing.
use mathlib.Core.Path.{◌≡◌, refl, ◌∙◌}
use mathlib.Core.Bool.{Bool, true, cond, not, false≢true}
use mathlib.Core.List.{List, [], ◌∷◌}
use Prim.Native.Nat.{ℕ, zero, suc, ◌+◌, ◌*◌, ◌≤◌, ◌<◌}
use native.Mathlib.Omega.{arith}
use native.Mathlib.Numerals.{add-one}
use lib.Dec.{T, eqb}
use lib.ListN.{get_or, length}
use lib.Ieee.{Float, nan, inf, fin, is_nan, binary64, add, le, lt, eq, of_bits, neg}
use Rattle.laws.proofs.Tables.{row_in}
use Rattle.laws.specs.Masks.{bit}
use Rattle.forecast_rules.specs.Doubles.{zero+, add_up, is_value}
use Rattle.forecast_doubles.specs.Parts.{owner_sum}

-- A word that is there does not depend on what stands for those that are not.
pub other : (l : List Float) (i : ℕ) (x y : Float) → i < length l → get_or l i x ≡ get_or l i y
other [] i x y h = absurd (omega arith)
other (w ∷ l) zero x y h = refl
other (w ∷ l) (suc i) x y h = other l i x y (omega arith)

-- A value in range is no NaN.
pub no_nan : (x : Float) → is_value x ≡ true → T (not (is_nan x))
unfolding is_value is_nan le lt eq of_bits neg
no_nan nan h = absurd (false≢true h)
no_nan (inf s) h = tt
no_nan (fin s m e) h = tt

-- No term yet.
pub none_yet : (p : ℕ → Bool) (f : ℕ → Float) → zero+ ≡ add_up 0 p f
unfolding add_up
none_yet p f = refl

-- One term more, where it passes.
pub one_more : (n : ℕ) (p : ℕ → Bool) (f : ℕ → Float) → cond (p n) (add binary64 (add_up n p f) (f n)) (add_up n p f) ≡ add_up (n + 1) p f
unfolding add_up
one_more n p f = rw (add-one n)

-- A grocer's place in the row of a box.
pub place_in : (c k m g n : ℕ) → c < k → g < m → k * m ≤ n → c * m + g < n
place_in c k m g n h l u = omega (arith, row_in c k m h)

-- One box more.
pub part_more : (c m g a mask : ℕ) (part held : List Float) (at : ℕ) (sum more : Float) → at ≡ c * m + g → sum ≡ owner_sum c m g a mask part held →
    more ≡ cond (bit c mask) (add binary64 sum (cond (eqb c a) (get_or part at zero+) (get_or held at zero+))) sum → more ≡ owner_sum (c + 1) m g a mask part held
unfolding owner_sum
part_more c m g a mask part held at sum more e s h =
    h ∙ rw (e, s) (one_more c (λ c. bit c mask) (λ c. cond (eqb c a) (get_or part (c * m + g) zero+) (get_or held (c * m + g) zero+)))
