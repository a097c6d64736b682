-- 65,521 is no product of a number up to 508 and one up to 255: one test that is computed. Assumes nothing.
use Prim.Native.Nat.{ℕ, zero, suc, ◌+◌, ◌-◌, ◌*◌, ◌%◌, ◌/◌, ◌≤◌, ◌<◌}
use mathlib.Core.Path.{◌≡◌, refl, sym, ◌∙◌, ap}
use mathlib.Core.Bool.{Bool, true, not, ◌&&◌}
use native.Mathlib.Omega.{arith}
use native.Mathlib.Nat.{mul-add, mul-div_cancel, mul-zero, mul-pos, mul-le-mul}
use native.Mathlib.Decide.{dec_le}
use lib.Dec.{leb, eqb}
use borrow.Author.Tests.{le-leb, eq-eqb}
use Rattle.laws.specs.Below.{all}
use Rattle.laws.proofs.Bools.{clash}
use Rattle.laws.proofs.Below.{all_at}

-- The quotient of 65,521 by e is above 508, or it is not whole.
abbrev fails : ℕ → ℕ → Bool
fails w e = not (leb w 508 && eqb (w * e) 65521)

tested : all 256 (λ e. fails (65521 / e) e) ≡ true
unfolding all
tested = refl

no_product : (w e : ℕ) → w ≤ 508 → e ≤ 255 → w * e ≡ 65521 → ⊥
no_product w zero hw he h = omega (arith, mul-zero w)
no_product w (suc e) hw he h =
    let q : 65521 / suc e ≡ w = ap (λ (n : ℕ). n / suc e) (sym h) ∙ mul-div_cancel w (omega arith) in
    let t : fails w (suc e) ≡ true = rw q at (all_at 256 (λ k. fails (65521 / k) k) (suc e) (omega arith) tested) in
    clash t (rw (le-leb w 508 hw, eq-eqb (w * suc e) 65521 h))

-- Two sums with one remainder that differ by a weight times a byte's change: there is no change.
half : (w e a b : ℕ) → 0 < w → w ≤ 508 → e ≤ 255 → a ≡ b + w * e → a % 65521 ≡ b % 65521 → e ≡ 0
half w zero a b w₀ hw he h m = refl
half w (suc e) a b w₀ hw he h m =
    let n = no_product w (suc e) hw he in
    let p = mul-pos {m = w} {n = suc e} w₀ (omega arith) in
    let l : w * suc e ≤ 508 * 255 = mul-le-mul hw he in
    omega (arith, n)

-- The same of a byte that was x and is y.
pub no_change : (w x y a b : ℕ) → 0 < w → w ≤ 508 → x ≤ 255 → y ≤ 255 → a + w * x ≡ b + w * y → a % 65521 ≡ b % 65521 → x ≡ y
no_change w x y a b w₀ hw hx hy h m = elim (dec_le x y) [ yes l ↦ up l | no g ↦ down (omega (arith, g)) ]
  where
    up : x ≤ y → x ≡ y
    up l =
        let s : w * y ≡ w * x + w * (y - x) = ap (λ (n : ℕ). w * n) (omega arith) ∙ mul-add w x (y - x) in
        let z : y - x ≡ 0 = half w (y - x) a b w₀ hw (omega arith) (omega arith) m in
        omega arith

    down : y ≤ x → x ≡ y
    down l =
        let s : w * x ≡ w * y + w * (x - y) = ap (λ (n : ℕ). w * n) (omega arith) ∙ mul-add w y (x - y) in
        let z : x - y ≡ 0 = half w (x - y) b a w₀ hw (omega arith) (omega arith) (sym m) in
        omega arith
