-- Signed numbers of any width by a branch on the sign. Assumes nothing.
use mathlib.Core.Path.{◌≡◌, refl, sym, ◌∙◌, ap}
use mathlib.Core.Bool.{true, false}
use Prim.Native.Nat.{ℕ, suc, ◌^◌, ◌<◌}
use native.Mathlib.Omega.{arith}
use lib.IntN.{ℤ, pos, negsuc, ◌-ℤ◌}
use lib.Signed.{lt_z}
use mir.Syntax.{Width}
use mir.Val.{SFits, to_z, of_z, hbits}
use mir.Facts.{to_z-of_z}
use borrow.Author.Tests.{le-ltb, ltb-true}

-- A number below 0.
pub below_zero : {w : Width} (z : ℤ) → SFits w z → lt_z (to_z w (of_z w z)) (pos 0) ≡ true → (n : ℕ) × (z ≡ negsuc n) × (n < 2 ^ hbits w)
below_zero (pos n) s t = absurd (omega (arith, ltb-true n 0 (ap (λ (z : ℤ). lt_z z (pos 0)) (sym (to_z-of_z s)) ∙ t)))
below_zero (negsuc n) s t = (n, refl, s.sfits)

-- A number not below 0.
pub from_zero : {w : Width} (z : ℤ) → SFits w z → lt_z (to_z w (of_z w z)) (pos 0) ≡ false → (n : ℕ) × (z ≡ pos n) × (n < 2 ^ hbits w)
from_zero (pos n) s t = (n, refl, s.sfits)
from_zero (negsuc n) s t = let e : true ≡ false = ap (λ (z : ℤ). lt_z z (pos 0)) (sym (to_z-of_z s)) ∙ t in let q : ◌≡◌ {A = ℕ} 0 1 = cc in absurd (omega arith)

pub flip_neg : (n : ℕ) → negsuc 0 -ℤ negsuc n ≡ pos n
flip_neg n = rw (le-ltb (suc n) 1 (omega arith)) (ap pos (omega arith))

-- −1 − z, for a z below 0.
pub turned : (w : Width) (z : ℤ) (n : ℕ) → z ≡ negsuc n → n < 2 ^ hbits w → negsuc 0 -ℤ to_z w (of_z w z) ≡ pos n
turned w z n e h = rw e (ap (λ (k : ℤ). negsuc 0 -ℤ k) (to_z-of_z {w = w} {z = negsuc n} (record { sfits = h })) ∙ flip_neg n)

-- A natural number below the half fits with a sign.
pub sfits_pos : {w : Width} (n : ℕ) → n < 2 ^ hbits w → SFits w (pos n)
sfits_pos n h = record { sfits = h }
