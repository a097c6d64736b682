-- The grocers' lines, one after the other. Assumes nothing.
use mathlib.Core.Path.{◌≡◌, refl, ap}
use mathlib.Core.List.{List, [], ◌∷◌, ◌++◌}
use Prim.Native.Nat.{ℕ, zero, suc, ◌+◌, ◌≤◌, ◌<◌, ◌^◌}
use native.Mathlib.Omega.{arith}
use native.Mathlib.Numerals.{add-one}
use lib.IntN.{ℤ, nat_abs}
use lib.ListN.{length}
use Rattle.printing.specs.Cents.{Half, cents}
use Rattle.printing.specs.Printed.{decimal, signed_decimal, line, amounts_text, grocer_lines}
use Rattle.settle_text.specs.Puts.{put, Put, spaced_amounts}
use Rattle.settle_text.proofs.Puts.{behind, reworded}
use Rattle.settle_text.proofs.Decimals.{signed_few}

-- No text is put yet.
pub put_none : (at : ℕ) (d : List ℕ) → at ≤ length d → Put at [] d d at
unfolding put
put_none at d h = record { next = omega arith; room = h; bytes = refl }

-- One amount more, a space before it: at most a sign and 19 digits.
pub amount_more : (h : Half) (n : ℕ) (amount : ℕ → ℤ) {at e r : ℕ} {d f g : List ℕ} →
    Put at (spaced_amounts h n amount) d f e → Put e (32 ∷ signed_decimal (cents h (amount n))) f g r → Put at (spaced_amounts h (n + 1) amount) d g r
unfolding spaced_amounts
amount_more h n amount a b = rw (add-one n) (behind a b)

pub amount_short : (z : ℤ) → nat_abs z < 10 ^ 19 → length (32 ∷ signed_decimal z) ≤ 21
amount_short z k = omega (arith, signed_few 18 z k)

-- All of a grocer's amounts, a space before each, are a space and their text.
spaced_is : (h : Half) (lists : ℕ) (amount : ℕ → ℤ) → spaced_amounts h (suc lists) amount ≡ 32 ∷ amounts_text h lists amount
unfolding spaced_amounts amounts_text
spaced_is h zero amount = refl
spaced_is h (suc l) amount = ap (λ (x : List ℕ). x ++ (32 ∷ signed_decimal (cents h (amount (suc l))))) (spaced_is h l amount)

-- One grocer's line more.
pub grocer_more : (h : Half) (lists g : ℕ) (amount : ℕ → ℕ → ℤ) {at r : ℕ} {d e f : List ℕ} → Put 0 (grocer_lines h lists g amount) d e at →
    Put at (decimal g ++ spaced_amounts h (suc lists) (amount g) ++ (10 ∷ [])) e f r → Put 0 (grocer_lines h lists (g + 1) amount) d f r
unfolding grocer_lines line
grocer_more h lists g amount a b =
    rw (add-one g) (behind a (reworded (ap (λ (x : List ℕ). decimal g ++ x ++ (10 ∷ [])) (spaced_is h lists (amount g))) b))

-- No line yet.
pub grocer_none : (h : Half) (lists : ℕ) (amount : ℕ → ℕ → ℤ) (d : List ℕ) → Put 0 (grocer_lines h lists 0 amount) d d 0
unfolding grocer_lines
grocer_none h lists amount d = put_none 0 d (omega arith)
