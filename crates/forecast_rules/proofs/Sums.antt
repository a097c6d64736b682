-- Laws of sums in a fixed order: none of them needs a law of rounding. Assumes nothing.
use mathlib.Core.Path.{◌≡◌, refl}
use mathlib.Core.Bool.{Bool, true, false}
use Prim.Native.Nat.{ℕ, zero, suc, ◌<◌}
use native.Mathlib.Omega.{arith}
use lib.Ieee.{Float}
use Rattle.laws.proofs.Bools.{split}
use Rattle.forecast_rules.specs.Doubles.{zero+, add_up}

-- Only what passes counts.
pub add_up_same : (n : ℕ) (p : ℕ → Bool) (f g : ℕ → Float) → ((i : ℕ) → i < n → p i ≡ true → f i ≡ g i) → add_up n p f ≡ add_up n p g
unfolding add_up
add_up_same zero p f g h = refl
add_up_same (suc n) p f g h =
    let k : add_up n p f ≡ add_up n p g = add_up_same n p f g (λ i l. h i (omega arith)) in
    split (p n)
    (λ e. rw (e, k, h n (omega arith) e))
    (λ e. rw (e, k))

-- Nothing passes.
pub add_up_none : (n : ℕ) (p : ℕ → Bool) (f : ℕ → Float) → ((i : ℕ) → i < n → p i ≡ false) → add_up n p f ≡ zero+
unfolding add_up
add_up_none zero p f h = refl
add_up_none (suc n) p f h = rw (h n (omega arith)) (add_up_none n p f (λ i l. h i (omega arith)))
