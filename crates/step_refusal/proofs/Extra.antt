-- A general law of conditions in a fixed order. Assumes nothing.
use mathlib.Core.Path.{◌≡◌, refl}
use mathlib.Core.Bool.{Bool}
use mathlib.Core.List.{List, [], ◌∷◌, ◌++◌}
use Prim.Native.Nat.{ℕ, ◌<◌}
use native.Mathlib.Omega.{arith}
use Rattle.laws.specs.Checks.{first_met}
use Rattle.laws.proofs.Bools.{split}

-- The first condition met is in the first list where one is met there.
pub met_first : (rs ss : List (Bool × ℕ)) → (first_met rs ≡ 0 → ⊥) → first_met (rs ++ ss) ≡ first_met rs
unfolding first_met
met_first [] ss h = absurd (h refl)
met_first (r ∷ rs) ss h =
    split r.0
    (λ e. rw e)
    (λ e. rw e (met_first rs ss (λ z. h (rw e z))))

-- Every number of a list is more than 0.
abbrev Numbered : List (Bool × ℕ) → Type 0
Numbered [] = Unit {0}
Numbered (r ∷ rs) = (0 < r.1) × Numbered rs

-- Where none of the first list is met, the second decides.
pub none_first : (rs ss : List (Bool × ℕ)) → Numbered rs → first_met rs ≡ 0 → first_met (rs ++ ss) ≡ first_met ss
unfolding first_met
none_first [] ss n h = refl
none_first (r ∷ rs) ss n h =
    split r.0
    (λ e. absurd (omega (arith, n.0, rw e at h)))
    (λ e. rw e (none_first rs ss n.1 (rw e at h)))
