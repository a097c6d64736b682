-- The tests of a kind by its number. Assumes nothing.
use mathlib.Core.Path.{◌≡◌, refl}
use mathlib.Core.List.{List}
use mathlib.Core.Bool.{true}
use Prim.Native.Nat.{ℕ, zero, suc, ◌≤◌}
use native.Mathlib.Omega.{arith}
use lib.Dec.{eqb}
use Rattle.model.specs.Steps.{kind_of, Steps}
use Rattle.step_rules.specs.Rules.{fits_by, ready_by}

module _ (receivers : List ℕ) (waits : List (List ℕ)) (a b : ℕ) where
  -- The kinds with one box fit where their boxes are equal.
  pub fits_one : (n : ℕ) → 1 ≤ n → n ≤ 6 → (n ≡ 1 → ⊥) → (n ≡ 3 → ⊥) → (n ≡ 4 → ⊥) → (n ≡ 6 → ⊥) → eqb a b ≡ fits_by receivers waits (kind_of n) a b
  unfolding fits_by kind_of
  fits_one zero h l x y z w = absurd (omega arith)
  fits_one (suc zero) h l x y z w = absurd (x refl)
  fits_one (suc (suc zero)) h l x y z w = refl
  fits_one (suc (suc (suc zero))) h l x y z w = absurd (y refl)
  fits_one (suc (suc (suc (suc zero)))) h l x y z w = absurd (z refl)
  fits_one (suc (suc (suc (suc (suc zero))))) h l x y z w = refl
  fits_one (suc (suc (suc (suc (suc (suc zero)))))) h l x y z w = absurd (w refl)
  fits_one (suc (suc (suc (suc (suc (suc (suc n))))))) h l x y z w = absurd (omega arith)

module _ (waits : List (List ℕ)) (d : Steps) (a b : ℕ) where
  -- Kinds 1 and 2 are ready from the start.
  pub ready_first : (n : ℕ) → 1 ≤ n → n ≤ 6 → (n ≡ 3 → ⊥) → (n ≡ 4 → ⊥) → (n ≡ 5 → ⊥) → (n ≡ 6 → ⊥) → true ≡ ready_by waits d (kind_of n) a b
  unfolding ready_by kind_of
  ready_first zero h l x y z w = absurd (omega arith)
  ready_first (suc zero) h l x y z w = refl
  ready_first (suc (suc zero)) h l x y z w = refl
  ready_first (suc (suc (suc zero))) h l x y z w = absurd (x refl)
  ready_first (suc (suc (suc (suc zero)))) h l x y z w = absurd (y refl)
  ready_first (suc (suc (suc (suc (suc zero))))) h l x y z w = absurd (z refl)
  ready_first (suc (suc (suc (suc (suc (suc zero)))))) h l x y z w = absurd (w refl)
  ready_first (suc (suc (suc (suc (suc (suc (suc n))))))) h l x y z w = absurd (omega arith)
