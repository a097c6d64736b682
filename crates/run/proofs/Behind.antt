-- Refusals that stand behind those of the job's tables. Assumes nothing.
use mathlib.Core.Path.{◌≡◌, refl, sym}
use mathlib.Core.Bool.{Bool, true, false}
use mathlib.Core.List.{List, [], ◌∷◌}
use Prim.Native.Nat.{ℕ}
use native.Mathlib.Omega.{arith}
use Rattle.laws.specs.Checks.{first_met}

-- One of the job's tables is met before them.
pub met_before : (a b c : Bool) (rs : List (Bool × ℕ)) (n : ℕ) → n ≡ first_met ((a, 20) ∷ (b, 21) ∷ (c, 9) ∷ []) → (n ≡ 0 → ⊥) → first_met ((a, 20) ∷ (b, 21) ∷ (c, 9) ∷ rs) ≡ n
unfolding first_met
met_before true b c rs n e h = sym e
met_before false true c rs n e h = sym e
met_before false false true rs n e h = sym e
met_before false false false rs n e h = absurd (h e)

-- They are met where none of the job's tables is.
pub met_behind : (a b c : Bool) (rs : List (Bool × ℕ)) → first_met ((a, 20) ∷ (b, 21) ∷ (c, 9) ∷ []) ≡ 0 → first_met ((a, 20) ∷ (b, 21) ∷ (c, 9) ∷ rs) ≡ first_met rs
unfolding first_met
met_behind true b c rs e = absurd (omega (arith, e))
met_behind false true c rs e = absurd (omega (arith, e))
met_behind false false true rs e = absurd (omega (arith, e))
met_behind false false false rs e = refl
