-- Refusals in a fixed order: a refusal is its number, and 0 is no refusal.
use Rattle.std.specs.Prelude.{ℕ, zero, suc, List, [], ◌∷◌}

-- Of several refusals the first that is one; 0 where none is.
unfoldable pub first_of : List ℕ → ℕ
first_of [] = 0
first_of (zero ∷ ns) = first_of ns
first_of (suc n ∷ ns) = suc n

-- Of the refusals h 0, h 1, .., h (n − 1) the first that is one.
unfoldable pub first_below : ℕ → (ℕ → ℕ) → ℕ
first_below zero h = 0
first_below (suc n) h = first_of (first_below n h ∷ h n ∷ [])
