-- Words of a message moved from one table to another.
use Rattle.std.specs.Prelude.{◌≡◌, Bool, true, false, ◌&&◌, List, ℕ, ◌+◌, ◌<◌, eqb, get_or, Float}
use Rattle.laws.specs.Masks.{bit}
use Rattle.forecast_rules.specs.Doubles.{zero+}

-- Of the n words from `row` on those that pass w are moved from one table to the other and become +0.0 in the first; all other words stay.
pub record Moved (row n : ℕ) (w : ℕ → Bool) (from to from' to' : List Float) : Type 0 where
  pub come : (i : ℕ) → i < n → w i ≡ true → get_or to' (row + i) zero+ ≡ get_or from (row + i) zero+
  pub gone : (i : ℕ) → i < n → w i ≡ true → get_or from' (row + i) zero+ ≡ zero+
  pub stay_to : (i : ℕ) → i < n → w i ≡ false → get_or to' (row + i) zero+ ≡ get_or to (row + i) zero+
  pub stay_from : (i : ℕ) → i < n → w i ≡ false → get_or from' (row + i) zero+ ≡ get_or from (row + i) zero+
  pub out_to : (p : ℕ) → ((i : ℕ) → i < n → p ≡ row + i → ⊥) → get_or to' p zero+ ≡ get_or to p zero+
  pub out_from : (p : ℕ) → ((i : ℕ) → i < n → p ≡ row + i → ⊥) → get_or from' p zero+ ≡ get_or from p zero+

-- Of the n words from `at` on those that pass w are copied to the words from `row` on of another table; all other words of that stay.
pub record Copied (at row n : ℕ) (w : ℕ → Bool) (from to to' : List Float) : Type 0 where
  pub come : (i : ℕ) → i < n → w i ≡ true → get_or to' (row + i) zero+ ≡ get_or from (at + i) zero+
  pub stay : (i : ℕ) → i < n → w i ≡ false → get_or to' (row + i) zero+ ≡ get_or to (row + i) zero+
  pub out : (p : ℕ) → ((i : ℕ) → i < n → p ≡ row + i → ⊥) → get_or to' p zero+ ≡ get_or to p zero+

-- Of the n words from `row` on those that pass w become +0.0; all other words stay.
pub record Zeroed (row n : ℕ) (w : ℕ → Bool) (l l' : List Float) : Type 0 where
  pub gone : (i : ℕ) → i < n → w i ≡ true → get_or l' (row + i) zero+ ≡ zero+
  pub stay : (i : ℕ) → i < n → w i ≡ false → get_or l' (row + i) zero+ ≡ get_or l (row + i) zero+
  pub out : (p : ℕ) → ((i : ℕ) → i < n → p ≡ row + i → ⊥) → get_or l' p zero+ ≡ get_or l p zero+

-- Word i has the owner a, and box c is in its mask.
unfoldable pub summed_in : List ℕ → List ℕ → ℕ → ℕ → ℕ → Bool
summed_in owner mask a c i = eqb (get_or owner i 0) a && bit c (get_or mask i 0)
