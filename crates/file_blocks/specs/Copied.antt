-- Words that are copied.
use Rattle.std.specs.Prelude.{◌≡◌, List, ℕ, ◌+◌, ◌<◌, ◌≤◌, get_or}

-- The n words of g stand in a list from `to` on, and the others are as they were.
pub record Copied (g : ℕ → ℕ) (to n : ℕ) (old new : List ℕ) : Type 0 where
  pub inside : (k : ℕ) → k < n → get_or new (to + k) 0 ≡ g k
  pub before : (k : ℕ) → k < to → get_or new k 0 ≡ get_or old k 0
  pub past : (k : ℕ) → to + n ≤ k → get_or new k 0 ≡ get_or old k 0
