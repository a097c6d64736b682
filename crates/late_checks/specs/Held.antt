-- Columns of tallies, copied and edited.
use Rattle.std.specs.Prelude.{◌≡◌, List, ℕ, suc, ◌*◌, ◌<◌, ◌≤◌, get_or, length}
use Rattle.late_rules.specs.Edit.{place_before}
use Rattle.late_edits.specs.Columns.{edit_entries}

-- A list of t tallies can be edited so: the place left out and the last place are within 1,000, and entries that move are of the list.
pub record Shaped (t p n : ℕ) : Type 0 where
  pub few : t ≤ 1000
  pub last : n < 1000
  pub place : p ≤ n
  pub read : (i : ℕ) → i < n → place_before p i < t

-- A list r has room for the table l so edited, and holds its words up to the last entry.
pub record Holds {A : Type 0} (w p n : ℕ) (z : A) (x : ℕ → A) (l r : List A) : Type 0 where
  pub long : suc n * w ≤ length r
  pub words : (j : ℕ) → j < suc n * w → get_or r j z ≡ get_or (edit_entries w p n z x l) j z
