-- Counts of bags as code holds them: keys, and boxes of which those of superseded tallies have become 16.
use Rattle.std.specs.Prelude.{◌≡◌, cond, List, ℕ, ◌<◌, ◌≤◌, get_or, length}
use Rattle.recount.specs.Recount.{Counted, stands}
use Rattle.recount.specs.Keys.{KeysIn, count_key}

-- The first n keys are those of the counts.
pub record KeysOf (c : Counted) (keys : List ℕ) (n : ℕ) : Type 0 where
  pub size : c.size ≡ n
  pub inside : KeysIn c
  pub key : (t : ℕ) → t < n → get_or keys t 0 ≡ count_key c t

-- Boxes as they were before where the tally stands, else 16.
pub record Struck (c : Counted) (n : ℕ) (before after : List ℕ) : Type 0 where
  pub long : n ≤ length after
  pub each : (t : ℕ) → t < n → get_or after t 0 ≡ cond (stands c t) (get_or before t 0) 16
