-- Numbers listed in a table.
use Rattle.std.specs.Prelude.{◌≡◌, Bool, true, List, ℕ, ◌+◌, ◌≤◌, ◌<◌, length, get_or}
use Rattle.laws.specs.Below.{count}

-- The words of a table from one place up to another are the numbers below n that pass, each once and ascending.
pub record Listed (n : ℕ) (passes : ℕ → Bool) (from to : ℕ) (table : List ℕ) : Type 0 where
  pub long : to ≤ length table
  pub many : to ≡ from + count n passes
  pub each : (x : ℕ) → x < n → passes x ≡ true → get_or table (from + count x passes) 0 ≡ x
