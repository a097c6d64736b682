-- Own prices known, and what the tables must be for them to be written.
use Rattle.std.specs.Prelude.{List, cond, ℕ, suc, ◌+◌, ◌*◌, ◌/◌, ◌%◌, ◌≤◌, ◌<◌, eqb, length, get_or, ℤ}
use Rattle.laws.specs.Limits.{max_lists}
use Rattle.laws.specs.Tables.{recell}

-- The table of known prices: an owner's own prices, else 0. An offer's words, one for each list, stand side by side; prices are lent list after list.
unfoldable pub own_prices : (k n lists : ℕ) (price owner known : List ℕ) → List ℕ
own_prices k n lists price owner known =
    recell k (n * suc lists) (λ b w. cond (eqb (get_or owner (w / suc lists) 0) b) (get_or price (w % suc lists * n + w / suc lists) 0) 0) known

-- What the price tables of a fresh state require: tables long enough, sizes in range and owners below k.
pub record FreshPrices (k n lists : ℕ) (price owner known transit : List ℕ) : Type 0 where
  pub boxes≤ : k ≤ 16
  pub offers≤ : n ≤ 500
  pub lists≤ : lists ≤ max_lists
  pub price_long : n * suc lists ≤ length price
  pub owner_long : n ≤ length owner
  pub owner< : (o : ℕ) → o < n → get_or owner o 0 < k
  pub known_long : k * (n * suc lists) ≤ length known
  pub transit_long : k * (n * suc lists) ≤ length transit

-- What its tables of totals require: packed tables of so many words, and so many statements.
pub record FreshTotals (words m : ℕ) (working transit statement : List ℤ) : Type 0 where
  pub working_long : words ≤ length working
  pub transit_long : words ≤ length transit
  pub statement_long : m ≤ length statement
