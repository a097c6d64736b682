-- K, M, N and the number of lines alone, and how long the tables of owners and lines must be.
use Rattle.std.specs.Prelude.{List, [], ℕ, ◌≤◌, length}
use Rattle.forecast_rules.specs.Tables.{ForecastTables, forecast_tables}

-- A forecast of which only the sizes matter.
abbrev pub sizes : ℕ → ℕ → ℕ → ℕ → ForecastTables
sizes k m n l = forecast_tables k m n l [] [] [] [] [] [] []

-- Owners and lines are lent whole.
pub record LinesLong (m n l : ℕ) (offer_owner grocer_owner line_grocer line_offer line_box : List ℕ) : Type 0 where
  pub offer_owner_long : n ≤ length offer_owner
  pub grocer_owner_long : m ≤ length grocer_owner
  pub line_grocer_long : l ≤ length line_grocer
  pub line_offer_long : l ≤ length line_offer
  pub line_box_long : l ≤ length line_box
