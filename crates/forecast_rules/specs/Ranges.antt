-- What condition 21 looks at in a forecast, and what its evening asks of its tables.
use Rattle.std.specs.Prelude.{◌≡◌, List, [], ◌∷◌, Bool, true, false, ◌&&◌, ℕ, ◌*◌, get_or, leb, Float}
use Rattle.laws.specs.Limits.{max_boxes, max_grocers, max_offers, max_tallies, max_sent}
use Rattle.laws.specs.Below.{all}
use Rattle.laws.specs.Checks.{all_of}
use Rattle.model.specs.Ranges.{up_to, under}
use Rattle.forecast_rules.specs.Doubles.{zero+, is_value, is_sum}
use Rattle.forecast_rules.specs.Lines.{bad_line}
use Rattle.forecast_rules.specs.Tables.{ForecastTables, forecast_of, forecast_lengths, forecast_short, StateTables}

-- A forecast has 0 to 1,000 lines, as a job tallies.
abbrev pub max_lines : ℕ
max_lines = max_tallies

-- The first n words of a table pass p.
unfoldable pub each : (Float → Bool) → ℕ → List Float → Bool
each p n l = all n (λ i. p (get_or l i zero+))

-- Condition 21 is not met by the forecast's tables. Rates and values fall under 34 alone.
unfoldable pub forecast_in_range : ForecastTables → Bool
forecast_in_range f =
    all_of (
    (leb 1 f.boxes && leb f.boxes max_boxes)
    ∷ (leb 1 f.grocers && leb f.grocers max_grocers)
    ∷ (leb 1 f.offers && leb f.offers max_offers)
    ∷ leb f.lines max_lines
    ∷ under f.boxes f.offers f.offer_owner
    ∷ under f.boxes f.grocers f.grocer_owner
    ∷ under f.grocers f.lines f.line_grocer
    ∷ under f.offers f.lines f.line_offer
    ∷ under f.boxes f.lines f.line_box
    ∷ [])

-- Condition 21 is not met by the state's tables: values have the range of 34, sums are finite within ±10^15, a done mark is 0 or 1.
unfoldable pub state_in_range : ForecastTables → StateTables → Bool
state_in_range f t =
    all_of (
    each is_value (f.boxes * f.offers) t.known
    ∷ each is_value (f.boxes * f.offers) t.value_transit
    ∷ each is_sum (f.boxes * f.grocers) t.part
    ∷ each is_sum (f.boxes * f.grocers) t.part_transit
    ∷ each is_sum (f.boxes * f.grocers) t.held
    ∷ each is_sum f.grocers t.forecast
    ∷ up_to 1 (6 * f.boxes * f.boxes) t.done
    ∷ up_to max_sent 1 t.sent
    ∷ [])

-- What an evening of forecasting asks of its tables: they are lent whole, so 20 is not met, in range, so 21 is not met, and 34 is not met.
pub record Forecasts (f : ForecastTables) : Type 0 where
  pub whole : forecast_short f (forecast_lengths f) ≡ false
  pub in_range : forecast_in_range f ≡ true
  pub lines : bad_line (forecast_of f) ≡ false
