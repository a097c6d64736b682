-- What the lent tables of a forecast hold, in the model's words; and that a call leaves a state with the slices it was lent.
use Rattle.std.specs.Prelude.{◌≡◌}
use Rattle.forecast_doubles.specs.declared.tables.Forecast.{Forecast}
use Rattle.forecast_doubles.specs.declared.tables.State.{State}
use Rattle.forecast_doubles.specs.declared.tables.StateView.{StateView}
use Rattle.forecast_rules.specs.Tables.{ForecastTables, forecast_tables, StateTables, state_tables}

-- What the forecast's tables hold.
abbrev pub forecast_held : Forecast → ForecastTables
forecast_held f =
    forecast_tables f.boxes f.grocers f.offers f.lines f.offer_owner.now f.grocer_owner.now f.line_grocer.now f.line_offer.now f.line_box.now
    f.line_rate.now f.line_value.now

-- What the state's tables hold.
abbrev pub state_held : State → StateTables
state_held s =
    state_tables s.known.now s.value_transit.now s.part.now s.part_transit.now s.held.now s.forecast.now s.done.now s.sent.now

-- The same of a state that is lent to be read.
abbrev pub state_viewed : StateView → StateTables
state_viewed s =
    state_tables s.known.now s.value_transit.now s.part.now s.part_transit.now s.held.now s.forecast.now s.done.now s.sent.now

-- The eight slices of a state are the same memory before and after: only what stands in them may differ.
pub record SameSlices (before after : State) : Type 0 where
  pub known : after.known.ghost_name ≡ before.known.ghost_name
  pub value_transit : after.value_transit.ghost_name ≡ before.value_transit.ghost_name
  pub part : after.part.ghost_name ≡ before.part.ghost_name
  pub part_transit : after.part_transit.ghost_name ≡ before.part_transit.ghost_name
  pub held : after.held.ghost_name ≡ before.held.ghost_name
  pub forecast : after.forecast.ghost_name ≡ before.forecast.ghost_name
  pub done : after.done.ghost_name ≡ before.done.ghost_name
  pub sent : after.sent.ghost_name ≡ before.sent.ghost_name
