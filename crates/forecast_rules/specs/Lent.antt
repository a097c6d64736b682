-- The tables of a forecast and of its state as a contract names them: lent slices, at the call's begin and at its end.
use Rattle.std.specs.Prelude.{List, ℕ, Float}
use Rattle.std.specs.Borrow.{Bor, MutBor}
use denote.Triple.Both.{Both}
use Rattle.laws.specs.Lent.{Words, MutWords}
use Rattle.forecast_rules.specs.Tables.{ForecastTables, forecast_tables, StateTables, state_tables}

-- A lent slice of doubles, at both moments.
abbrev pub DoubleWords : Type 0
DoubleWords = Both (Bor (List Float)) (Bor (List Float))

-- The same of slices that are lent to be written.
abbrev pub MutDoubleWords : Type 0
MutDoubleWords = Both (MutBor (List Float)) (MutBor (List Float))

-- The forecast's tables: K, M, N and the number of lines, and what the seven slices hold when the call begins. No call writes them.
abbrev pub forecast_lent : (k m n l : ℕ) (offer_owner grocer_owner line_grocer line_offer line_box : Words) (line_rate line_value : DoubleWords)
    → ForecastTables
forecast_lent k m n l offer_owner grocer_owner line_grocer line_offer line_box line_rate line_value =
    forecast_tables k m n l offer_owner.entry.now grocer_owner.entry.now line_grocer.entry.now line_offer.entry.now
    line_box.entry.now line_rate.entry.now line_value.entry.now

-- The state's tables, of a call that only reads them: what the eight slices hold when it begins.
abbrev pub state_lent : (known value_transit part part_transit held forecast : DoubleWords) (done sent : Words) → StateTables
state_lent known value_transit part part_transit held forecast done sent =
    state_tables known.entry.now value_transit.entry.now part.entry.now part_transit.entry.now held.entry.now
    forecast.entry.now done.entry.now sent.entry.now

-- The state's tables, of a call that may write them: what the eight slices hold when the call begins,
abbrev pub state_before : (known value_transit part part_transit held forecast : MutDoubleWords) (done sent : MutWords) → StateTables
state_before known value_transit part part_transit held forecast done sent =
    state_tables known.entry.now value_transit.entry.now part.entry.now part_transit.entry.now held.entry.now
    forecast.entry.now done.entry.now sent.entry.now

-- and when it ends.
abbrev pub state_after : (known value_transit part part_transit held forecast : MutDoubleWords) (done sent : MutWords) → StateTables
state_after known value_transit part part_transit held forecast done sent =
    state_tables known.exit.now value_transit.exit.now part.exit.now part_transit.exit.now held.exit.now
    forecast.exit.now done.exit.now sent.exit.now
