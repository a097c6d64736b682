-- What a step leaves alone of the state's tables: the other side's, the marks and the count of words sent.
use Rattle.std.specs.Prelude.{◌≡◌}
use Rattle.tables.specs.declared.State.{State}

-- Kinds 1 to 3: the totals in transit, the statements, the marks and the count hold what they held.
pub record TotalsKept (before after : State) : Type 0 where
  pub total_transit_kept : after.total_transit.now ≡ before.total_transit.now
  pub statement_kept : after.statement.now ≡ before.statement.now
  pub done_kept : after.done.now ≡ before.done.now
  pub sent_kept : after.sent.now ≡ before.sent.now

-- Kinds 4 to 6: the prices, the marks and the count hold what they held.
pub record PricesKept (before after : State) : Type 0 where
  pub known_kept : after.known.now ≡ before.known.now
  pub price_transit_kept : after.price_transit.now ≡ before.price_transit.now
  pub done_kept : after.done.now ≡ before.done.now
  pub sent_kept : after.sent.now ≡ before.sent.now
