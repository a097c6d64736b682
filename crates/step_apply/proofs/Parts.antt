-- What the parts of a step of kind 1, 2 or 3 require follows from what the step does. Assumes nothing.
use mathlib.Core.Path.{◌≡◌}
use mathlib.Core.List.{List}
use Prim.Native.Nat.{ℕ, ◌*◌, ◌<◌, ◌≤◌}
use native.Mathlib.Nat.{le_trans}
use lib.IntN.{ℤ}
use Rattle.laws.proofs.Tables.{row_in}
use Rattle.step_prices.specs.Prices.{PriceRows, PricesIn}
use Rattle.step_links.specs.Links.{Some}
use Rattle.step_totals.specs.Row as totals
use Rattle.step_totals.specs.Row.{Tallies, PlacedTallies, TalliesLinked}
use Rattle.step_totals.proofs.Rows.{placed-tallies, pairs_linked}
use Rattle.step_apply.specs.Apply.{PriceStepIn}

module _ (e : Tallies) (width from to : ℕ) (offers links known transit : List ℕ) (working : List ℤ) (kind a b : ℕ)
    (p : PriceStepIn e width from to offers links known transit working kind a b) where
  -- The offers of a message, with rows of box a and of another box.
  pub rows_of : (c : ℕ) → c < e.boxes → (kind ≡ 2 → ⊥) → PriceRows e.offers width a c from to offers known transit
  rows_of c l other =
      let o = p.offers_in other in
      record {
        offers_in = p.tallies_in.offers_in;
        width_some = p.width_from;
        width_in = p.width_to;
        a_in = le_trans p.a_in p.tallies_in.boxes_in;
        c_in = le_trans l p.tallies_in.boxes_in;
        ordered = o.order;
        list_long = o.long;
        listed_in = o.offer_in;
        known_long_lem = le_trans (row_in a _ _ p.a_in) p.known_in.long;
        transit_long_lem = le_trans (row_in c _ _ l) p.transit_in.long;
      }

  pub tables_of : (c : ℕ) → c < e.boxes → PricesIn e.boxes (e.offers * width) a c known transit
  tables_of c l = record { a_in = p.a_in; c_in = l; known_long_lem = p.known_in.long; transit_long_lem = p.transit_in.long }

  -- Tallies, each with its place, at the prices of a table.
  pub places_of : (prices : List ℕ) → 2 ≤ kind → totals.PricesIn e.boxes (e.offers * width) prices → PlacedTallies e.offers width e.tallies a e.place e.offer e.counts prices working
  places_of prices more t = placed-tallies e width prices working a p.width_from p.width_to p.tallies_in t (p.working_in more) p.a_in

  pub linked_of : Some (λ owner. Some (λ holder. TalliesLinked e.tallies owner holder e.offer links))
  linked_of = record { list = e.owner; passes = record { list = e.holder; passes = pairs_linked e e.holder links p.tallies_in p.tallies_linked } }
