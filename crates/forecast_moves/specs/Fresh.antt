-- The values known in a fresh state, told from lists.
use Rattle.std.specs.Prelude.{◌≡◌, true, cond, List, ℕ, zero, suc, ◌*◌, ◌<◌, ◌≤◌, eqb, get_or, length, Float}
use Rattle.laws.specs.Tables.{overwrite, recell}
use Rattle.model.specs.Ranges.{under}
use Rattle.forecast_rules.specs.Doubles.{zero+}

-- Offer o is one of n, whose owner is below 16.
pub record OwnIn (n o : ℕ) (owner : List ℕ) : Type 0 where
  pub offers_in : n ≤ 500
  pub offer_in : o < n
  pub owner_long_lem : o < length owner
  pub owner_in : get_or owner o 0 < 16

-- What the values of a fresh state ask for: tables long enough, and lines and owners in range.
pub record FreshIn (k n l : ℕ) (owner offer : List ℕ) (value known : List Float) : Type 0 where
  pub boxes_in : k ≤ 16
  pub offers_in : n ≤ 500
  pub owner_long_lem : n ≤ length owner
  pub offer_long_lem : l ≤ length offer
  pub value_long : l ≤ length value
  pub known_long_lem : k * n ≤ length known
  pub owners_in : under k n owner ≡ true
  pub offers_are : under n l offer ≡ true

-- The value of the last of the first n lines that is of offer o, or +0.0 where none is.
unfoldable pub last_value : List ℕ → List Float → ℕ → ℕ → Float
last_value offer value zero o = zero+
last_value offer value (suc n) o = cond (eqb (get_or offer n 0) o) (get_or value n zero+) (last_value offer value n o)

-- The table of known values of k boxes and n offers: an owner's own, by l lines, else +0.0.
unfoldable pub own_values : ℕ → ℕ → ℕ → List ℕ → List ℕ → List Float → List Float → List Float
own_values k n l owner offer value known = recell k n (λ b o. cond (eqb (get_or owner o 0) b) (last_value offer value l o) zero+) known

-- What the zeros of a fresh state ask for: tables long enough.
pub record ZerosIn (k m n : ℕ) (value_transit part part_transit held forecast : List Float) (done : List ℕ) : Type 0 where
  pub values_long : k * n ≤ length value_transit
  pub part_long : k * m ≤ length part
  pub transit_long : k * m ≤ length part_transit
  pub held_long : k * m ≤ length held
  pub forecast_long : m ≤ length forecast
  pub done_long : 6 * k * k ≤ length done

-- The words of k boxes, m grocers and n offers are +0.0, and the marks 0; what stands past them is not touched.
pub record Zeros (k m n : ℕ) (value_transit part part_transit held forecast : List Float) (done : List ℕ)
    (value_transit' part' part_transit' held' forecast' : List Float) (done' : List ℕ) : Type 0 where
  pub values_are : value_transit' ≡ overwrite (k * n) (λ i. zero+) value_transit
  pub parts_are : part' ≡ overwrite (k * m) (λ i. zero+) part
  pub transit_are : part_transit' ≡ overwrite (k * m) (λ i. zero+) part_transit
  pub held_are : held' ≡ overwrite (k * m) (λ i. zero+) held
  pub forecasts_are : forecast' ≡ overwrite m (λ i. zero+) forecast
  pub marks_are : done' ≡ overwrite (6 * k * k) (λ i. 0) done
