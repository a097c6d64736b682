-- The price tables after prices are sent or received: rows are boxes, and a row has the words of all offers, an offer's side by side.
use Rattle.std.specs.Prelude.{Bool, cond, ◌&&◌, List, ℕ, ◌+◌, ◌*◌, ◌≤◌, ◌<◌, length, get_or, eqb}
use Rattle.laws.specs.Tables.{cell, recell}

-- What the calls on price tables require: n offers of so many words each and boxes a and c in range, a list of offers from one place up to another,
-- row a of the prices known, and row c of those in transit.
pub record PriceRows (n width a c from to : ℕ) (offers known transit : List ℕ) : Type 0 where
  pub offers_in : n ≤ 500
  pub width_some : 1 ≤ width
  pub width_in : width ≤ 8
  pub a_in : a < 16
  pub c_in : c < 16
  pub ordered : from ≤ to
  pub list_long : to ≤ length offers
  pub listed_in : (i : ℕ) → from ≤ i → i < to → get_or offers i 0 < n
  pub known_long_lem : a * (n * width) + n * width ≤ length known
  pub transit_long_lem : c * (n * width) + n * width ≤ length transit

-- Boxes a and c are of k boxes, and the tables as long as k rows of n words need.
pub record PricesIn (k n a c : ℕ) (known transit : List ℕ) : Type 0 where
  pub a_in : a < k
  pub c_in : c < k
  pub known_long_lem : k * n ≤ length known
  pub transit_long_lem : k * n ≤ length transit

-- 1 Send prices: those of its offers the second box needs. In transit after box a has sent to box b, by receiving box. Rows have n words, and
-- `passes` says which of them stand in the message.
unfoldable pub sent_transit : (k n a b : ℕ) (passes : ℕ → Bool) (known transit : List ℕ) → List ℕ
sent_transit k n a b passes known transit =
    recell k n (λ c w. cond (eqb c b && passes w) (cell k n known 0 a w) (cell k n transit 0 c w)) transit

-- 3 Receive prices from the second box. Known after box a has received.
unfoldable pub received_known : (k n a : ℕ) (passes : ℕ → Bool) (known transit : List ℕ) → List ℕ
received_known k n a passes known transit =
    recell k n (λ c w. cond (eqb c a && passes w) (cell k n transit 0 a w) (cell k n known 0 c w)) known

-- Words in transit become 0 on receipt.
unfoldable pub received_transit : (k n a : ℕ) (passes : ℕ → Bool) (transit : List ℕ) → List ℕ
received_transit k n a passes transit = recell k n (λ c w. cond (eqb c a && passes w) 0 (cell k n transit 0 c w)) transit
