-- The rule told from counts in the order of their keys: those of one bag stand beside each other, the highest revision last.
use Rattle.std.specs.Prelude.{◌≡◌, Bool, ◌&&◌, not, ℕ, suc, ◌+◌, ◌*◌, ◌<◌, ◌≤◌, eqb, ltb}
use Rattle.recount.specs.Recount.{Counted, loose}

-- Places of offers are below 512, bags and revisions of 16 bits: so grocer, offer, bag and revision are one number, below 2^49 for 255 grocers.
pub record KeysIn (c : Counted) : Type 0 where
  pub offer : (t : ℕ) → t < c.size → c.offer t < 512
  pub bag : (t : ℕ) → t < c.size → c.bag t < 65_536
  pub revision : (t : ℕ) → t < c.size → c.revision t < 65_536

-- Tallies in ascending order of a key: tally `order i` is the one at place i, and `back t` is the place of tally t.
pub record Sorted (n : ℕ) (key order back : ℕ → ℕ) : Type 0 where
  pub inside : (i : ℕ) → i < n → order i < n
  pub place : (t : ℕ) → t < n → back t < n
  pub there : (t : ℕ) → t < n → order (back t) ≡ t
  pub here : (i : ℕ) → i < n → back (order i) ≡ i
  pub ascends : (i : ℕ) → suc i < n → key (order i) ≤ key (order (suc i))

module _ (c : Counted) where
  -- Grocer, offer and bag of a tally as one number,
  unfoldable pub bag_key : ℕ → ℕ
  bag_key t = (c.grocer t * 512 + c.offer t) * 65_536 + c.bag t

  -- and its revision behind them.
  unfoldable pub count_key : ℕ → ℕ
  count_key t = bag_key t * 65_536 + c.revision t

  module _ (order : ℕ → ℕ) where
    -- The tally at place i and the next one are one bag and revision, and not loose.
    unfoldable pub twice_beside : ℕ → Bool
    twice_beside i = ltb (suc i) c.size && (not (loose c (order i)) && eqb (count_key (order i)) (count_key (order (suc i))))

    -- The next one is of the same bag.
    unfoldable pub bag_beside : ℕ → Bool
    bag_beside i = ltb (suc i) c.size && eqb (bag_key (order i)) (bag_key (order (suc i)))
