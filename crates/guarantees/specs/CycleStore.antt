-- Thirteen cycles behind (02 §14): what each shop was owed over the latest cycle and the twelve numbers before it.
use Rattle.std.specs.Prelude.{◌≡◌, true, ℕ, ◌<◌, ◌≤◌}
use Rattle.laws.specs.Checks.{first_met}
use Rattle.laws.specs.Limits.{max_grocers}
use Rattle.cycle_history.specs.Store.{Store, Given, store_in_range, store_refusals, refused, store_outcome, stored}
use Rattle.cycle_history.specs.History.{Empty, blank, ThirteenCycles}

-- What the store of thirteen cycles comes to.
pub record CycleStoreHolds : Type 0 where
  -- "Show over any run of cycles from an empty store, nobody else writing it, that the sum kept up to date is the one added afresh from the
  -- history": of every list of calls, refused ones too.
  pub runs : (m : ℕ) → 1 ≤ m → m ≤ max_grocers → (s : Store) → Empty m s → ThirteenCycles m s
  -- A store whose words are all 0 is empty.
  pub zeros : (m : ℕ) → Empty m (blank m)
  -- A call answers the first of its conditions; refused, it leaves every word of the three tables.
  pub refusal : (m : ℕ) (s : Store) (q : Given) → (first_met (store_refusals m s q) ≡ 0 → ⊥) →
      stored m s q ≡ store_outcome (refused (first_met (store_refusals m s q))) s
  -- No call leaves a store in range out of it, whatever the store holds.
  pub in_range : (m : ℕ) (s : Store) (q : Given) → store_in_range m s ≡ true → q.cycle < 65_536 → store_in_range m (stored m s q).store ≡ true
