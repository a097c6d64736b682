-- What the entry point of the store of thirteen cycles gives: a number for the answer, and the store's words.
use Rattle.std.specs.Prelude.{ℕ}
use Rattle.cycle_history.specs.Store.{Store, StoreAnswer, kept, refused, StoreOutcome}

-- The answer as one number: 0, or the refusal's.
unfoldable pub store_number : StoreAnswer → ℕ
store_number kept = 0
store_number (refused number) = number

-- A number, and the store as it is afterwards.
pub record StoreTold : Type 0 where
  pub answer : ℕ
  pub store : Store

-- The same, as a contract names it.
abbrev pub store_told : ℕ → Store → StoreTold
store_told n s = record { answer = n; store = s }

-- What the call gives, its answer as a number.
unfoldable pub store_as : StoreOutcome → StoreTold
store_as o = store_told (store_number o.answer) o.store
