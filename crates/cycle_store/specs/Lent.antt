-- What a lent store holds, in the words of `cycle_history`.
use Rattle.cycle_store.specs.declared.conditions.Store.{Store as LentStore}
use Rattle.cycle_history.specs.Store.{Store, store}

-- What the store's tables hold.
abbrev pub store_held : LentStore → Store
store_held s = store s.next.now s.held.now s.sums.now
