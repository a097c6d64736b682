-- `cycle_store::conditions::store_short` meets its contract. Assumes nothing.
use Rattle.std.proofs.Common.{rules}
use Rattle.cycle_history.specs.Store.{store_short}
use Rattle.cycle_store.proofs.conditions.store_short.Goals as goal

pub returns : goal.returns
unfolding store_short
returns c = λ cycle. search rules
