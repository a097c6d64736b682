-- `cycle_store::conditions::store_in_range` meets its contract. Assumes nothing.
use mathlib.Core.Path.{refl}
use Rattle.laws.specs.Tables.{word}
use Rattle.cycle_history.specs.Store.{store_in_range, next_of}
use Rattle.cycle_store.proofs.Called.{under_held, under_kept}
use Rattle.cycle_store.proofs.conditions.store_in_range.Goals as goal

pub returns : goal.returns
unfolding store_in_range next_of word
returns c =
    rw (c.all_within-totals.ensures under_kept refl refl, c.all_within-amounts.ensures under_held refl refl) (cc)
