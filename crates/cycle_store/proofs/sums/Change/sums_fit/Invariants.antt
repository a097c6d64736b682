-- `cycle_store::sums::Change::sums_fit` meets its contract: each sum passed is in range. Assumes nothing.
use mathlib.Core.Path.{◌≡◌}
use mathlib.Core.Bool.{true}
use lib.Dec.{leb}
use lib.IntN.{nat_abs}
use Rattle.laws.specs.Below.{all}
use Rattle.cycle_history.specs.Store.{max_kept}
use Rattle.cycle_store.specs.Moved.{sum_next}
use Rattle.cycle_store.proofs.sums.Change.sums_fit.Given as goal

abbrev pub invariant-loop-g : goal.invariant-loop-g
invariant-loop-g l =
    all l.g (λ g'. leb (nat_abs (sum_next l.self.m l.self.k l.self.amounts.now l.self.held.now l.sums g')) max_kept) ≡ true
