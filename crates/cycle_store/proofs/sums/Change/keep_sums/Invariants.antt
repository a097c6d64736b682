-- `cycle_store::sums::Change::keep_sums` meets its contract: before grocer g the sums of those before are kept. Assumes nothing.
use mathlib.Core.Path.{◌≡◌}
use Rattle.laws.specs.Tables.{overwrite}
use Rattle.cycle_store.specs.Moved.{sum_next}
use Rattle.cycle_store.proofs.sums.Change.keep_sums.Given as goal

abbrev pub invariant-loop-g : goal.invariant-loop-g
invariant-loop-g l =
    l.sums ≡ overwrite l.g (sum_next l.self.m l.self.k l.self.amounts.now l.self.held.now l.initial.sums) l.initial.sums
