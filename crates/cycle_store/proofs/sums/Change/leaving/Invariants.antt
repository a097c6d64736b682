-- `cycle_store::sums::Change::leaving` meets its contract: before row i the words of those before it are added. Assumes nothing.
use mathlib.Core.Path.{◌≡◌}
use Prim.Native.Nat.{◌+◌, ◌-◌, ◌*◌}
use lib.IntN.{pos}
use lib.ListN.{get_or}
use Rattle.laws.specs.Below.{sum, integers}
use Rattle.cycle_history.specs.Store.{cycles}
use Rattle.cycle_store.proofs.sums.Change.leaving.Given as goal

abbrev pub invariant-loop-i : goal.invariant-loop-i
invariant-loop-i l =
    l.sum ≡ sum integers l.i (λ i'. get_or l.self.held.now (((cycles - l.self.k) + i') * l.self.m + l.g) (pos 0))
