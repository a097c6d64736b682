-- `book_places::box_start` meets its contract. Assumes nothing.
use mathlib.Core.Path.{◌≡◌}
use Prim.Native.Nat.{◌≤◌, ◌*◌}
use Rattle.laws.specs.Below.{naturals, sum}
use Rattle.book_places.proofs.Starts.{one_grocer}
use Rattle.book_places.proofs.box_start.Given as goal

abbrev pub invariant-loop-g : goal.invariant-loop-g
invariant-loop-g l =
    (l.sum ≡ sum naturals l.g (one_grocer l.owners l.words l.b)) × (l.sum ≤ 16 * l.g)
