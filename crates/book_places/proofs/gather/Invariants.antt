-- `book_places::gather` meets its contract: at number x the list has the numbers below x that the box has. Assumes nothing.
use mathlib.Core.Path.{◌≡◌}
use mathlib.Core.Bool.{true}
use Prim.Native.Nat.{ℕ, ◌<◌}
use lib.ListN.{length}
use Rattle.laws.specs.Below.{count}
use Rattle.book_sort.specs.Sort.{at}
use Rattle.book_places.specs.Spots.{total_by}
use Rattle.book_places.proofs.gather.Given as goal

abbrev pub invariant-loop-x : goal.invariant-loop-x
invariant-loop-x l =
    (length l.list ≡ length l.initial.list)
    × (l.l ≡ count l.x (total_by l.owners l.words l.b))
    × ((y : ℕ) → y < l.x → total_by l.owners l.words l.b y ≡ true → at l.list (count y (total_by l.owners l.words l.b)) ≡ y)
