-- `book_places::all::Sorted::take` meets its contract. Assumes nothing.
use mathlib.Core.Path.{◌≡◌}
use mathlib.Core.Bool.{true}
use Prim.Native.Nat.{ℕ, ◌+◌, ◌<◌}
use lib.ListN.{length}
use Rattle.laws.specs.Below.{count}
use Rattle.book_sort.specs.Sort.{at}
use Rattle.book_places.specs.Boxes.{takes}
use Rattle.book_places.proofs.all.Sorted.take.Given as goal

abbrev pub invariant-loop-i : goal.invariant-loop-i
invariant-loop-i l =
    (length l.out ≡ length l.initial.out)
    × (l.next ≡ l.start + count l.i (takes l.self.owners.now l.self.words.now l.b l.self.list.now l.part.from))
    × ((y : ℕ) → y < l.i → takes l.self.owners.now l.self.words.now l.b l.self.list.now l.part.from y ≡ true →
    at l.out (l.start + count y (takes l.self.owners.now l.self.words.now l.b l.self.list.now l.part.from)) ≡ at l.self.list.now (l.part.from + y))
    × ((y : ℕ) → y < l.start → at l.out y ≡ at l.initial.out y)
