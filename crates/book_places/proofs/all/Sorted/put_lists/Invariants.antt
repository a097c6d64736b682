-- `book_places::all::Sorted::put_lists` meets its contract. Assumes nothing.
use mathlib.Core.Path.{◌≡◌}
use lib.ListN.{length}
use Rattle.book_sort.specs.Sort.{at}
use Rattle.book_places.specs.Spots.{start_by}
use Rattle.book_places.specs.Boxes.{HeadsTold}
use Rattle.book_places.proofs.all.Sorted.put_lists.Given as goal

abbrev pub invariant-loop-b : goal.invariant-loop-b
invariant-loop-b l =
    (length l.heads ≡ length l.initial.heads)
    × (length l.out ≡ length l.initial.out)
    × (l.next ≡ start_by (at l.self.starts.now l.self.k) l.self.owners.now l.self.words.now l.b)
    × HeadsTold l.self.k (at l.self.starts.now l.self.k) l.self.owners.now l.self.words.now l.b l.heads l.out
