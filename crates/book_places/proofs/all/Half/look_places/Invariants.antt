-- `book_places::all::Half::look_places` meets its contract. Assumes nothing.
use mathlib.Core.Path.{◌≡◌}
use Rattle.laws.specs.Tables.{overwrite}
use Rattle.book_sort.specs.Sort.{at}
use Rattle.book_places.specs.Boxes.{place_at}
use Rattle.book_places.proofs.all.Half.look_places.Given as goal

abbrev pub invariant-loop-t : goal.invariant-loop-t
invariant-loop-t l =
    l.places ≡ overwrite l.t (λ i. place_at l.self.first l.self.last l.table (at l.boxes i) (at l.items i) (at l.initial.places i)) l.initial.places
