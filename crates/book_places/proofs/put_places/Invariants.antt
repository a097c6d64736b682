-- `book_places::put_places` meets its contract. Assumes nothing.
use mathlib.Core.Path.{◌≡◌}
use Rattle.laws.specs.Tables.{overwrite}
use Rattle.book_places.specs.Spots.{place_by}
use Rattle.book_places.proofs.put_places.Given as goal

abbrev pub invariant-loop-t : goal.invariant-loop-t
invariant-loop-t l =
    l.out ≡ overwrite l.t (place_by l.boxes l.items l.numbers l.b l.start) l.initial.out
