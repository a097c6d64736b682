-- `book_places::all::Half::put_rows` meets its contract. Assumes nothing.
use mathlib.Core.Path.{◌≡◌}
use lib.ListN.{length}
use Rattle.book_places.specs.Boxes.{RowsTold}
use Rattle.book_places.proofs.all.Half.put_rows.Given as goal

abbrev pub invariant-loop-b : goal.invariant-loop-b
invariant-loop-b l =
    (length l.table ≡ length l.initial.table) × RowsTold l.k l.self.first l.b l.heads l.grocers l.table
