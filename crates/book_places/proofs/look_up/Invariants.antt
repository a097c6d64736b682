-- `book_places::look_up` meets its contract. Assumes nothing.
use mathlib.Core.Path.{◌≡◌}
use Rattle.laws.specs.Tables.{overwrite}
use Rattle.book_sort.specs.Sort.{at}
use Rattle.book_places.proofs.look_up.Given as goal

abbrev pub invariant-loop-i : goal.invariant-loop-i
invariant-loop-i l =
    l.list ≡ overwrite l.i (λ x. at l.table (at l.initial.list x)) l.initial.list
