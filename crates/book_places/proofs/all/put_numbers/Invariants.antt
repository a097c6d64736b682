-- `book_places::all::put_numbers` meets its contract. Assumes nothing.
use mathlib.Core.Path.{◌≡◌}
use Prim.Native.Nat.{ℕ, ◌<◌, ◌≤◌, ◌+◌}
use lib.ListN.{length}
use Rattle.book_sort.specs.Sort.{at}
use Rattle.book_places.proofs.all.put_numbers.Given as goal

abbrev pub invariant-loop-i : goal.invariant-loop-i
invariant-loop-i l =
    (length l.table ≡ length l.initial.table) × ((x : ℕ) → l.from ≤ x → x < l.i → at l.table (l.row + at l.list x) ≡ x) × ((x : ℕ) → x < l.row → at l.table x ≡ at l.initial.table x)
