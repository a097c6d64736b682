-- `book_places::all::Sorted::put_box` meets its contract. Assumes nothing.
use mathlib.Core.Path.{◌≡◌}
use Prim.Native.Nat.{ℕ, ◌+◌, ◌<◌}
use lib.ListN.{length}
use Rattle.book_sort.specs.Sort.{at, begin, place}
use Rattle.book_places.specs.Spots.{class_by}
use Rattle.book_places.proofs.all.Sorted.put_box.Given as goal

abbrev pub invariant-loop-d : goal.invariant-loop-d
invariant-loop-d l =
    (length l.heads ≡ length l.initial.heads)
    × (length l.out ≡ length l.initial.out)
    × (l.next ≡ l.start + begin (class_by l.self.k l.b l.self.owners.now l.self.words.now) (at l.self.starts.now l.self.k) l.d)
    × ((e : ℕ) → e < l.d + 1 → at l.heads (l.row + e) ≡ l.start + begin (class_by l.self.k l.b l.self.owners.now l.self.words.now) (at l.self.starts.now l.self.k) e)
    × ((i : ℕ) → i < l.row → at l.heads i ≡ at l.initial.heads i)
    × ((x : ℕ) → x < at l.self.starts.now l.self.k → class_by l.self.k l.b l.self.owners.now l.self.words.now x < l.d →
    at l.out (l.start + place (class_by l.self.k l.b l.self.owners.now l.self.words.now) (at l.self.starts.now l.self.k) x) ≡ x)
    × ((i : ℕ) → i < l.start → at l.out i ≡ at l.initial.out i)
