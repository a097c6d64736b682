-- `book::pack::put_tallies` meets its contract. The invariant: the words of the tallies passed are put. Assumes nothing.
use mathlib.Core.Path.{◌≡◌}
use Rattle.laws.specs.Tables.{overwrite}
use Rattle.book.specs.Pack.{packed_grocer, packed_count}
use Rattle.book.proofs.pack.put_tallies.Given as goal

abbrev pub invariant-loop-i : goal.invariant-loop-i
invariant-loop-i l =
    (l.packed_grocers ≡ overwrite l.i (packed_grocer l.places l.job.tally_grocer.now l.order) l.initial.packed_grocers) × (l.packed_counts ≡ overwrite l.i (packed_count l.job.tally_count.now l.order) l.initial.packed_counts)
