-- `records` makes the list of records. The invariant: the records before i are those lent. Assumes nothing.
use mathlib.Core.Path.{◌≡◌}
use Prim.Native.Nat.{◌≤◌, ◌-◌}
use lib.ListN.{length}
use Rattle.test_calls.specs.Entries.{lent_tally}
use Rattle.test_calls.proofs.Fields.{Filled}
use Rattle.test_calls.proofs.records.Given as goal

abbrev pub invariant-loop-i : goal.invariant-loop-i
invariant-loop-i l =
    (l.i ≤ l.n) × (length l.list ≡ 1024) × Filled (lent_tally l.tally_grocer l.tally_box l.tally_offer l.tally_count l.tally_bag l.tally_revision) l.list l.i

abbrev pub decreases-loop-i : goal.decreases-loop-i
decreases-loop-i l =
    l.n - l.i
