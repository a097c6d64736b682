-- `desk::reconcile`: after i records none is refused, and keys and shares are those of the i records.
use Rattle.desk.proofs.Fold.{Taken}
use Rattle.desk.proofs.reconcile.Given as goal

abbrev pub invariant-loop-i : goal.invariant-loop-i
invariant-loop-i l =
    Taken l.records l.price l.grocers l.offers l.wanted l.i 0 l.entries.keys l.entries.shares
