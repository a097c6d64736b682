-- `late_finished::marks::right_marks` meets its contract: at place i the marks before it are tested. Assumes nothing.
use mathlib.Core.Path.{◌≡◌}
use mathlib.Core.Bool.{cond}
use Prim.Native.Nat.{◌≤◌}
use lib.Dec.{eqb}
use lib.ListN.{get_or}
use Rattle.laws.specs.Below.{all}
use Rattle.job_masks.specs.Due.{due_at}
use Rattle.step_places.proofs.Walking.{At}
use Rattle.late_finished.proofs.marks.right_marks.Given as goal

abbrev pub invariant-loop-i : goal.invariant-loop-i
invariant-loop-i l =
    (l.i ≤ l.places) × (At l.k l.i l.p.kind l.p.first l.p.second) × (l.all ≡ all l.i (λ x. eqb (get_or l.done x 0) (cond (due_at l.k l.receivers l.senders x) 1 0)))
