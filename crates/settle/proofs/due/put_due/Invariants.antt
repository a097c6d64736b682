-- `settle::due::put_due` meets its contract: at place i the order has the places below i that have a step. Assumes nothing.
use mathlib.Core.Path.{◌≡◌}
use Prim.Native.Nat.{◌-◌, ◌≤◌}
use lib.ListN.{length, take}
use Rattle.laws.specs.Below.{ascending}
use Rattle.step_places.proofs.Walking.{At}
use Rattle.job_masks.specs.Due.{due_at}
use Rattle.settle.proofs.due.put_due.Given as goal

abbrev pub invariant-loop-i : goal.invariant-loop-i
invariant-loop-i l =
    (l.i ≤ l.places) × ((At l.k l.i l.p.kind l.p.first l.p.second) × ((l.words ≤ l.i) × ((length l.order ≡ 1536) × (take l.words l.order ≡ ascending l.i (due_at l.k l.receivers l.senders)))))

abbrev pub decreases-loop-i : goal.decreases-loop-i
decreases-loop-i l =
    l.places - l.i
