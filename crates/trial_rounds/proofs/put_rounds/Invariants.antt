-- `trial_rounds::put_rounds` meets its contract: rounds follow each other until no step is ready. Assumes nothing.
use mathlib.Core.Path.{◌≡◌}
use Prim.Native.Nat.{◌-◌, ◌*◌}
use Rattle.laws.specs.Below.{count}
use Rattle.run_ready.specs.Walk.{listed_of}
use Rattle.run_ready.specs.Rows.{IsRows}
use Rattle.run_order.specs.Order.{MarksFrom, EveryJobOf}
use Rattle.trial_rounds.specs.Taken.{AfterRounds}
use Rattle.trial_rounds.proofs.put_rounds.Given as goal

abbrev pub invariant-loop-ready : goal.invariant-loop-ready
invariant-loop-ready l = record {
  marks_from : MarksFrom l.rules.boxes l.initial.done l.done;
  rows_are : IsRows l.rules.boxes (listed_of l.rules l.done) l.rows;
  ready_is : l.ready ≡ count (6 * l.rules.boxes * l.rules.boxes) (listed_of l.rules l.done);
  after : EveryJobOf l.rules (λ j. AfterRounds j l.list l.done l.order l.steps l.rounds);
}

abbrev pub decreases-loop-ready : goal.decreases-loop-ready
decreases-loop-ready l =
    1536 - l.steps
