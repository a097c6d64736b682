-- `run_order::rest` meets its contract: at place i no step of an earlier place is ready. Assumes nothing.
use mathlib.Core.List.{[]}
use Rattle.model.specs.Tables.{steps_done}
use Rattle.step_places.specs.Order.{NoneBefore}
use Rattle.run_order.specs.Order.{MarksFrom, Kept, EveryJobOf}
use Rattle.step_places.proofs.Walking.{At}
use Rattle.run_order.proofs.rest.Given as goal

abbrev pub invariant-loop-i : goal.invariant-loop-i
invariant-loop-i l = record {
  at : At l.rules.boxes l.i l.p.kind l.p.first l.p.second;
  marks_from : MarksFrom l.rules.boxes l.initial.done l.done;
  kept : EveryJobOf l.rules (λ j. Kept j l.initial.done l.initial.order l.n [] l.done l.order l.words []);
  none : EveryJobOf l.rules (λ j. NoneBefore j (steps_done j.boxes l.done) l.i);
}
