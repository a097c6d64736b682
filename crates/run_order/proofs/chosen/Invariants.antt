-- `run_order::chosen` meets its contract: each choice puts one step into the order. Assumes nothing.
use Prim.Native.Nat.{◌≤◌}
use lib.ListN.{length, drop}
use Rattle.run_ready.specs.Walk.{listed_of}
use Rattle.run_ready.specs.Rows.{IsRows}
use Rattle.run_order.specs.Order.{MarksFrom, Kept, EveryJobOf}
use Rattle.run_order.proofs.chosen.Given as goal

abbrev pub invariant-loop-i : goal.invariant-loop-i
invariant-loop-i l = record {
  marks_from : MarksFrom l.rules.boxes l.initial.done l.done;
  kept : EveryJobOf l.rules (λ j. Kept j l.initial.done l.initial.order 0 l.choices l.done l.order l.i (drop l.i l.choices));
  rows_are : 1 ≤ length l.choices → IsRows l.rules.boxes (listed_of l.rules l.done) l.rows;
}
