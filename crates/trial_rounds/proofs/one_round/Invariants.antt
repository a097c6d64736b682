-- `trial_rounds::one_round` meets its contract: the boxes before a have had their turn. Assumes nothing.
use Rattle.run_ready.specs.Walk.{listed_of}
use Rattle.run_ready.specs.Rows.{IsRows}
use Rattle.run_order.specs.Order.{MarksFrom, EveryJobOf}
use Rattle.trial_rounds.specs.Taken.{RoundPart}
use Rattle.trial_rounds.proofs.one_round.Given as goal

abbrev pub invariant-loop-a : goal.invariant-loop-a
invariant-loop-a l = record {
  marks_from : MarksFrom l.rules.boxes l.initial.done l.done;
  rows_are : IsRows l.rules.boxes (listed_of l.rules l.done) l.rows;
  part : EveryJobOf l.rules (λ j. RoundPart j l.list l.initial.done l.initial.order l.n l.a l.done l.order l.words);
}
