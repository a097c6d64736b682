-- `run_ready_rows::all_rows` meets its contract: at row r the rows before it are made. Assumes nothing.
use Rattle.run_ready.specs.Walk.{listed_by}
use Rattle.run_ready_rows.proofs.ByRow.{MadeTo}
use Rattle.run_ready_rows.proofs.all_rows.Given as goal

abbrev pub invariant-loop-r : goal.invariant-loop-r
invariant-loop-r l =
    (MadeTo l.rules.boxes (listed_by l.rules.boxes l.rules.receivers.now l.rules.waits.now l.done) l.rows l.r)
