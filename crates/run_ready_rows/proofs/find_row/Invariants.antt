-- `run_ready_rows::find_row` meets its contract: at row i, what is left to pass and the rows before it make the place that is meant. Assumes nothing.
use mathlib.Core.Path.{◌≡◌}
use Prim.Native.Nat.{◌+◌}
use Rattle.run_ready.specs.Rows.{rows_total}
use Rattle.run_ready_rows.proofs.find_row.Given as goal

abbrev pub invariant-loop-i : goal.invariant-loop-i
invariant-loop-i l =
    (l.left + rows_total l.rows (l.first + l.i) ≡ l.c + rows_total l.rows l.first)
