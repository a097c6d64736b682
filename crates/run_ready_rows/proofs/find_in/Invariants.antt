-- `run_ready_rows::find_in` meets its contract: at kind q, what is left to pass and the rows before it make c. Assumes nothing.
use mathlib.Core.Path.{◌≡◌}
use Prim.Native.Nat.{◌+◌, ◌*◌}
use Rattle.run_ready.specs.Rows.{rows_total}
use Rattle.run_ready_rows.proofs.find_in.Given as goal

abbrev pub invariant-loop-q : goal.invariant-loop-q
invariant-loop-q l =
    (l.left + rows_total l.rows (l.q * l.k) ≡ l.c)
