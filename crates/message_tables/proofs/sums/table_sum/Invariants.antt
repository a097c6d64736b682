-- `message_tables::sums::table_sum` meets its contract: the sum is that of the rows passed. Assumes nothing.
use mathlib.Core.Path.{◌≡◌}
use Prim.Native.Nat.{◌≤◌, ◌*◌}
use Rattle.message_tables.proofs.Summing.{rows_to}
use Rattle.message_tables.proofs.sums.table_sum.Given as goal

abbrev pub invariant-loop-a : goal.invariant-loop-a
invariant-loop-a l = (l.sum ≡ rows_to l.a l.table) × (l.sum ≤ 1_048_560 * l.a)
