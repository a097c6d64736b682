-- `message_tables::sums::line_sum` meets its contract: the sum is that of the counts passed; a line past the table has none. Assumes nothing.
use mathlib.Core.Path.{◌≡◌}
use Prim.Native.Nat.{◌≤◌, ◌*◌}
use Rattle.message_tables.proofs.Summing.{line_to}
use Rattle.message_tables.proofs.sums.line_sum.Given as goal

abbrev pub invariant-loop-y : goal.invariant-loop-y
invariant-loop-y l = (l.sum ≡ line_to l.y l.back l.table l.x) × (l.sum ≤ 65_535 * l.y)
