-- `message_tables::words::others_sum` meets its contract: the sum is that of the words passed. Assumes nothing.
use mathlib.Core.Path.{◌≡◌}
use Prim.Native.Nat.{◌≤◌, ◌*◌}
use Rattle.message_tables.specs.Sums.{others_sum}
use Rattle.message_tables.proofs.words.others_sum.Given as goal

abbrev pub invariant-loop-i : goal.invariant-loop-i
invariant-loop-i l = (l.sum ≡ others_sum l.i l.owners l.masks) × (l.sum ≤ 16 * l.i)
