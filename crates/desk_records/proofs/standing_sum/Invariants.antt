-- `desk_records::standing_sum` meets its contract. The invariant: the sum is that of the first t. Assumes nothing.
use mathlib.Core.Path.{◌≡◌}
use Rattle.desk_records.specs.Rows.{unmarked}
use Rattle.desk_records.proofs.standing_sum.Given as goal

abbrev pub invariant-loop-t : goal.invariant-loop-t
invariant-loop-t l = l.sum ≡ unmarked l.t l.marks l.shares
