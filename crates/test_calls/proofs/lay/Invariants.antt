-- `test_calls::lay` meets its contract: the counts passed are written. Assumes nothing.
use mathlib.Core.Path.{◌≡◌}
use mathlib.Core.List.{List}
use Prim.Native.Nat.{ℕ, ◌≤◌, ◌-◌, ◌/◌, ◌%◌}
use Rattle.laws.specs.Tables.{overwrite, cell_at}
use Rattle.test_calls.proofs.lay.Given as goal

-- Count k of a table, row by row.
abbrev counted : List (List ℕ) → ℕ → ℕ
counted table k = cell_at table (k / 16) (k % 16)

abbrev pub invariant-loop-i : goal.invariant-loop-i
invariant-loop-i l =
    (l.i ≤ 256) × (l.out ≡ overwrite l.i (counted l.table) l.initial.out)

abbrev pub decreases-loop-i : goal.decreases-loop-i
decreases-loop-i l =
    256 - l.i
