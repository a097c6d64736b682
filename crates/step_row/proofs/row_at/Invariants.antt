-- `step_row::row_at` meets its contract. The invariant: the words passed are the box's, and the others 0. Assumes nothing.
use mathlib.Core.Path.{◌≡◌}
use mathlib.Core.Bool.{cond}
use Prim.Native.Nat.{ℕ, ◌≤◌, ◌+◌, ◌*◌}
use lib.ListN.{length, get_or}
use lib.Dec.{ltb}
use lib.IntN.{pos}
use Rattle.step_row.proofs.row_at.Given as goal

abbrev pub invariant-loop-g : goal.invariant-loop-g
invariant-loop-g l =
    (l.g ≤ l.len) × (length l.row ≡ 255) × ((i : ℕ) → get_or l.row i (pos 0) ≡ cond (ltb i l.g) (get_or l.working ((l.start + i) * l.width + l.q) (pos 0)) (pos 0))
