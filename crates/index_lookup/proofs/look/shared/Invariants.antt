-- `index_lookup::look::shared` meets its contract. The invariant: no two neighbours before i are equal. Assumes nothing.
use Prim.Native.Nat.{ℕ, ◌<◌, ◌+◌}
use mathlib.Core.Path.{◌≡◌}
use lib.ListN.{get_or}
use Rattle.index_lookup.proofs.look.shared.Given as goal

abbrev pub invariant-loop-i : goal.invariant-loop-i
invariant-loop-i l =
    (k : ℕ) → k + 1 < l.i → get_or l.keys k 0 ≡ get_or l.keys (k + 1) 0 → ⊥
