-- `index_lookup::look::halve` meets its contract. The invariant: a key that is the number is among the `len` places from `at` on. Assumes nothing.
use Prim.Native.Nat.{ℕ, ◌+◌, ◌<◌, ◌≤◌}
use lib.ListN.{length}
use Rattle.index_lookup.specs.Lookup.{Bracket}
use Rattle.index_lookup.proofs.look.halve.Given as goal

abbrev pub invariant-loop-most : goal.invariant-loop-most
invariant-loop-most l =
    (0 < l.len) × (l.len ≤ 1000) × (l.len ≤ l.most) × (l.at + l.len ≤ length l.keys) × ((n : ℕ) → Bracket l.keys n l.number l.from l.count → Bracket l.keys n l.number l.at l.len)

abbrev pub decreases-loop-most : goal.decreases-loop-most
decreases-loop-most l =
    l.most
