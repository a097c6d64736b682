-- `step_entries::copy_words` meets its contract. The invariant: the first i words of the entry are copied, and the others are as they were. Assumes nothing.
use mathlib.Core.Path.{◌≡◌}
use mathlib.Core.Bool.{cond}
use Prim.Native.Nat.{ℕ, ◌+◌, ◌-◌, ◌≤◌}
use lib.ListN.{length, get_or}
use Rattle.laws.proofs.Loops.{window}
use Rattle.step_entries.proofs.copy_words.Given as goal

abbrev pub invariant-loop-i : goal.invariant-loop-i
invariant-loop-i l =
    (l.i ≤ l.width) × (length l.words ≡ length l.initial.words) × ((k : ℕ) → get_or l.words k 0 ≡ cond (window l.to l.i k) (get_or l.source (l.from + (k - l.to)) 0) (get_or l.initial.words k 0))
