-- `step_entries::take_words` meets its contract. The invariant: the first i words of the entry are taken, and the others are as they were. Assumes nothing.
use mathlib.Core.Path.{◌≡◌}
use mathlib.Core.Bool.{cond}
use Prim.Native.Nat.{ℕ, ◌≤◌}
use lib.ListN.{length, get_or}
use Rattle.laws.proofs.Loops.{window}
use Rattle.step_entries.proofs.take_words.Given as goal

abbrev pub invariant-loop-i : goal.invariant-loop-i
invariant-loop-i l =
    (l.i ≤ l.width) × (length l.known ≡ length l.initial.known) × (length l.transit ≡ length l.initial.transit)
    × ((k : ℕ) → get_or l.known k 0 ≡ cond (window l.at l.i k) (get_or l.initial.transit k 0) (get_or l.initial.known k 0))
    × ((k : ℕ) → get_or l.transit k 0 ≡ cond (window l.at l.i k) 0 (get_or l.initial.transit k 0))
