-- `trial_rounds::idle_rounds` meets its contract: every box has been idle in all rounds but those of its steps so far. Assumes nothing.
use mathlib.Core.Path.{◌≡◌}
use Prim.Native.Nat.{ℕ, ◌+◌, ◌≤◌, ◌<◌}
use lib.ListN.{get_or}
use Rattle.step_places.specs.Order.{steps_in}
use Rattle.trial_rules.specs.Rounds.{of_box}
use Rattle.trial_rounds.proofs.idle_rounds.Given as goal

abbrev pub invariant-loop-place : goal.invariant-loop-place
invariant-loop-place l = record {
  left : (b : ℕ) → b < l.k → get_or l.idle b 0 + of_box b (steps_in l.k l.place-index l.order) ≡ l.rounds;
  past : (x : ℕ) → l.k ≤ x → get_or l.idle x 0 ≡ get_or l.initial.idle x 0;
}
