-- `trial_rounds::best` meets its contract: no step of the kinds passed is ready for the box. Assumes nothing.
use mathlib.Core.Path.{◌≡◌}
use mathlib.Core.Bool.{Bool, false}
use Prim.Native.Nat.{ℕ, ◌*◌}
use Rattle.laws.specs.Below.{any}
use Rattle.run_ready.specs.Rows.{IsRows}
use Rattle.trial_rounds.specs.Taken.{likes}
use Rattle.trial_rounds.proofs.best.Given as goal

abbrev pub invariant-loop-kind : goal.invariant-loop-kind
invariant-loop-kind l = (f : ℕ → Bool) → IsRows l.k f l.rows → any (l.kind-index * l.k) (likes l.k l.list f l.a) ≡ false
