-- The list of ready steps told from the words of receivers and waits and the marks of steps done.
use Rattle.std.specs.Prelude.{Bool, List, ℕ, suc, ◌*◌, ◌/◌, ◌%◌, ◌≤◌, length}
use Rattle.model.specs.Steps.{kind_of}
use Rattle.model.specs.Tables.{steps_done}
use Rattle.step_rules.specs.Rules.{permitted_by}
use Rattle.run_ready.specs.declared.Rules.{Rules}

-- The step of place i is in the list of ready steps, those done left out.
unfoldable pub listed_by : ℕ → List ℕ → List (List ℕ) → List ℕ → ℕ → Bool
listed_by k receivers waits done i = permitted_by receivers waits (steps_done k done) (kind_of (suc (i / k / k))) (i / k % k) (i % k)

-- The same by the rules of a job.
abbrev pub listed_of : Rules → List ℕ → ℕ → Bool
listed_of r done = listed_by r.boxes r.receivers.now r.waits.now done

-- What the walk requires: 1 to 16 boxes, and marks as many as they need.
pub record WalkIn (k : ℕ) (done : List ℕ) : Type 0 where
  pub some : 1 ≤ k
  pub boxes_in : k ≤ 16
  pub done_long : 6 * k * k ≤ length done
