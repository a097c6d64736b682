-- The marks of steps done, read and written.
use Rattle.std.specs.Prelude.{List, ℕ, ◌*◌, ◌≤◌, ◌<◌, length}
use Rattle.model.specs.Steps.{Kind, mark}
use Rattle.model.specs.Tables.{steps_done, marks_of}

-- What the calls on marks require: a kind from 1 to 6, k boxes in range, boxes a and b of them, and marks as many as k needs.
pub record MarksIn (k kind a b : ℕ) (done : List ℕ) : Type 0 where
  pub kind_from : 1 ≤ kind
  pub kind_to : kind ≤ 6
  pub boxes_in : k ≤ 16
  pub a_in : a < k
  pub b_in : b < k
  pub done_long : 6 * k * k ≤ length done

-- The marks with one step more.
unfoldable pub marked : ℕ → Kind → ℕ → ℕ → List ℕ → List ℕ
marked k q a b marks = marks_of k (mark (steps_done k marks) q a b) marks
