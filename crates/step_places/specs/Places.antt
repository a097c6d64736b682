-- Places among the steps.
use Rattle.std.specs.Prelude.{◌≡◌, ℕ, ◌+◌, ◌≤◌, ◌<◌}
use Rattle.model.specs.Steps.{step_place}

-- A step of k boxes: a kind from 1 to 6, and two of the boxes.
pub record PlaceIn (k kind a b : ℕ) : Type 0 where
  pub boxes_in : k ≤ 16
  pub kind_from : 1 ≤ kind
  pub kind_to : kind ≤ 6
  pub a_in : a < k
  pub b_in : b < k

-- The number of its place.
abbrev pub here : ℕ → ℕ → ℕ → ℕ → ℕ
here k kind a b = step_place k kind a b

-- The next place: its number is one more.
pub record Next (k kind a b kind' a' b' : ℕ) : Type 0 where
  pub kind_from : 1 ≤ kind'
  pub a_in : a' < k
  pub b_in : b' < k
  pub next_is : here k kind' a' b' ≡ here k kind a b + 1

-- The step of place i is the one of this kind and these boxes.
pub record Found (k i kind a b : ℕ) : Type 0 where
  pub place_in : PlaceIn k kind a b
  pub place_is : here k kind a b ≡ i
