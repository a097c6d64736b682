-- A walk over the places: where it is. Assumes nothing.
use mathlib.Core.Path.{◌≡◌, ap, ◌∙◌}
use Prim.Native.Nat.{ℕ, ◌+◌, ◌*◌, ◌≤◌, ◌<◌}
use native.Mathlib.Omega.{arith}
use native.Mathlib.Nat.{zero-mul, add-zero}
use Rattle.step_places.specs.Places.{PlaceIn, Next, here}
use Rattle.step_places.proofs.Places.{place_in}

-- The walk is at place i.
pub record At (k i kind a b : ℕ) : Type 0 where
  pub kind_from : 1 ≤ kind
  pub a_in : a < k
  pub b_in : b < k
  pub place_is : here k kind a b ≡ i

-- It begins at place 0,
pub at_first : (k : ℕ) → 1 ≤ k → At k 0 1 0 0
at_first k h = record { kind_from = omega arith; a_in = h; b_in = h; place_is = simp (zero-mul, add-zero) }

-- goes on by one,
pub at_next : (k i kind a b kind' a' b' : ℕ) → At k i kind a b → Next k kind a b kind' a' b' → At k (i + 1) kind' a' b'
at_next k i kind a b kind' a' b' w n = record {
  kind_from = n.kind_from;
  a_in = n.a_in;
  b_in = n.b_in;
  place_is = n.next_is ∙ ap (λ (x : ℕ). x + 1) w.place_is;
}

-- and is at a step of the job's boxes while places are left.
pub at_in : (k i kind a b : ℕ) → k ≤ 16 → At k i kind a b → i < 6 * k * k → PlaceIn k kind a b
at_in k i kind a b lk w l = place_in k kind a b w.a_in w.b_in lk w.kind_from (rw w.place_is l)
