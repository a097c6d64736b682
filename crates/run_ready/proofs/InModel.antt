-- With the words of receivers and waits of a job the list of ready steps is the model's. Assumes nothing.
use mathlib.Core.Path.{◌≡◌, sym, ap, ◌∙◌}
use mathlib.Core.List.{List}
use Prim.Native.Nat.{ℕ, suc, ◌-◌, ◌*◌, ◌/◌, ◌%◌, ◌≤◌}
use native.Mathlib.Omega.{arith}
use native.Mathlib.Nat.{mod-lt}
use Rattle.laws.specs.Below.{count, nth}
use Rattle.laws.proofs.Below.{count_cong}
use Rattle.laws.proofs.Ascending.{nth_cong}
use Rattle.model.specs.Job.{Job}
use Rattle.model.specs.Steps.{Steps, kind_of, step_at, places}
use Rattle.model.specs.Tables.{steps_done}
use Rattle.model.specs.Run.{listed, ready_count}
use Rattle.step_places.specs.Places.{PlaceIn, here}
use Rattle.run_ready.specs.Walk.{listed_by}
use Rattle.step_rules.specs.Rules.{permitted_by, ReceiversOf, WaitsOf}
use Rattle.model.proofs.Listed.{ready_count_lem}
use Rattle.step_rules.proofs.InModel.{permitted_is}
use Rattle.step_places.proofs.Places.{kind_of_lem, first_of, second_of}

-- The test of a step is the test of its place.
pub listed_at : (k kind a b : ℕ) (receivers : List ℕ) (waits : List (List ℕ)) (done : List ℕ) → PlaceIn k kind a b →
    permitted_by receivers waits (steps_done k done) (kind_of kind) a b ≡ listed_by k receivers waits done (here k kind a b)
unfolding listed_by
listed_at k kind a b receivers waits done p =
    rw (kind_of_lem k kind a b p.a_in p.b_in, first_of k kind a b p.a_in p.b_in, second_of k kind a b p.a_in p.b_in)
    (ap (λ (n : ℕ). permitted_by receivers waits (steps_done k done) (kind_of n) a b) (up kind p.kind_from))
  where
    up : (n : ℕ) → 1 ≤ n → n ≡ suc (n - 1)
    up n h = omega arith

module _ (j : Job) (receivers : List ℕ) (waits : List (List ℕ)) (hr : ReceiversOf j receivers) (hw : WaitsOf j waits) (some : 1 ≤ j.boxes) (done : List ℕ) where
  -- The steps that the marks say are done.
  abbrev marked : Steps
  marked = steps_done j.boxes done

  pub listed_is : (i : ℕ) → listed_by j.boxes receivers waits done i ≡ listed j marked i
  unfolding listed_by listed step_at
  listed_is i =
      permitted_is j receivers waits hr hw (kind_of (suc (i / j.boxes / j.boxes))) marked (i / j.boxes % j.boxes) (i % j.boxes) (mod-lt (i / j.boxes) some) (mod-lt i some)

  pub count_is : count (6 * j.boxes * j.boxes) (listed_by j.boxes receivers waits done) ≡ ready_count j marked
  count_is = count_cong (6 * j.boxes * j.boxes) _ _ (λ i l. listed_is i) ∙ sym (ready_count_lem j marked)

  pub nth_is_model : (c : ℕ) → nth (6 * j.boxes * j.boxes) (listed_by j.boxes receivers waits done) c ≡ nth (places j.boxes) (listed j marked) c
  nth_is_model c = nth_cong (6 * j.boxes * j.boxes) _ _ c (λ i l. listed_is i)
