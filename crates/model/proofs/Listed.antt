-- The list of ready steps by places: how many it has, and which a choice picks; and the steps of a set, counted. Assumes nothing.
use mathlib.Core.Path.{◌≡◌, ap, ◌∙◌}
use Prim.Native.Nat.{ℕ, suc, ◌+◌, ◌-◌, ◌*◌, ◌%◌}
use lib.Arith.{digits_div, digits_mod}
use lib.ListN.{length, length-map}
use Rattle.laws.specs.Below.{naturals, sum, only, count, ascending, nth}
use Rattle.laws.proofs.Sums.{sum_cong, sum_digits}
use Rattle.laws.proofs.Ascending.{length-ascending, get_d_ascending, get_d_map}
use Rattle.model.specs.Job.{Job}
use Rattle.model.specs.Steps.{kind_of, Steps, step_at, places, at_place, list_of, has_step, permitted}
use Rattle.model.specs.Words.{StepsCounted}
use Rattle.model.specs.Run.{ready_steps, listed, ready_count, pick}
use Rattle.model.proofs.Marks as M
use Rattle.model.proofs.Machine.{size_of, size}
use Rattle.model.proofs.Counting.{steps_number}

-- The list of a set has as many steps as there are places of them.
pub list_length : (k : ℕ) (d : Steps) → length (list_of k d) ≡ count (places k) (at_place k d)
unfolding list_of
list_length k d = length-map (ascending (places k) (at_place k d)) (step_at k) ∙ length-ascending (places k) (at_place k d)

module _ (j : Job) (d : Steps) where
  pub ready_count_lem : ready_count j d ≡ count (places j.boxes) (listed j d)
  unfolding ready_count ready_steps listed
  ready_count_lem = list_length j.boxes (permitted j d)

  -- A choice picks the step whose place has as many ready ones below it as the choice says.
  pub pick_is : (c : ℕ) → pick j d c ≡ step_at j.boxes (nth (places j.boxes) (listed j d) (c % ready_count j d))
  unfolding pick ready_steps list_of listed
  pick_is c =
      get_d_map (step_at j.boxes) (ascending (places j.boxes) (listed j d)) (c % ready_count j d) 0
      ∙ ap (step_at j.boxes) (get_d_ascending (places j.boxes) (listed j d) (c % ready_count j d))

-- The places of one kind are K rows of K.
module _ (j : Job) (d : Steps) where
  kind_places : (n : ℕ) → sum naturals j.boxes (λ a. sum naturals j.boxes (λ b. only naturals (at_place j.boxes d ((n * j.boxes + a) * j.boxes + b)) 1)) ≡ size_of j d (kind_of (suc n))
  unfolding step_at M.size_of count
  kind_places n =
      sum_cong naturals j.boxes _ _ (λ a la. sum_cong naturals j.boxes _ _ (λ b lb.
      rw (digits_div (n * j.boxes + a) lb, digits_mod (n * j.boxes + a) lb, digits_div n la, digits_mod n la)))

  -- A set has as many steps as its list.
  pub list_size : length (list_of j.boxes d) ≡ size j d
  unfolding count M.size
  list_size =
      list_length j.boxes d
      ∙ sum_digits naturals (6 * j.boxes) j.boxes (λ i. only naturals (at_place j.boxes d i) 1)
      ∙ sum_digits naturals 6 j.boxes (λ r. sum naturals j.boxes (λ b. only naturals (at_place j.boxes d (r * j.boxes + b)) 1))
      ∙ sum_cong naturals 6 _ (λ n. size_of j d (kind_of (suc n))) (λ n l. kind_places n)

-- The steps the job has are 2 × K + 2 × (messages).
pub steps_counted_lem : (j : Job) → StepsCounted j
unfolding StepsCounted
steps_counted_lem j = list_size j (has_step j) ∙ steps_number j
