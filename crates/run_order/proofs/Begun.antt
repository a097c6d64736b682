-- Where an order begins: no step is marked, and the whole order is the run. Assumes nothing.
use mathlib.Core.Path.{◌≡◌, sym, ap, ◌∙◌, subst}
use mathlib.Core.Bool.{Bool, ◌&&◌}
use mathlib.Core.List.{List}
use Prim.Native.Nat.{ℕ, ◌*◌, ◌≤◌}
use lib.Dec.{ltb}
use lib.ListN.{length}
use Rattle.laws.specs.Tables.{overwrite}
use Rattle.laws.proofs.Bools.{and_false}
use Rattle.model.specs.Job.{Job}
use Rattle.model.specs.Steps.{Steps, fresh}
use Rattle.model.specs.Tables.{steps_done, marks_of}
use Rattle.model.specs.Words.{step_count}
use Rattle.model.specs.Run.{run}
use Rattle.step_places.specs.Order.{steps_in, no_steps, picks_from, steps_left}
use Rattle.run_order.specs.Order.{whole_order, OfJob, MarksFrom, Picked}
use Rattle.model.proofs.Tables.{marks_back}
use Rattle.step_places.proofs.Left.{picks_from_lem}
use Rattle.run_order.proofs.SoFar.{so_far_picked, none_so_far}

-- Marks that are all 0 say that no step is done.
module _ (k : ℕ) (done done' : List ℕ) (e : done' ≡ overwrite (6 * k * k) (λ i. 0) done) where
  none_marked : steps_done k (marks_of k no_steps done) ≡ no_steps
  none_marked = λ i q a b. (marks_back k no_steps done q a b ∙ ap (λ (x : Bool). ltb a k && x) (and_false (ltb b k)) ∙ and_false (ltb a k)) i

  pub zero_steps : steps_done k done' ≡ no_steps
  unfolding marks_of
  zero_steps = ap (steps_done k) e ∙ none_marked

  pub zero_from : MarksFrom k done done'
  unfolding MarksFrom marks_of
  zero_from = e ∙ ap (λ (d : Steps). marks_of k d done) (sym zero_steps)

  -- Of a job of k boxes too.
  pub zero_steps_of : (receivers : List ℕ) (waits : List (List ℕ)) (j : Job) → OfJob k receivers waits j → steps_done j.boxes done' ≡ no_steps
  zero_steps_of receivers waits j o = subst (λ (n : ℕ). steps_done n done' ≡ no_steps) (sym o.boxes_are) zero_steps

module _ (j : Job) (done order cs : List ℕ) (e : steps_done j.boxes done ≡ no_steps) where
  pub whole_run : whole_order j done order 0 cs ≡ run j cs
  unfolding whole_order steps_in steps_left run fresh
  whole_run = ap (λ (d : Steps). picks_from j (step_count j) d cs) e ∙ sym (picks_from_lem j (step_count j) (fresh j) cs)

  pub none_picked : length order ≡ 1536 → length (run j cs) ≤ 1536 → Picked j done order 0 cs
  none_picked l few = so_far_picked j done order 0 cs (none_so_far j done order e l) (rw whole_run few)
