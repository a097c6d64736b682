-- The rounds of a trial are told from its marks, and are the same whatever price lists there are. Assumes nothing.
use mathlib.Core.Path.{◌≡◌, refl, ap, ◌∙◌}
use mathlib.Core.Bool.{cond}
use mathlib.Core.List.{List, [], ◌∷◌, ◌++◌}
use Prim.Native.Nat.{ℕ, zero, suc, ◌*◌, ◌/◌, ◌%◌}
use lib.Dec.{eqb}
use lib.ListN.{get_or, length}
use Rattle.laws.specs.Below.{any, find}
use Rattle.model.specs.Job.{Job}
use Rattle.model.specs.Steps.{Steps, Step, State, kind_of, list_of, fresh}
use Rattle.model.specs.Words.{step_count}
use Rattle.model.specs.PackedTotals.{spread}
use Rattle.model.specs.Tables.{JobTables, job_of, with_lists, evening_of}
use Rattle.model.specs.Run.{ready_steps, ready_count, after_steps}
use Rattle.step_places.specs.Order.{mark_all, no_steps}
use Rattle.trial_rules.specs.Rounds.{preferred, has_ready, acts, choice, round, rounds, trial}
use Rattle.trial_rounds.specs.Taken.{rounds_from, rounds_of}
use Rattle.model.proofs.PriceLists.{same_steps_lem}
use Rattle.run_steps.proofs.Turns.{after_marks}

-- Which rounds follow depends on the marks alone.
rounds_from_lem : (j : Job) (list : List ℕ) (n : ℕ) (s : State) → rounds j list n s ≡ rounds_from j list n s.done
unfolding rounds rounds_from
rounds_from_lem j list zero s = refl
rounds_from_lem j list (suc n) s =
    let r = round j list s.done j.boxes in
    ap (λ (rs : List (List Step)). cond (eqb (ready_count j s.done) 0) [] (r ∷ rs))
    (rounds_from_lem j list n (after_steps j s r) ∙ ap (rounds_from j list n) (after_marks j s r))

pub trial_from : (j : Job) (list : List ℕ) → trial j list ≡ rounds_of j list
unfolding trial rounds_of fresh
trial_from j list = rounds_from_lem j list (step_count j) (fresh j)

-- The evening's job, with all its price lists, and the job of the first: their steps are permitted alike.
module _ (f : JobTables) (list : List ℕ) where
  ready_same : (d : Steps) → ready_count (evening_of f) d ≡ ready_count (job_of f) d
  unfolding ready_count ready_steps with_lists spread job_of
  ready_same d = λ i. length (list_of f.boxes ((same_steps_lem f).permits i d))

  acts_same : (d : Steps) (a : ℕ) → acts (evening_of f) list d a ≡ acts (job_of f) list d a
  unfolding acts has_ready preferred with_lists spread job_of
  acts_same d a = λ i. any (6 * f.boxes) (λ x. (same_steps_lem f).permits i d (kind_of (get_or list (x / f.boxes) 0)) a (x % f.boxes))

  choice_same : (d : Steps) (a : ℕ) → choice (evening_of f) list d a ≡ choice (job_of f) list d a
  unfolding choice has_ready preferred with_lists spread job_of
  choice_same d a = λ i. preferred f.boxes list a (find (6 * f.boxes) (λ x. (same_steps_lem f).permits i d (kind_of (get_or list (x / f.boxes) 0)) a (x % f.boxes)))

  round_same : (d : Steps) (n : ℕ) → round (evening_of f) list d n ≡ round (job_of f) list d n
  unfolding round
  round_same d zero = refl
  round_same d (suc n) = λ i. round_same d n i ++ cond (acts_same d n i) (choice_same d n i ∷ []) []

  from_same : (n : ℕ) (d : Steps) → rounds_from (evening_of f) list n d ≡ rounds_from (job_of f) list n d
  unfolding rounds_from with_lists spread job_of
  from_same zero d = refl
  from_same (suc n) d =
      let r = round (job_of f) list d f.boxes in
      rw (round_same d f.boxes) (λ i. cond (eqb (ready_same d i) 0) [] (r ∷ from_same n (mark_all d r) i))

  -- The rounds of an evening are those of its job.
  pub evening_rounds : trial (evening_of f) list ≡ rounds_of (job_of f) list
  unfolding rounds_of
  evening_rounds = trial_from (evening_of f) list ∙ ap (λ (n : ℕ). rounds_from (evening_of f) list n no_steps) (same_steps_lem f).steps ∙ from_same (step_count (job_of f)) no_steps
