-- Rounds of a trial, one after the other, until no step is ready. Assumes nothing.
use mathlib.Core.Path.{◌≡◌, refl, sym, ap, ap₂, ◌∙◌}
use mathlib.Core.Bool.{true, false}
use mathlib.Core.List.{List, [], ◌∷◌, ◌++◌, append-nil, append_assoc}
use Prim.Native.Nat.{ℕ, zero, suc, ◌+◌, ◌-◌, ◌≤◌, ◌<◌}
use native.Mathlib.Omega.{arith}
use lib.Dec.{eqb}
use lib.ListN.{length, length-append}
use Rattle.model.specs.Job.{Job}
use Rattle.model.specs.Steps.{Steps, Step}
use Rattle.model.specs.Words.{step_count}
use Rattle.model.specs.Tables.{steps_done}
use Rattle.model.specs.Run.{ready_count, pick}
use Rattle.step_places.specs.Order.{steps_in, mark_all, no_steps}
use Rattle.run_order.specs.Order.{SoFar}
use Rattle.trial_rules.specs.Rounds.{is_preference, round, taken_steps}
use Rattle.trial_rounds.specs.Taken.{RoundPart, rounds_from, rounds_of, rounds_left, AfterRounds, AllRounds}
use Rattle.model.proofs.Counting.{steps_number}
use Rattle.model.proofs.Run.{picked}
use Rattle.step_places.proofs.Orders.{steps_length}
use Rattle.trial_rules.proofs.Rounds.{every_kind, some_ready, round_some}
use Rattle.trial_rounds.proofs.Marks.{mark_append, size_room}

-- One round more, and none.
from_next : (j : Job) (list : List ℕ) (n : ℕ) (d : Steps) → eqb (ready_count j d) 0 ≡ false →
    rounds_from j list (suc n) d ≡ round j list d j.boxes ∷ rounds_from j list n (mark_all d (round j list d j.boxes))
unfolding rounds_from
from_next j list n d e = rw e

from_none : (j : Job) (list : List ℕ) (n : ℕ) (d : Steps) → eqb (ready_count j d) 0 ≡ true → rounds_from j list n d ≡ []
unfolding rounds_from
from_none j list zero d e = refl
from_none j list (suc n) d e = rw e

-- A trial begins.
pub rounds_begin : (j : Job) (list done order : List ℕ) → steps_done j.boxes done ≡ no_steps → SoFar j done order 0 → AfterRounds j list done order 0 0
unfolding rounds_left rounds_of steps_in
rounds_begin j list done order e p =
    let left : rounds_from j list (step_count j - 0) (steps_done j.boxes done) ≡ rounds_from j list (step_count j) no_steps = ap₂ (rounds_from j list) (omega arith) e in
    record { so_far = p; steps = ap taken_steps left; rounds = rw left (omega arith); slow = omega arith }

-- After r rounds some step is ready: one round more.
module _ (j : Job) (list done order : List ℕ) (n r : ℕ) (is_list : is_preference list ≡ true) (p : AfterRounds j list done order n r) (some : eqb (ready_count j (steps_done j.boxes done)) 0 ≡ false) where
  abbrev d : Steps
  d = steps_done j.boxes done

  -- There is room for it: no more rounds than steps are done, and fewer steps than the job has.
  pub more_steps : n + 1 ≤ step_count j
  more_steps = omega (arith, size_room j done order n p.so_far (pick j d 0) (picked j d 0 some), steps_number j)

  left_is : rounds_left j list r done ≡ round j list d j.boxes ∷ rounds_from j list (step_count j - (r + 1)) (mark_all d (round j list d j.boxes))
  unfolding rounds_left
  left_is =
      let e : step_count j - r ≡ suc (step_count j - (r + 1)) = omega (arith, more_steps, p.slow) in
      ap (λ (m : ℕ). rounds_from j list m d) e ∙ from_next j list (step_count j - (r + 1)) d some

  -- It has a step.
  has_step_lem : 1 ≤ length (round j list d j.boxes)
  has_step_lem =
      let (a, l, e) = some_ready j list d (every_kind list is_list) some in
      round_some j list d j.boxes a l e

  module _ (done' order' : List ℕ) (n' : ℕ) (q : RoundPart j list done order n j.boxes done' order' n') where
    marks_now : steps_done j.boxes done' ≡ mark_all d (round j list d j.boxes)
    marks_now =
        q.so_far.marks_are
        ∙ ap (mark_all no_steps) q.steps
        ∙ mark_append no_steps (steps_in j.boxes n order) (round j list d j.boxes)
        ∙ ap (λ (u : Steps). mark_all u (round j list d j.boxes)) (sym p.so_far.marks_are)

    left_now : rounds_left j list r done ≡ round j list d j.boxes ∷ rounds_left j list (r + 1) done'
    unfolding rounds_left
    left_now = left_is ∙ ap (λ (u : Steps). round j list d j.boxes ∷ rounds_from j list (step_count j - (r + 1)) u) (sym marks_now)

    -- The order has grown by the steps of the round.
    grown : n' ≡ n + length (round j list d j.boxes)
    grown =
        sym (steps_length j.boxes n' order' (rw q.so_far.long q.so_far.in_order))
        ∙ ap length q.steps
        ∙ length-append (steps_in j.boxes n order) (round j list d j.boxes)
        ∙ ap (λ (m : ℕ). m + length (round j list d j.boxes)) (steps_length j.boxes n order (rw p.so_far.long p.so_far.in_order))

    pub grows : n < n'
    grows = omega (arith, grown, has_step_lem)

    pub rounds_more : AfterRounds j list done' order' n' (r + 1)
    unfolding taken_steps
    rounds_more = record {
      so_far = q.so_far;
      steps =
          ap (λ (xs : List Step). xs ++ taken_steps (rounds_left j list (r + 1) done')) q.steps
          ∙ append_assoc (steps_in j.boxes n order) (round j list d j.boxes) (taken_steps (rounds_left j list (r + 1) done'))
          ∙ ap (λ (rs : List (List Step)). steps_in j.boxes n order ++ taken_steps rs) (sym left_now)
          ∙ p.steps;
      rounds = omega (arith, p.rounds, ap length left_now);
      slow = omega (arith, p.slow, grows);
    }

-- None is ready any more: these are all rounds.
pub rounds_end : (j : Job) (list done order : List ℕ) (n r : ℕ) → AfterRounds j list done order n r → eqb (ready_count j (steps_done j.boxes done)) 0 ≡ true → AllRounds j list done order n r
unfolding rounds_left taken_steps
rounds_end j list done order n r p e =
    let left : rounds_left j list r done ≡ [] = from_none j list (step_count j - r) (steps_done j.boxes done) e in
    record {
      so_far = p.so_far;
      steps_are = sym (append-nil (steps_in j.boxes n order)) ∙ ap (λ (rs : List (List Step)). steps_in j.boxes n order ++ taken_steps rs) (sym left) ∙ p.steps;
      rounds_are = omega (arith, p.rounds, ap length left);
    }
