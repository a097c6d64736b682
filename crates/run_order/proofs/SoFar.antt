-- An order so far: where it begins, one step more, and what it has to do with an order that is picked. Assumes nothing.
use mathlib.Core.Path.{◌≡◌, refl, sym, ap, ◌∙◌}
use mathlib.Core.Bool.{true}
use mathlib.Core.List.{List, [], ◌∷◌, ◌++◌}
use Prim.Native.Nat.{ℕ, ◌+◌, ◌*◌, ◌≤◌, ◌<◌}
use native.Mathlib.Omega.{arith}
use lib.Dec.{eqb, ltb}
use lib.ListN.{length, get_or, set, length-set}
use lib.Seq.{get_or-set_same, get_or-set_other}
use borrow.Author.Tests.{eqb-true, eqb-false, lt-ltb}
use Rattle.laws.specs.Below.{all}
use Rattle.laws.proofs.Bools.{split}
use Rattle.laws.proofs.Below.{all_of_lem, all_at}
use Rattle.model.specs.Job.{Job}
use Rattle.model.specs.Steps.{Steps, step_at}
use Rattle.model.specs.Tables.{steps_done}
use Rattle.model.specs.Ranges.{under}
use Rattle.step_places.specs.Order.{steps_in, mark_all, no_steps, permitted_at}
use Rattle.run_order.specs.Order.{whole_order, SoFar, Picked}
use Rattle.model.proofs.Reach.{closed_none}
use Rattle.step_places.proofs.Orders.{mark_snoc, steps_before_lem, steps_put}
use Rattle.step_places.proofs.Left.{and_step, Open, with_closed}

under_next : (m n i : ℕ) (order : List ℕ) → n < length order → i < m → under m n order ≡ true → under m (n + 1) (set order n i) ≡ true
unfolding under
under_next m n i order l lt h = all_of_lem (n + 1) (λ x. ltb (get_or (set order n i) x 0) m) each
  where
    each : (x : ℕ) → x < n + 1 → ltb (get_or (set order n i) x 0) m ≡ true
    each x lx =
        split (eqb x n)
        (λ e. rw (eqb-true x n e, get_or-set_same order n i 0 l) (lt-ltb i m lt))
        (λ e. let ne : x ≡ n → ⊥ = eqb-false x n e in rw (get_or-set_other order n x i 0 ne) (all_at n (λ x. ltb (get_or order x 0) m) x (omega arith) h))

-- An order that is picked is one so far;
pub picked_so_far : (j : Job) (done order : List ℕ) (n : ℕ) (cs : List ℕ) → Picked j done order n cs → SoFar j done order n
picked_so_far j done order n cs p = record {
  closed = p.closed;
  marks_are = p.marks_are;
  places_in = p.places_in;
  in_turn_lem = p.in_turn_lem;
  long = p.long;
  in_order = p.in_order;
}

-- and one so far is picked where there is room for the whole order.
pub so_far_picked : (j : Job) (done order : List ℕ) (n : ℕ) (cs : List ℕ) → SoFar j done order n → length (whole_order j done order n cs) ≤ 1536 → Picked j done order n cs
so_far_picked j done order n cs p few = record {
  closed = p.closed;
  marks_are = p.marks_are;
  places_in = p.places_in;
  in_turn_lem = p.in_turn_lem;
  long = p.long;
  in_order = p.in_order;
  few = few;
}

-- It begins where no step is marked.
pub none_so_far : (j : Job) (done order : List ℕ) → steps_done j.boxes done ≡ no_steps → length order ≡ 1536 → SoFar j done order 0
unfolding steps_in mark_all under all
none_so_far j done order e l = record {
  closed = rw e (closed_none j);
  marks_are = e;
  places_in = refl;
  in_turn_lem = λ i h. absurd (omega arith);
  long = l;
  in_order = omega arith;
}

-- One step more: the step of place i, which is permitted, is word n of the order.
module _ (j : Job) (done order : List ℕ) (n : ℕ) (p : SoFar j done order n) (room : n < 1536) (i : ℕ) (li : i < 6 * j.boxes * j.boxes)
    (h : Open j (steps_done j.boxes done) (step_at j.boxes i)) (done' : List ℕ) (ed : steps_done j.boxes done' ≡ and_step (steps_done j.boxes done) (step_at j.boxes i))
    (order' : List ℕ) (eo : order' ≡ set order n i) where
  fits : n < length order
  fits = rw p.long room

  pub steps_more : steps_in j.boxes (n + 1) order' ≡ steps_in j.boxes n order ++ (step_at j.boxes i ∷ [])
  steps_more = rw eo (steps_put j.boxes n i order fits)

  -- Each step is permitted in its turn, the new one too.
  turn_next : (y : ℕ) → y < n + 1 → permitted_at j (mark_all no_steps (steps_in j.boxes y (set order n i))) (get_or (set order n i) y 0) ≡ true
  turn_next y l =
      rw (steps_before_lem j.boxes y n i order (omega arith))
      (split (eqb y n)
      (λ e. rw (eqb-true y n e, get_or-set_same order n i 0 fits, ← p.marks_are) h)
      (λ e. let ne : y ≡ n → ⊥ = eqb-false y n e in rw (get_or-set_other order n y i 0 ne) (p.in_turn_lem y (omega arith))))

  pub put_so_far : SoFar j done' order' (n + 1)
  put_so_far = record {
    closed = rw ed (with_closed j (steps_done j.boxes done) (step_at j.boxes i) p.closed h);
    marks_are = ed ∙ ap (λ (u : Steps). and_step u (step_at j.boxes i)) p.marks_are ∙ sym (mark_snoc no_steps (steps_in j.boxes n order) (step_at j.boxes i)) ∙ ap (mark_all no_steps) (sym steps_more);
    places_in = rw eo (under_next (6 * j.boxes * j.boxes) n i order fits li p.places_in);
    in_turn_lem = λ y l. rw eo (turn_next y l);
    long = rw (eo, length-set order n i) p.long;
    in_order = omega (arith, room);
  }
