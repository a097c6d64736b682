-- A step is put into the order and marked: what is kept. Assumes nothing.
use mathlib.Core.Path.{◌≡◌, refl, sym, ap, ap₂, ◌∙◌, subst}
use mathlib.Core.Bool.{true, false}
use mathlib.Core.List.{List, [], ◌∷◌, ◌++◌, append-nil, append_assoc}
use Prim.Native.Nat.{ℕ, suc, ◌+◌, ◌*◌, ◌<◌}
use native.Mathlib.Omega.{arith}
use lib.Dec.{eqb}
use lib.ListN.{length, get_or, set, drop, length-append}
use lib.Seq.{drop-length}
use Rattle.model.specs.Job.{Job}
use Rattle.model.specs.Steps.{Steps, Step, step_at, places}
use Rattle.model.specs.Tables.{steps_done}
use Rattle.model.specs.Run.{ready_count, pick}
use Rattle.step_places.specs.Order.{steps_in, steps_left, NoneBefore}
use Rattle.run_order.specs.Order.{whole_order, Picked, Kept, Ended}
use Rattle.step_places.proofs.Orders.{steps_length}
use Rattle.step_places.proofs.Left.{and_step, Open, left_next, left_none, none_at_all}
use Rattle.run_order.proofs.SoFar.{picked_so_far, so_far_picked, steps_more, put_so_far}

module _ (j : Job) (done order : List ℕ) (n : ℕ) (cs : List ℕ) (p : Picked j done order n cs) where
  -- The steps done, and the order so far.
  abbrev d : Steps
  d = steps_done j.boxes done

  abbrev xs : List Step
  xs = steps_in j.boxes n order

  pub kept_none : Kept j done order n cs done order n cs
  kept_none = record { picked = p; same = refl }

  -- The step of place i is the next one that is picked.
  module _ (some : eqb (ready_count j d) 0 ≡ false) (i : ℕ) (e : pick j d (get_or cs 0 0) ≡ step_at j.boxes i) where
    abbrev x : Step
    x = step_at j.boxes i

    left_is : steps_left j d cs ≡ x ∷ steps_left j (and_step d x) (drop 1 cs)
    left_is = rw e at (left_next j d cs p.closed some)

    -- There is room for it.
    pub room : n < 1536
    unfolding whole_order
    room =
        let l : length (xs ++ steps_left j d cs) ≡ n + suc (length (steps_left j (and_step d x) (drop 1 cs))) =
        length-append xs (steps_left j d cs) ∙ ap₂ ◌+◌ (steps_length j.boxes n order (rw p.long p.in_order)) (ap length left_is) in
        omega (arith, l, p.few)

    module _ (li : i < 6 * j.boxes * j.boxes) (h : Open j d x) (done' : List ℕ) (ed : steps_done j.boxes done' ≡ and_step d x) (order' : List ℕ) (eo : order' ≡ set order n i) where
      steps_are : steps_in j.boxes (n + 1) order' ≡ xs ++ (x ∷ [])
      steps_are = steps_more j done order n (picked_so_far j done order n cs p) room i li h done' ed order' eo

      same_whole : whole_order j done' order' (n + 1) (drop 1 cs) ≡ whole_order j done order n cs
      unfolding whole_order
      same_whole =
          rw (steps_are, ed)
          (append_assoc xs (x ∷ []) (steps_left j (and_step d x) (drop 1 cs)) ∙ ap (λ (l : List Step). xs ++ l) (sym left_is))

      pub put_kept : Kept j done order n cs done' order' (n + 1) (drop 1 cs)
      put_kept = record {
        picked = so_far_picked j done' order' (n + 1) (drop 1 cs) (put_so_far j done order n (picked_so_far j done order n cs p) room i li h done' ed order' eo) (rw same_whole p.few);
        same = same_whole;
      }

  -- No step is ready any more: choices that are left are passed over,
  pub none_left : eqb (ready_count j d) 0 ≡ true → whole_order j done order n cs ≡ xs
  unfolding whole_order
  none_left e = rw (left_none j d cs e) (append-nil xs)

-- Two parts of the picking, one after the other.
pub kept_both : (j : Job) (done order : List ℕ) (n : ℕ) (cs done' order' : List ℕ) (n' : ℕ) (cs' done'' order'' : List ℕ) (n'' : ℕ) (cs'' : List ℕ) →
    Kept j done order n cs done' order' n' cs' → Kept j done' order' n' cs' done'' order'' n'' cs'' → Kept j done order n cs done'' order'' n'' cs''
kept_both j done order n cs done' order' n' cs' done'' order'' n'' cs'' p q = record { picked = q.picked; same = q.same ∙ p.same }

-- Where none is ready other choices change nothing.
pub kept_over : (j : Job) (done order : List ℕ) (n : ℕ) (cs done' order' : List ℕ) (n' : ℕ) (cs' cs'' : List ℕ) → Kept j done order n cs done' order' n' cs' →
    eqb (ready_count j (steps_done j.boxes done')) 0 ≡ true → Kept j done order n cs done' order' n' cs''
unfolding whole_order
kept_over j done order n cs done' order' n' cs' cs'' k e =
    let d = steps_done j.boxes done' in
    let l : whole_order j done' order' n' cs'' ≡ whole_order j done' order' n' cs' =
    ap (λ (l : List Step). steps_in j.boxes n' order' ++ l) (left_none j d cs'' e ∙ sym (left_none j d cs' e)) in
    record {
      picked = so_far_picked j done' order' n' cs'' (picked_so_far j done' order' n' cs' k.picked) (rw l k.picked.few);
      same = l ∙ k.same;
    }

-- The picking ends where no place has a ready step.
pub kept_ends : (j : Job) (done order : List ℕ) (n : ℕ) (cs done' order' : List ℕ) (n' : ℕ) → Kept j done order n cs done' order' n' [] →
    NoneBefore j (steps_done j.boxes done') (places j.boxes) → Ended j done order n cs done' order' n'
kept_ends j done order n cs done' order' n' k none = record {
  picked = k.picked;
  ends = sym (none_left j done' order' n' [] k.picked (none_at_all j (steps_done j.boxes done') none)) ∙ k.same;
}

-- All choices are used.
pub kept_last : (j : Job) (done order : List ℕ) (n : ℕ) (cs done' order' : List ℕ) (i m : ℕ) → Kept j done order n cs done' order' i (drop i cs) → i ≡ m → m ≡ length cs →
    Kept j done order n cs done' order' m []
kept_last j done order n cs done' order' i m k e l =
    subst (λ (x : List ℕ). Kept j done order n cs done' order' m x) (ap (λ (x : ℕ). drop x cs) l ∙ drop-length cs)
    (subst (λ (x : ℕ). Kept j done order n cs done' order' x (drop x cs)) e k)
