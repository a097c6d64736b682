-- The marks of a round, and how many steps an order has. Assumes nothing.
use mathlib.Core.Path.{◌≡◌, refl, sym, ap, ◌∙◌}
use mathlib.Core.Bool.{true, false}
use mathlib.Core.List.{List, [], ◌∷◌, ◌++◌, append-nil}
use Prim.Native.Nat.{ℕ, zero, suc, ◌+◌, ◌≤◌, ◌<◌}
use native.Mathlib.Omega.{arith}
use native.Mathlib.Numerals.{add-one}
use lib.ListN.{get_or}
use borrow.Author.Tests.{ne_eqb}
use Rattle.laws.proofs.Bools.{split, and_false}
use Rattle.model.specs.Job.{Job}
use Rattle.model.specs.Steps.{Kind, Steps, Step, mark, step_at, has_step}
use Rattle.model.specs.Tables.{steps_done}
use Rattle.step_places.specs.Order.{steps_in, mark_all, no_steps}
use Rattle.run_order.specs.Order.{SoFar}
use Rattle.trial_rules.specs.Rounds.{acts, choice, round}
use Rattle.model.proofs.Core.{first<, second<, permit}
use Rattle.model.proofs.Counting.{size_mark, size_none, size_le, steps_number}
use Rattle.model.proofs.Machine.{size}
use Rattle.model.proofs.Reach.{mark_more}
use Rattle.step_places.proofs.Left.{and_step, Open, with_closed}
use Rattle.step_places.proofs.Orders.{mark_snoc, steps_next}
use Rattle.run_order.proofs.Few.{steps_few}
use Rattle.trial_rules.proofs.Rounds.{first_is}

-- Steps marked, and more of them.
pub mark_append : (d : Steps) (xs ys : List Step) → mark_all d (xs ++ ys) ≡ mark_all (mark_all d xs) ys
unfolding mark_all
mark_append d [] ys = refl
mark_append d (x ∷ xs) ys = mark_append (and_step d x) xs ys

-- A round of the first n boxes, one box more.
module _ (j : Job) (list : List ℕ) (d : Steps) where
  next_yes : (n : ℕ) → acts j list d n ≡ true → round j list d (suc n) ≡ round j list d n ++ (choice j list d n ∷ [])
  unfolding round
  next_yes n e = rw e

  next_no : (n : ℕ) → acts j list d n ≡ false → round j list d (suc n) ≡ round j list d n
  unfolding round
  next_no n e = rw e (append-nil (round j list d n))

  pub round_yes : (n : ℕ) → acts j list d n ≡ true → round j list d (n + 1) ≡ round j list d n ++ (choice j list d n ∷ [])
  round_yes n e = rw (add-one n) (next_yes n e)

  pub round_no : (n : ℕ) → acts j list d n ≡ false → round j list d (n + 1) ≡ round j list d n
  round_no n e = rw (add-one n) (next_no n e)

  -- The marks after the turns of the first n boxes.
  abbrev after : ℕ → Steps
  after n = mark_all d (round j list d n)

  after_none : after 0 ≡ d
  unfolding round mark_all
  after_none = refl

  after_yes : (n : ℕ) → acts j list d n ≡ true → after (suc n) ≡ and_step (after n) (choice j list d n)
  after_yes n e = ap (mark_all d) (next_yes n e) ∙ mark_snoc d (round j list d n) (choice j list d n)

  -- A step of one box is no step of another.
  other : (u : Steps) (x : Step) (k : Kind) (a b : ℕ) → (a ≡ x.first → ⊥) → and_step u x k a b ≡ u k a b
  unfolding mark
  other u x k a b ne = simp (ne_eqb a x.first ne, and_false)

  -- Boxes that have not had their turn have done what they had done,
  pub later : (n : ℕ) (k : Kind) (a b : ℕ) → n ≤ a → after n k a b ≡ d k a b
  later zero k a b l = ap (λ (u : Steps). u k a b) after_none
  later (suc n) k a b l =
      split (acts j list d n)
      (λ e. ap (λ (u : Steps). u k a b) (after_yes n e) ∙ other (after n) (choice j list d n) k a b (λ q. let f : (choice j list d n).first ≡ n = first_is j list d n in omega arith) ∙ later n k a b (omega arith))
      (λ e. ap (λ (xs : List Step). mark_all d xs k a b) (next_no n e) ∙ later n k a b (omega arith))

  -- and what was done stays done.
  pub more : (n : ℕ) (k : Kind) (a b : ℕ) → d k a b ≡ true → after n k a b ≡ true
  more zero k a b h = ap (λ (u : Steps). u k a b) after_none ∙ h
  more (suc n) k a b h =
      split (acts j list d n)
      (λ e. ap (λ (u : Steps). u k a b) (after_yes n e) ∙ mark_more (after n) (choice j list d n).kind (choice j list d n).first (choice j list d n).second k a b (more n k a b h))
      (λ e. ap (λ (xs : List Step). mark_all d xs k a b) (next_no n e) ∙ more n k a b h)

-- As many steps are marked as the order has.
module _ (j : Job) (done order : List ℕ) (n : ℕ) (p : SoFar j done order n) where
  sizes : (i : ℕ) → i ≤ n → size j (mark_all no_steps (steps_in j.boxes i order)) ≡ i
  unfolding steps_in mark_all
  sizes zero l = size_none j
  sizes (suc i) l =
      let x : Step = step_at j.boxes (get_or order i 0) in
      let q = permit j (mark_all no_steps (steps_in j.boxes i order)) x.kind x.first x.second (p.in_turn_lem i (omega arith)) in
      let e : steps_in j.boxes (suc i) order ≡ steps_in j.boxes i order ++ (x ∷ []) =
      ap (λ (m : ℕ). steps_in j.boxes m order) (sym (add-one i)) ∙ steps_next j.boxes i order (omega (arith, p.long, p.in_order)) in
      ap (λ (xs : List Step). size j (mark_all no_steps xs)) e
      ∙ ap (size j) (mark_snoc no_steps (steps_in j.boxes i order) x)
      ∙ size_mark j (mark_all no_steps (steps_in j.boxes i order)) x.kind x.first x.second q.fresh_one (first< j x.kind x.first x.second q.has) (second< j x.kind x.first x.second q.has)
      ∙ (ap (λ (m : ℕ). m + 1) (sizes i (omega arith)) ∙ add-one i)

  pub size_is : size j (steps_done j.boxes done) ≡ n
  size_is = ap (size j) p.marks_are ∙ sizes n (omega arith)

  -- Where a step is open, fewer are done than the job has: there is room for it.
  pub size_room : (x : Step) → Open j (steps_done j.boxes done) x → n + 1 ≤ size j (has_step j)
  size_room x h =
      let d = steps_done j.boxes done in
      let q = permit j d x.kind x.first x.second h in
      omega (
        arith,
        size_is,
        size_mark j d x.kind x.first x.second q.fresh_one (first< j x.kind x.first x.second q.has) (second< j x.kind x.first x.second q.has),
        size_le j (and_step d x) (has_step j) (with_closed j d x p.closed h).steps,
      )

  pub open_room : j.boxes ≤ 16 → (x : Step) → Open j (steps_done j.boxes done) x → n < 1536
  open_room l x h = omega (arith, size_room x h, steps_number j, steps_few j l)
