-- One step more of a run: what is left of it. Assumes nothing.
use mathlib.Core.Path.{◌≡◌, refl, sym, ap, ◌∙◌}
use mathlib.Core.Bool.{true, false}
use mathlib.Core.List.{List, [], ◌∷◌}
use Prim.Native.Nat.{ℕ, zero, suc, ◌+◌, ◌<◌, ◌≤◌}
use native.Mathlib.Omega.{arith}
use native.Mathlib.Nat.{zero-mod}
use lib.Dec.{eqb}
use lib.ListN.{get_or, drop}
use borrow.Author.Tests.{eqb-true, eqb-false, eq-eqb, ne_eqb}
use Rattle.laws.specs.Below.{any, nth}
use Rattle.laws.proofs.Bools.{split, clash, no_true}
use Rattle.laws.proofs.Below.{count_none, any_false, count_zero, any_find}
use Rattle.laws.proofs.Ascending.{nth_first}
use Rattle.model.specs.Job.{Job}
use Rattle.model.specs.Steps.{Kind, Steps, State, Step, mark, has_step, permitted, effect_of, step_at, places}
use Rattle.model.specs.Words.{step_count}
use Rattle.model.specs.Run.{listed, ready_count, pick, picks}
use Rattle.model.specs.Boxes.{Closed}
use Rattle.model.specs.Demand3.{AllDone}
use Rattle.step_places.specs.Order.{picks_from, steps_left, NoneBefore}
use Rattle.model.proofs.Machine.{size}
use Rattle.model.proofs.Core.{first<, second<, permit}
use Rattle.model.proofs.Reach.{effect_done, closed_mark}
use Rattle.model.proofs.Counting.{size_mark, size_le, all_of_size, steps_number}
use Rattle.model.proofs.Listed.{ready_count_lem, pick_is}
use Rattle.model.proofs.Run.{picked}
use Rattle.model.proofs.Cursor.{listed_kept, listed_done}

-- The set d with the step x.
abbrev pub and_step : Steps → Step → Steps
and_step d x = mark d x.kind x.first x.second

-- The step x is permitted where the steps of d are done.
abbrev pub Open : Job → Steps → Step → Type 0
Open j d x = permitted j d x.kind x.first x.second ≡ true

-- What a run picks from a state on is told from its marks.
pub picks_from_lem : (j : Job) (n : ℕ) (s : State) (cs : List ℕ) → picks j n s cs ≡ picks_from j n s.done cs
unfolding picks picks_from
picks_from_lem j zero s cs = refl
picks_from_lem j (suc n) s cs =
    let x = pick j s.done (get_or cs 0 0) in
    split (eqb (ready_count j s.done) 0)
    (λ e. rw e)
    (λ e. rw e (ap (λ (l : List Step). x ∷ l) (picks_from_lem j n (effect_of j s x) (drop 1 cs)
    ∙ ap (λ (d : Steps). picks_from j n d (drop 1 cs)) (effect_done j s x.kind x.first x.second))))

-- One step more, and none, where there is room.
picks_next : (j : Job) (n : ℕ) (d : Steps) (cs : List ℕ) → eqb (ready_count j d) 0 ≡ false →
    picks_from j (suc n) d cs ≡ pick j d (get_or cs 0 0) ∷ picks_from j n (and_step d (pick j d (get_or cs 0 0))) (drop 1 cs)
unfolding picks_from
picks_next j n d cs e = rw e

picks_none : (j : Job) (n : ℕ) (d : Steps) (cs : List ℕ) → eqb (ready_count j d) 0 ≡ true → picks_from j n d cs ≡ []
unfolding picks_from
picks_none j zero d cs e = refl
picks_none j (suc n) d cs e = rw e

module _ (j : Job) where
  -- No step is ready where all are done.
  all_none : (d : Steps) → AllDone j d → ready_count j d ≡ 0
  unfolding AllDone listed
  all_none d h =
      ready_count_lem j d
      ∙ count_none (places j.boxes) (listed j d)
      (any_false (places j.boxes) (listed j d) (λ i l. done_not (step_at j.boxes i).kind (step_at j.boxes i).first (step_at j.boxes i).second))
    where
      done_not : (k : Kind) (a b : ℕ) → permitted j d k a b ≡ false
      done_not k a b = no_true (permitted j d k a b) (λ e. let p = permit j d k a b e in clash (h k a b p.has) p.fresh_one)

  -- A permitted step more: a list can have done the set, which has one step more.
  pub with_closed : (d : Steps) (x : Step) → Closed j d → Open j d x → Closed j (and_step d x)
  with_closed d x c h = closed_mark j d x.kind x.first x.second c (permit j d x.kind x.first x.second h)

  with_size : (d : Steps) (x : Step) → Open j d x → size j (and_step d x) ≡ size j d + 1
  with_size d x h =
      let p = permit j d x.kind x.first x.second h in
      size_mark j d x.kind x.first x.second p.fresh_one (first< j x.kind x.first x.second p.has) (second< j x.kind x.first x.second p.has)

  -- As many steps are done as the job has: none is ready.
  full_none : (d : Steps) → Closed j d → size j (has_step j) ≤ size j d → eqb (ready_count j d) 0 ≡ true
  full_none d c h = eq-eqb (ready_count j d) 0 (all_none d (all_of_size j d c (omega (arith, size_le j d (has_step j) c.steps))))

  -- Whatever room there is beyond the steps that are left, the same are picked.
  room_same : (n m : ℕ) (d : Steps) (cs : List ℕ) → Closed j d → size j (has_step j) ≤ size j d + n → size j (has_step j) ≤ size j d + m → picks_from j n d cs ≡ picks_from j m d cs
  unfolding picks_from
  room_same zero zero d cs c h g = refl
  room_same zero (suc m) d cs c h g = rw (full_none d c (omega arith))
  room_same (suc n) zero d cs c h g = rw (full_none d c (omega arith))
  room_same (suc n) (suc m) d cs c h g =
      split (eqb (ready_count j d) 0)
      (λ e. rw e)
      (λ e. let x = pick j d (get_or cs 0 0) in
      let p : Open j d x = picked j d (get_or cs 0 0) e in
      rw e (ap (λ (l : List Step). x ∷ l) (room_same n m (and_step d x) (drop 1 cs) (with_closed d x c p) (omega (arith, with_size d x p)) (omega (arith, with_size d x p)))))

  -- What is left of a run, one step unfolded.
  pub left_next : (d : Steps) (cs : List ℕ) → Closed j d → eqb (ready_count j d) 0 ≡ false →
      steps_left j d cs ≡ pick j d (get_or cs 0 0) ∷ steps_left j (and_step d (pick j d (get_or cs 0 0))) (drop 1 cs)
  unfolding steps_left
  left_next d cs c e =
      room_same (step_count j) (suc (step_count j)) d cs c (omega (arith, steps_number j)) (omega (arith, steps_number j)) ∙ picks_next j (step_count j) d cs e

-- Where no step is ready nothing is left.
pub left_none : (j : Job) (d : Steps) (cs : List ℕ) → eqb (ready_count j d) 0 ≡ true → steps_left j d cs ≡ []
unfolding steps_left
left_none j d cs e = picks_none j (step_count j) d cs e

-- Without choices the first ready step is picked.
pub first_picked : (j : Job) (d : Steps) (i : ℕ) → i < places j.boxes → listed j d i ≡ true → NoneBefore j d i → pick j d 0 ≡ step_at j.boxes i
unfolding NoneBefore
first_picked j d i l h none =
    pick_is j d 0
    ∙ ap (step_at j.boxes) (ap (nth (places j.boxes) (listed j d)) (zero-mod (ready_count j d)) ∙ nth_first (places j.boxes) (listed j d) i l h none)

-- Some step is ready where one is listed.
pub some_ready : (j : Job) (d : Steps) (i : ℕ) → i < places j.boxes → listed j d i ≡ true → eqb (ready_count j d) 0 ≡ false
some_ready j d i l h = ne_eqb (ready_count j d) 0 (λ z. clash h (count_zero (places j.boxes) (listed j d) i l (sym (ready_count_lem j d) ∙ z)))

-- One place more without a ready step: it is not ready, or it is done now.
pub none_more : (j : Job) (d : Steps) (i : ℕ) → NoneBefore j d i → listed j d i ≡ false → NoneBefore j d (i + 1)
unfolding NoneBefore
none_more j d i none h x l =
    split (eqb x i)
    (λ e. rw (eqb-true x i e) h)
    (λ e. let ne : x ≡ i → ⊥ = eqb-false x i e in none x (omega arith))

pub none_done : (j : Job) (d : Steps) (i : ℕ) → i < places j.boxes → NoneBefore j d i → NoneBefore j (and_step d (step_at j.boxes i)) (i + 1)
unfolding NoneBefore
none_done j d i l none = none_more j (and_step d (step_at j.boxes i)) i (λ x h. listed_kept j d i l x h (none x h)) (listed_done j d i l)

-- No place has a ready step: none is ready.
pub none_at_all : (j : Job) (d : Steps) → NoneBefore j d (places j.boxes) → eqb (ready_count j d) 0 ≡ true
unfolding NoneBefore
none_at_all j d none = eq-eqb (ready_count j d) 0 (ready_count_lem j d ∙ count_none (places j.boxes) (listed j d) (any_no (places j.boxes) none))
  where
    any_no : (n : ℕ) → ((i : ℕ) → i < n → listed j d i ≡ false) → any n (listed j d) ≡ false
    any_no n h = no_true (any n (listed j d)) (λ q. let (i, l, e) = any_find n (listed j d) q in clash e (h i l))

-- No place is before the first.
pub none_first : (j : Job) (d : Steps) → NoneBefore j d 0
unfolding NoneBefore
none_first j d x l = absurd (omega arith)
