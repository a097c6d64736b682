-- The step that code finds is the one that the run picks, of every job with these words of receivers and waits. Assumes nothing.
use mathlib.Core.Path.{◌≡◌, refl, sym, ap, ◌∙◌, subst}
use mathlib.Core.Bool.{Bool, true, false, cond, ◌&&◌}
use mathlib.Core.List.{List, []}
use Prim.Native.Nat.{ℕ, ◌+◌, ◌-◌, ◌*◌, ◌%◌, ◌≤◌, ◌<◌}
use native.Mathlib.Omega.{arith}
use native.Mathlib.Numerals.{add-one}
use lib.Arith.{digits_lt}
use lib.Dec.{eqb, ltb}
use lib.ListN.{length, get_or, set, drop}
use lib.Seq.{drop-cons}
use borrow.Author.Tests.{lt-ltb, ne_eqb}
use Rattle.laws.specs.Below.{count, nth}
use Rattle.laws.specs.Tables.{overwrite}
use Rattle.laws.proofs.Bools.{and_l, and_r, and_true, and_false}
use Rattle.laws.proofs.Tables.{over-over, long_overwrite}
use Rattle.laws.proofs.Ascending.{nth_passes}
use Rattle.model.specs.Job.{Job}
use Rattle.model.specs.Steps.{Kind, kind_of, Steps, mark, step_at, at_place, places}
use Rattle.model.specs.Tables.{steps_done, marks_of}
use Rattle.model.specs.Ranges.{up_to}
use Rattle.model.specs.Run.{listed, ready_count, pick}
use Rattle.step_places.specs.Marks.{marked}
use Rattle.step_rules.specs.Rules.{permitted_by, ReceiversOf, WaitsOf}
use Rattle.step_places.specs.Places.{PlaceIn, here, Found}
use Rattle.run_ready.specs.Walk.{listed_by, WalkIn}
use Rattle.step_places.specs.Order.{NoneBefore}
use Rattle.run_order.specs.Order.{OfJob, MarksFrom, Picked, Kept, Ended, Passed}
use Rattle.model.proofs.Step.{marks_bits}
use Rattle.model.proofs.Machine.{kinds}
use Rattle.model.proofs.Tables.{marks_back}
use Rattle.model.proofs.Listed.{pick_is}
use Rattle.model.proofs.Run.{picked}
use Rattle.run_ready.proofs.InModel.{listed_at}
use Rattle.step_places.proofs.Places.{step_here}
use Rattle.run_ready.proofs.InModel.{listed_is, count_is, nth_is_model}
use Rattle.step_places.proofs.Left.{and_step, Open, first_picked, some_ready, none_more, none_done}
use Rattle.run_order.proofs.Pick.{room, put_kept, kept_none, kept_ends}
use Rattle.model.proofs.Marks as M

-- The marks with one step more say that it is done.
module _ (k : ℕ) (q : Kind) (a b : ℕ) (done : List ℕ) (la : a < k) (lb : b < k) where
  -- Only steps of boxes below k are.
  inside : (q' : Kind) (a' b' : ℕ) → mark (steps_done k done) q a b q' a' b' ≡ true → (ltb a' k && ltb b' k) ≡ true
  unfolding steps_done mark
  inside q' a' b' = M.mark_cases kinds (steps_done k done) q a b (λ q a b. (ltb a k && ltb b k) ≡ true) q' a' b' (and_true (lt-ltb a k la) (lt-ltb b k lb)) old
    where
      old : steps_done k done q' a' b' ≡ true → (ltb a' k && ltb b' k) ≡ true
      old h = and_true (and_l (ltb a' k) _ h) (and_l (ltb b' k) _ (and_r (ltb a' k) _ h))

  both : (x y m : Bool) → (m ≡ true → (x && y) ≡ true) → (x && (y && m)) ≡ m
  both x y true h = let e = h refl in rw (and_l x y e, and_r x y e)
  both x y false h = rw (and_false y, and_false x)

  pub marked_steps : steps_done k (marked k q a b done) ≡ mark (steps_done k done) q a b
  unfolding marked
  marked_steps = λ i q' a' b'. (marks_back k (mark (steps_done k done) q a b) done q' a' b' ∙ both (ltb a' k) (ltb b' k) (mark (steps_done k done) q a b q' a' b') (inside q' a' b')) i

  -- They are the marks of their own steps.
  pub marked_from : (done' : List ℕ) → done' ≡ marked k q a b done → marked k q a b done ≡ marks_of k (steps_done k done') done
  unfolding marked
  marked_from done' e = ap (λ (d : Steps). marks_of k d done) (sym (ap (steps_done k) e ∙ marked_steps))

-- A place of k boxes is below the number of places.
pub place-below : (k kind a b : ℕ) → PlaceIn k kind a b → here k kind a b < 6 * k * k
place-below k kind a b p = digits_lt {q = (kind - 1) * k + a} {m = 6 * k} (digits_lt {q = kind - 1} {m = 6} (omega arith) p.a_in) p.b_in

-- The step that is found is ready.
pub found_open : (k : ℕ) (receivers : List ℕ) (waits : List (List ℕ)) (done : List ℕ) (c kind a b : ℕ) → c < count (6 * k * k) (listed_by k receivers waits done) →
    Found k (nth (6 * k * k) (listed_by k receivers waits done) c) kind a b → permitted_by receivers waits (steps_done k done) (kind_of kind) a b ≡ true
found_open k receivers waits done c kind a b l g =
    listed_at k kind a b receivers waits done g.place_in
    ∙ ap (listed_by k receivers waits done) g.place_is
    ∙ (nth_passes (6 * k * k) (listed_by k receivers waits done) c l).1

module _ (j : Job) (receivers : List ℕ) (waits : List (List ℕ)) (hr : ReceiversOf j receivers) (hw : WaitsOf j waits) (one : 1 ≤ j.boxes) (done : List ℕ) where
  -- The steps done.
  abbrev d : Steps
  d = steps_done j.boxes done

  -- How many steps are ready.
  abbrev ready_by : ℕ
  ready_by = count (6 * j.boxes * j.boxes) (listed_by j.boxes receivers waits done)

  ready_is : ready_by ≡ ready_count j d
  ready_is = count_is j receivers waits hr hw one done

  -- A step of a place, put into the order and marked.
  module _ (kind a b : ℕ) (pl : PlaceIn j.boxes kind a b) where
    abbrev at : ℕ
    at = here j.boxes kind a b

    put_marks : (done' : List ℕ) → done' ≡ marked j.boxes (kind_of kind) a b done → steps_done j.boxes done' ≡ and_step d (step_at j.boxes at)
    put_marks done' e = rw (e, step_here j kind a b pl) (marked_steps j.boxes (kind_of kind) a b done pl.a_in pl.b_in)

    module _ (order : List ℕ) (n : ℕ) (cs : List ℕ) (p : Picked j done order n cs) (some : eqb (ready_count j d) 0 ≡ false) (e : pick j d (get_or cs 0 0) ≡ step_at j.boxes at) where
      is_open : Open j d (step_at j.boxes at)
      is_open = rw e at (picked j d (get_or cs 0 0) some)

      put : (done' order' : List ℕ) → done' ≡ marked j.boxes (kind_of kind) a b done → order' ≡ set order n at → Kept j done order n cs done' order' (n + 1) (drop 1 cs)
      put done' order' ed eo = put_kept j done order n cs p some at e (place-below j.boxes kind a b pl) is_open done' (put_marks done' ed) order' eo

  -- The step of a choice.
  module _ (cs : List ℕ) (i : ℕ) (l : i < length cs) (ready : ℕ) (more : 1 ≤ ready) (er : ready ≡ ready_by) (order : List ℕ) (p : Picked j done order i (drop i cs)) (kind a b : ℕ)
      (g : Found j.boxes (nth (6 * j.boxes * j.boxes) (listed_by j.boxes receivers waits done) (get_or cs i 0 % ready)) kind a b) where
    choice_some : eqb (ready_count j d) 0 ≡ false
    choice_some = ne_eqb (ready_count j d) 0 (λ z. let q : ready ≡ 0 = er ∙ ready_is ∙ z in omega arith)

    first_choice : get_or (drop i cs) 0 0 ≡ get_or cs i 0
    first_choice = rw (drop-cons cs i 0 l)

    choice_picks : pick j d (get_or (drop i cs) 0 0) ≡ step_at j.boxes (here j.boxes kind a b)
    choice_picks =
        ap (pick j d) first_choice
        ∙ pick_is j d (get_or cs i 0)
        ∙ ap (λ (r : ℕ). step_at j.boxes (nth (places j.boxes) (listed j d) (get_or cs i 0 % r))) (sym (er ∙ ready_is))
        ∙ ap (step_at j.boxes) (sym (nth_is_model j receivers waits hr hw one done (get_or cs i 0 % ready)) ∙ sym g.place_is)

    choice_room : i < 1536
    choice_room = room j done order i (drop i cs) p choice_some (here j.boxes kind a b) choice_picks

    drop_one : drop 1 (drop i cs) ≡ drop (i + 1) cs
    drop_one = rw (drop-cons cs i 0 l, add-one i)

    choice_kept : (done' order' : List ℕ) → done' ≡ marked j.boxes (kind_of kind) a b done → order' ≡ set order i (here j.boxes kind a b) →
        Kept j done order i (drop i cs) done' order' (i + 1) (drop (i + 1) cs)
    choice_kept done' order' ed eo = rw drop_one at (put kind a b g.place_in order i (drop i cs) p choice_some choice_picks done' order' ed eo)

  -- The step of a place, where none before it is ready and choices are ended.
  module _ (kind a b : ℕ) (pl : PlaceIn j.boxes kind a b) (order : List ℕ) (n : ℕ) (p : Picked j done order n []) (none : NoneBefore j d (here j.boxes kind a b)) where
    -- It is not ready.
    place_not : listed_by j.boxes receivers waits done (here j.boxes kind a b) ≡ false → Passed j done order n (here j.boxes kind a b) done order n
    place_not h = record {
      kept = kept_none j done order n [] p;
      none = none_more j d (here j.boxes kind a b) none (sym (listed_is j receivers waits hr hw one done (here j.boxes kind a b)) ∙ h);
    }

    -- It is ready.
    module _ (h : listed_by j.boxes receivers waits done (here j.boxes kind a b) ≡ true) where
      is_listed : listed j d (here j.boxes kind a b) ≡ true
      is_listed = sym (listed_is j receivers waits hr hw one done (here j.boxes kind a b)) ∙ h

      place_some : eqb (ready_count j d) 0 ≡ false
      place_some = some_ready j d (here j.boxes kind a b) (place-below j.boxes kind a b pl) is_listed

      place_picks : pick j d 0 ≡ step_at j.boxes (here j.boxes kind a b)
      place_picks = first_picked j d (here j.boxes kind a b) (place-below j.boxes kind a b pl) is_listed none

      place-room : n < 1536
      place-room = room j done order n [] p place_some (here j.boxes kind a b) place_picks

      place_passed : (done' order' : List ℕ) → done' ≡ marked j.boxes (kind_of kind) a b done → order' ≡ set order n (here j.boxes kind a b) →
          Passed j done order n (here j.boxes kind a b) done' order' (n + 1)
      place_passed done' order' ed eo = record {
        kept = put kind a b pl order n [] p place_some place_picks done' order' ed eo;
        none = rw (put_marks kind a b pl done' ed) (none_done j d (here j.boxes kind a b) (place-below j.boxes kind a b pl) none);
      }

-- The same, for k boxes.
module _ (k : ℕ) (receivers : List ℕ) (waits : List (List ℕ)) (j : Job) (o : OfJob k receivers waits j) (done : List ℕ) where
  -- How many steps are ready, and that none is.
  pub ready_of : count (6 * k * k) (listed_by k receivers waits done) ≡ ready_count j (steps_done j.boxes done)
  ready_of = rw (← o.boxes_are) (ready_is j receivers waits o.receivers_are o.waits_are o.some done)

  module _ (cs : List ℕ) (i : ℕ) (l : i < length cs) (ready : ℕ) (more : 1 ≤ ready) (er : ready ≡ count (6 * k * k) (listed_by k receivers waits done)) (order : List ℕ) (p : Picked j done order i (drop i cs))
      (kind a b : ℕ) (g : Found k (nth (6 * k * k) (listed_by k receivers waits done) (get_or cs i 0 % ready)) kind a b) where
    pub room_of : i < 1536
    room_of = choice_room j receivers waits o.receivers_are o.waits_are o.some done cs i l ready more (rw o.boxes_are er) order p kind a b (rw o.boxes_are g)

    pub kept_of : (done' order' : List ℕ) → done' ≡ marked k (kind_of kind) a b done → order' ≡ set order i (here k kind a b) →
        Kept j done order i (drop i cs) done' order' (i + 1) (drop (i + 1) cs)
    kept_of done' order' ed eo =
        choice_kept j receivers waits o.receivers_are o.waits_are o.some done cs i l ready more (rw o.boxes_are er) order p kind a b (rw o.boxes_are g)
        done' order' (rw o.boxes_are ed) (rw o.boxes_are eo)

  module _ (kind a b : ℕ) (pl : PlaceIn k kind a b) (order : List ℕ) (n : ℕ) (p : Picked j done order n []) (none : NoneBefore j (steps_done j.boxes done) (here k kind a b)) where
    -- None before it is ready, by the number of the job's boxes.
    none_j : NoneBefore j (steps_done j.boxes done) (here j.boxes kind a b)
    none_j = subst (λ (n : ℕ). NoneBefore j (steps_done j.boxes done) (here n kind a b)) (sym o.boxes_are) none

    pub not_of : listed_by k receivers waits done (here k kind a b) ≡ false → Passed j done order n (here k kind a b) done order n
    not_of h =
        rw (← o.boxes_are)
        (place_not j receivers waits o.receivers_are o.waits_are o.some done kind a b (rw o.boxes_are pl) order n p none_j (rw o.boxes_are h))

    pub place-room_of : listed_by k receivers waits done (here k kind a b) ≡ true → n < 1536
    place-room_of h =
        place-room j receivers waits o.receivers_are o.waits_are o.some done kind a b (rw o.boxes_are pl) order n p none_j (rw o.boxes_are h)

    pub passed_of : listed_by k receivers waits done (here k kind a b) ≡ true → (done' order' : List ℕ) → done' ≡ marked k (kind_of kind) a b done → order' ≡ set order n (here k kind a b) →
        Passed j done order n (here k kind a b) done' order' (n + 1)
    passed_of h done' order' ed eo =
        rw (← o.boxes_are)
        (place_passed j receivers waits o.receivers_are o.waits_are o.some done kind a b (rw o.boxes_are pl) order n p none_j (rw o.boxes_are h)
        done' order' (rw o.boxes_are ed) (rw o.boxes_are eo))

-- Marks that are those of their own steps: as long as k boxes need, and each 0 or 1.
module _ (k : ℕ) (done done' : List ℕ) (m : MarksFrom k done done') where
  pub marks_long : 6 * k * k ≤ length done'
  unfolding MarksFrom marks_of
  marks_long = rw m (long_overwrite (6 * k * k) (λ i. cond (at_place k (steps_done k done') i) 1 0) done)

  pub marks_bit : up_to 1 (6 * k * k) done' ≡ true
  unfolding MarksFrom
  marks_bit = ap (up_to 1 (6 * k * k)) m ∙ marks_bits k (steps_done k done') done

  -- Written over themselves they are the same,
  pub marks_own : MarksFrom k done' done'
  unfolding MarksFrom marks_of
  marks_own = m ∙ sym (over-over (6 * k * k) _ (λ i. cond (at_place k (steps_done k done') i) 1 0) done) ∙ ap (overwrite (6 * k * k) (λ i. cond (at_place k (steps_done k done') i) 1 0)) (sym m)

  -- and so over what they were written over.
  pub marks_over : (done'' : List ℕ) → MarksFrom k done' done'' → MarksFrom k done done''
  unfolding MarksFrom marks_of
  marks_over done'' q =
      q ∙ ap (overwrite (6 * k * k) (λ i. cond (at_place k (steps_done k done'') i) 1 0)) m
      ∙ over-over (6 * k * k) (λ i. cond (at_place k (steps_done k done'') i) 1 0) (λ i. cond (at_place k (steps_done k done') i) 1 0) done

  -- The walk goes on.
  pub walk_on : WalkIn k done → WalkIn k done'
  walk_on w = record { some = w.some; boxes_in = w.boxes_in; done_long = marks_long }

-- All places are passed, of a job with these tables of messages: the picking ends.
pub ended_of : (k : ℕ) (receivers : List ℕ) (waits : List (List ℕ)) (j : Job) → OfJob k receivers waits j → (done order : List ℕ) (n : ℕ) (done' order' : List ℕ) (n' i : ℕ) → i ≡ 6 * k * k →
    Kept j done order n [] done' order' n' [] → NoneBefore j (steps_done j.boxes done') i → Ended j done order n [] done' order' n'
ended_of k receivers waits j o done order n done' order' n' i e kept none =
    kept_ends j done order n [] done' order' n' kept
    (subst (λ (x : ℕ). NoneBefore j (steps_done j.boxes done') x) (e ∙ ap (λ (x : ℕ). 6 * x * x) (sym o.boxes_are)) none)
