-- A run without choices does the steps that the job has, in the order of their places, each permitted in its turn. Assumes nothing.
use mathlib.Core.Path.{◌≡◌, refl, sym, ap, ◌∙◌, subst}
use mathlib.Core.Bool.{Bool, true, false, cond, ◌&&◌, ◌||◌, not}
use mathlib.Core.List.{List, [], ◌∷◌, ◌++◌, map, map-append, append-nil, append_assoc}
use Prim.Native.Nat.{ℕ, zero, suc, ◌+◌, ◌-◌, ◌*◌, ◌/◌, ◌%◌, ◌≤◌, ◌<◌}
use native.Mathlib.Omega.{arith}
use native.Mathlib.Numerals.{add-one}
use native.Mathlib.Nat.{div-add-mod', div-lt_iff_lt-mul, le-div_iff_mul-le}
use lib.Dec.{eqb, ltb}
use lib.ListN.{length, get_or, take, length-map}
use lib.Seq.{take-length, take-append-le, take-take, get_or-take, length-take-le}
use borrow.Author.Tests.{eqb-true, eqb-false, lt-ltb}
use Rattle.laws.specs.Below.{count, ascending}
use Rattle.laws.proofs.Bools.{split, clash, no_true, and_true, and_l, eqb_same}
use Rattle.laws.proofs.Below.{all_of_lem, any_at, count_lt, count_where}
use Rattle.laws.proofs.Tables.{pos_right, cell_in}
use Rattle.laws.proofs.Ascending.{length-ascending, ascending_at}
use Rattle.model.specs.Job.{Job, held_by, price_word, prices_due}
use Rattle.model.specs.Steps.{Kind, send_prices, multiply_own, receive_prices, send_totals, add_own, receive_totals, kind_number, Steps, Step, step_place, places, step_at, mark, at_place, list_of}
use Rattle.model.specs.Steps.{fits, has_step, added, all_added, ready, permitted, fresh}
use Rattle.model.specs.Words.{step_count}
use Rattle.model.specs.Ranges.{under}
use Rattle.model.specs.Run.{listed, run}
use Rattle.model.specs.Boxes.{Closed}
use Rattle.step_places.specs.Order.{steps_in, mark_all, no_steps, permitted_at, steps_left, NoneBefore}
use Rattle.model.proofs.Marks as M
use Rattle.model.proofs.Machine.{kinds, number_place, number_from_lem}
use Rattle.model.proofs.Range.{InRange, held_box, held_lt}
use Rattle.model.proofs.Parts.{word_at_lem}
use Rattle.model.proofs.Core.{first<, second<}
use Rattle.model.proofs.Reach.{mark_more, mark_it, closed_none}
use Rattle.model.proofs.Finish.{prices_turn, totals_turn}
use Rattle.model.proofs.Tables.{step_at_lem}
use Rattle.step_places.proofs.Orders.{mark_snoc}
use Rattle.step_places.proofs.Left.{and_step, picks_from_lem, with_closed, left_next, left_none, first_picked, some_ready, none_more, none_done, none_at_all, none_first}

-- The numbers that pass: the list has as many as are counted,
take_whole : (n : ℕ) (p : ℕ → Bool) → take (count n p) (ascending n p) ≡ ascending n p
take_whole n p = rw (← (length-ascending n p)) (take-length (ascending n p))

-- and in front of one of them stand those below it.
take_below : (n : ℕ) (p : ℕ → Bool) (x : ℕ) → x < n → p x ≡ true → take (count x p) (ascending n p) ≡ ascending x p
unfolding ascending
take_below zero p x l h = absurd (omega arith)
take_below (suc n) p x l h =
    split (eqb x n)
    (λ e. rw (eqb-true x n e) (take-append-le (count n p) (ascending n p) (cond (p n) (n ∷ []) []) (omega (arith, length-ascending n p)) ∙ take_whole n p))
    (λ e. let ne : x ≡ n → ⊥ = eqb-false x n e in
    take-append-le (count x p) (ascending n p) (cond (p n) (n ∷ []) []) (omega (arith, length-ascending n p, count_lt n p x (omega arith) h))
    ∙ take_below n p x (omega arith) h)

-- Number y of them, counted from 0: it is below the bound, it passes, and in front of it stand those below it.
record AtNumber (n : ℕ) (p : ℕ → Bool) (y x : ℕ) : Type 0 where
  inside : x < n
  passes : p x ≡ true
  front : take y (ascending n p) ≡ ascending x p

at_number : (n : ℕ) (p : ℕ → Bool) (y : ℕ) → y < length (ascending n p) → AtNumber n p y (get_or (ascending n p) y 0)
at_number n p y l =
    let (x, lx, h, e) = count_where n p y (omega (arith, length-ascending n p)) in
    subst (λ (c : ℕ). AtNumber n p c (get_or (ascending n p) c 0)) e
    (subst (λ (z : ℕ). AtNumber n p (count x p) z) (sym (ascending_at n p x lx h)) (record { inside = lx; passes = h; front = take_below n p x lx h }))

-- Every step of the job whose kind has a number below n is in the set d.
unfoldable Earlier : Job → Steps → ℕ → Type 0
Earlier j d n = (k : Kind) (a b : ℕ) → kind_number k < n → has_step j k a b ≡ true → d k a b ≡ true

-- A step is ready where every step of the job is done that is of an earlier kind.
module _ (j : Job) (r : InRange j) (d : Steps) where
  -- Every tally that a box holds is added once all steps 2 and 3 are done.
  held_added : Earlier j d 4 → (a t : ℕ) → t < j.tallies → held_by j t a ≡ true → added j d t ≡ true
  unfolding Earlier added has_step fits prices_due kind_number
  held_added early a t l y =
      let box : j.tally_box t ≡ a = held_box j t a y in
      let la : ltb a j.boxes ≡ true = lt-ltb a j.boxes (held_lt j t a y) in
      rw box (split (eqb (j.offer_owner (j.tally_offer t)) a)
      (λ e. rw e (early multiply_own a a (omega arith) (simp (la, eqb_same))))
      (λ e. rw e (early receive_prices a (j.offer_owner (j.tally_offer t)) (omega arith)
      (and_true la
      (and_true (lt-ltb (j.offer_owner (j.tally_offer t)) j.boxes (r.owner< (j.tally_offer t) (r.offer< t l)))
      (any_at j.offers (price_word j (j.offer_owner (j.tally_offer t)) a) (j.tally_offer t) (r.offer< t l) (word_at_lem j t a l y e)))))))

  all_added_lem : Earlier j d 4 → (a b : ℕ) → all_added j d a b ≡ true
  unfolding all_added
  all_added_lem early a b =
      all_of_lem j.tallies (λ t. not (held_by j t a && eqb (j.grocer_owner (j.tally_grocer t)) b) || added j d t) (λ t l.
      split (held_by j t a && eqb (j.grocer_owner (j.tally_grocer t)) b)
      (λ e. rw e (held_added early a t l (and_l (held_by j t a) _ e)))
      (λ e. rw e))

  earlier_ready : (k : Kind) (a b : ℕ) → has_step j k a b ≡ true → Earlier j d (kind_number k) → ready j d k a b ≡ true
  unfolding ready Earlier kind_number
  earlier_ready send_prices a b h early = refl
  earlier_ready multiply_own a b h early = refl
  earlier_ready receive_prices a b h early = early send_prices b a (omega arith) (sym (prices_turn j a b) ∙ h)
  earlier_ready send_totals a b h early = all_added_lem early a b
  earlier_ready add_own a b h early = all_added_lem (λ k a b l. early k a b (omega arith)) a a
  earlier_ready receive_totals a b h early = early send_totals b a (omega arith) (sym (totals_turn j a b) ∙ h)

-- Places and their steps, of k boxes.
module _ (k i : ℕ) (l : i < places k) where
  some : 0 < k
  some = pos_right (6 * k) k i l

  kind_in : i / k / k < 6
  kind_in = (div-lt_iff_lt-mul some).1 ((div-lt_iff_lt-mul some).1 l)

  -- The kind of a place goes by the rows before it.
  kind_number_lem : kind_number (step_at k i).kind ≡ suc (i / k / k)
  unfolding step_at
  kind_number_lem = number_place (i / k / k) kind_in

  -- The place of the step at place i is i.
  place_of : step_place k (kind_number (step_at k i).kind) (step_at k i).first (step_at k i).second ≡ i
  unfolding step_at
  place_of =
      ap (λ (n : ℕ). ((n - 1) * k + i / k % k) * k + i % k) kind_number_lem
      ∙ ap (λ (n : ℕ). (n * k + i / k % k) * k + i % k) (less (i / k / k))
      ∙ ap (λ (n : ℕ). n * k + i % k) (div-add-mod' (i / k) k)
      ∙ div-add-mod' i k
    where
      less : (n : ℕ) → suc n - 1 ≡ n
      less n = omega arith

  -- A step of an earlier kind has an earlier place.
  kind_before : (q : Kind) (a b : ℕ) → a < k → b < k → kind_number q < kind_number (step_at k i).kind → step_place k (kind_number q) a b < i
  kind_before q a b la lb h =
      let row : kind_number q * k ≤ i / k = (le-div_iff_mul-le some).0 (omega (arith, kind_number_lem)) in
      let up : kind_number q * k * k ≤ i = (le-div_iff_mul-le some).0 row in
      omega (arith, cell_in ((kind_number q - 1) * k + a) (kind_number q * k) k b (cell_in (kind_number q - 1) (kind_number q) k a (omega (arith, number_from_lem q)) la) lb)

-- The steps that the job has at the places before i, as a list,
unfoldable steps_before : Job → ℕ → List Step
steps_before j i = map (step_at j.boxes) (ascending i (at_place j.boxes (has_step j)))

-- and as a set.
abbrev done_before : Job → ℕ → Steps
done_before j i = mark_all no_steps (steps_before j i)

module _ (j : Job) where
  -- One place more: the job has its step, or not.
  before_first : steps_before j 0 ≡ []
  unfolding steps_before ascending
  before_first = refl

  before_more : (i : ℕ) → at_place j.boxes (has_step j) i ≡ true → steps_before j (suc i) ≡ steps_before j i ++ (step_at j.boxes i ∷ [])
  unfolding steps_before ascending
  before_more i h = rw h (map-append (step_at j.boxes) (ascending i (at_place j.boxes (has_step j))) (i ∷ []))

  before_same : (i : ℕ) → at_place j.boxes (has_step j) i ≡ false → steps_before j (suc i) ≡ steps_before j i
  unfolding steps_before ascending
  before_same i h = rw h (ap (map (step_at j.boxes)) (append-nil (ascending i (at_place j.boxes (has_step j)))))

  done_more : (i : ℕ) → at_place j.boxes (has_step j) i ≡ true → done_before j (suc i) ≡ and_step (done_before j i) (step_at j.boxes i)
  done_more i h = ap (mark_all no_steps) (before_more i h) ∙ mark_snoc no_steps (steps_before j i) (step_at j.boxes i)

  done_same : (i : ℕ) → at_place j.boxes (has_step j) i ≡ false → done_before j (suc i) ≡ done_before j i
  done_same i h = ap (mark_all no_steps) (before_same i h)

  -- A step of the job at an earlier place is one of them,
  is_before : (i x : ℕ) → x < i → at_place j.boxes (has_step j) x ≡ true → at_place j.boxes (done_before j i) x ≡ true
  is_before zero x l h = absurd (omega arith)
  is_before (suc i) x l h =
      split (at_place j.boxes (has_step j) i)
      (λ e. rw (done_more i e)
      (split (eqb x i)
      (λ q. rw (eqb-true x i q) (mark_it (done_before j i) (step_at j.boxes i).kind (step_at j.boxes i).first (step_at j.boxes i).second))
      (λ q. let ne : x ≡ i → ⊥ = eqb-false x i q in
      mark_more (done_before j i) (step_at j.boxes i).kind (step_at j.boxes i).first (step_at j.boxes i).second (step_at j.boxes x).kind (step_at j.boxes x).first (step_at j.boxes x).second
      (is_before i x (omega arith) h))))
      (λ e. rw (done_same i e)
      (split (eqb x i)
      (λ q. absurd (clash h (rw (eqb-true x i q) e)))
      (λ q. let ne : x ≡ i → ⊥ = eqb-false x i q in is_before i x (omega arith) h)))

  -- and no step of a later place is, nor of place i: marking the step of place i marks none of a later place.
  was_before : (i x : ℕ) → i < x → x < places j.boxes → at_place j.boxes (and_step (done_before j i) (step_at j.boxes i)) x ≡ true → at_place j.boxes (done_before j i) x ≡ true
  unfolding mark
  was_before i x l m h =
      M.mark_cases kinds (done_before j i) (step_at j.boxes i).kind (step_at j.boxes i).first (step_at j.boxes i).second
      (λ k a b. i < step_place j.boxes (kind_number k) a b → done_before j i k a b ≡ true)
      (step_at j.boxes x).kind (step_at j.boxes x).first (step_at j.boxes x).second
      (λ q. absurd (omega (arith, place_of j.boxes i (omega arith))))
      (λ q g. q)
      h
      (omega (arith, place_of j.boxes x m))

  not_before : (i x : ℕ) → i ≤ x → x < places j.boxes → at_place j.boxes (done_before j i) x ≡ false
  unfolding mark_all
  not_before zero x l m = rw before_first
  not_before (suc i) x l m =
      split (at_place j.boxes (has_step j) i)
      (λ e. rw (done_more i e)
      (no_true (at_place j.boxes (and_step (done_before j i) (step_at j.boxes i)) x) (λ q. clash (was_before i x (omega arith) m q) (not_before i x (omega arith) m))))
      (λ e. rw (done_same i e) (not_before i x (omega arith) m))

  -- In its turn a step of the job is permitted.
  module _ (r : InRange j) (i : ℕ) (l : i < places j.boxes) (h : at_place j.boxes (has_step j) i ≡ true) where
    earlier_done : Earlier j (done_before j i) (kind_number (step_at j.boxes i).kind)
    unfolding Earlier
    earlier_done k a b lt has =
        let la : a < j.boxes = first< j k a b has in
        let lb : b < j.boxes = second< j k a b has in
        let there : step_at j.boxes (step_place j.boxes (kind_number k) a b) ≡ record { kind = k; first = a; second = b } = step_at_lem j.boxes k a b la lb in
        rw there at (is_before i (step_place j.boxes (kind_number k) a b) (kind_before j.boxes i l k a b la lb lt) (rw there has))

    turn_permitted : permitted_at j (done_before j i) i ≡ true
    unfolding permitted
    turn_permitted =
        simp (h, not_before i i (omega arith) l)
        (earlier_ready j r (done_before j i) (step_at j.boxes i).kind (step_at j.boxes i).first (step_at j.boxes i).second h earlier_done)

-- The places before i are passed: the steps of the job there can have been done, no step there is ready any more, and the run is these and what is left of it.
record WalkedTo (j : Job) (i : ℕ) : Type 0 where
  closed : Closed j (done_before j i)
  none : NoneBefore j (done_before j i) i
  rest : run j [] ≡ steps_before j i ++ steps_left j (done_before j i) []

module _ (j : Job) (r : InRange j) where
  walk_start : WalkedTo j 0
  unfolding mark_all run steps_left fresh
  walk_start = record {
    closed = rw (before_first j) (closed_none j);
    none = none_first j (done_before j 0);
    rest = rw (before_first j) (picks_from_lem j (step_count j) (fresh j) []);
  }

  -- The job has a step at the place: it is the next one.
  module _ (i : ℕ) (l : i < places j.boxes) (w : WalkedTo j i) (h : at_place j.boxes (has_step j) i ≡ true) where
    open_here : permitted_at j (done_before j i) i ≡ true
    open_here = turn_permitted j r i l h

    listed_here : listed j (done_before j i) i ≡ true
    unfolding listed
    listed_here = open_here

    left_here : steps_left j (done_before j i) [] ≡ step_at j.boxes i ∷ steps_left j (and_step (done_before j i) (step_at j.boxes i)) []
    left_here =
        rw (first_picked j (done_before j i) i l listed_here w.none)
        at (left_next j (done_before j i) [] w.closed (some_ready j (done_before j i) i l listed_here))

    walk_more : WalkedTo j (suc i)
    walk_more = record {
      closed = rw (done_more j i h) (with_closed j (done_before j i) (step_at j.boxes i) w.closed open_here);
      none = rw (done_more j i h, ← (add-one i)) (none_done j (done_before j i) i l w.none);
      rest = w.rest ∙ ap (λ (xs : List Step). steps_before j i ++ xs) left_here
          ∙ sym (append_assoc (steps_before j i) (step_at j.boxes i ∷ []) (steps_left j (and_step (done_before j i) (step_at j.boxes i)) []))
          ∙ rw (before_more j i h, mark_snoc no_steps (steps_before j i) (step_at j.boxes i));
    }

  -- It has none: the place is passed.
  walk_past : (i : ℕ) → WalkedTo j i → at_place j.boxes (has_step j) i ≡ false → WalkedTo j (suc i)
  unfolding listed permitted
  walk_past i w h = record {
    closed = rw (before_same j i h) w.closed;
    none = rw (before_same j i h, ← (add-one i)) (none_more j (done_before j i) i w.none (rw h));
    rest = rw (before_same j i h) w.rest;
  }

  walk_to : (i : ℕ) → i ≤ places j.boxes → WalkedTo j i
  walk_to zero l = walk_start
  walk_to (suc i) l =
      split (at_place j.boxes (has_step j) i)
      (λ e. walk_more i (omega arith) (walk_to i (omega arith)) e)
      (λ e. walk_past i (walk_to i (omega arith)) e)

  -- Without choices the steps of a run are those that the job has, by kind, first box, second box.
  plain_run : run j [] ≡ list_of j.boxes (has_step j)
  unfolding steps_before list_of
  plain_run =
      let w = walk_to (places j.boxes) (omega arith) in
      w.rest
      ∙ ap (λ (xs : List Step). steps_before j (places j.boxes) ++ xs) (left_none j (done_before j (places j.boxes)) [] (none_at_all j (done_before j (places j.boxes)) w.none))
      ∙ append-nil (steps_before j (places j.boxes))

-- An order of all steps that a job has, by their places: the run without choices.
pub record Plain (j : Job) (order : List ℕ) (n : ℕ) : Type 0 where
  pub steps_are : steps_in j.boxes n order ≡ run j []
  pub places_in : under (6 * j.boxes * j.boxes) n order ≡ true
  pub in_turn_lem : (i : ℕ) → i < n → permitted_at j (mark_all no_steps (steps_in j.boxes i order)) (get_or order i 0) ≡ true
  pub count_is : n ≡ length (run j [])

module _ (j : Job) (r : InRange j) (order : List ℕ) (n : ℕ) (long : n ≤ length order) (e : take n order ≡ ascending (places j.boxes) (at_place j.boxes (has_step j))) where
  order_steps : steps_in j.boxes n order ≡ run j []
  unfolding steps_in list_of
  order_steps = ap (map (step_at j.boxes)) e ∙ sym (plain_run j r)

  -- Word y is the place of a step of the job, and the words in front of it are the earlier places of such steps.
  word_at_turn : (y : ℕ) → y < n → AtNumber (places j.boxes) (at_place j.boxes (has_step j)) y (get_or order y 0)
  word_at_turn y l =
      rw (sym (get_or-take n order y 0 l) ∙ ap (λ (xs : List ℕ). get_or xs y 0) e)
      (at_number (places j.boxes) (at_place j.boxes (has_step j)) y (rw (← e, length-take-le n order long) l))

  order_turn : (y : ℕ) → y < n → permitted_at j (mark_all no_steps (steps_in j.boxes y order)) (get_or order y 0) ≡ true
  unfolding steps_in steps_before
  order_turn y l =
      let w = word_at_turn y l in
      let front : take y order ≡ ascending (get_or order y 0) (at_place j.boxes (has_step j)) = sym (take-take y n order (omega arith)) ∙ ap (take y) e ∙ w.front in
      subst (λ (xs : List ℕ). permitted_at j (mark_all no_steps (map (step_at j.boxes) xs)) (get_or order y 0) ≡ true) (sym front)
      (turn_permitted j r (get_or order y 0) w.inside w.passes)

  pub plain_order : Plain j order n
  unfolding steps_in under
  plain_order = record {
    steps_are = order_steps;
    places_in = all_of_lem n (λ y. ltb (get_or order y 0) (6 * j.boxes * j.boxes)) (λ y l. lt-ltb (get_or order y 0) (6 * j.boxes * j.boxes) (word_at_turn y l).inside);
    in_turn_lem = order_turn;
    count_is = sym (length-take-le n order long) ∙ sym (length-map (take n order) (step_at j.boxes)) ∙ ap length order_steps;
  }
