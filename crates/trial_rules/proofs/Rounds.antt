-- A trial takes permitted steps alone, round by round, until all are done. Assumes nothing.
use mathlib.Core.Path.{◌≡◌, refl, ap, ◌∙◌, sym}
use mathlib.Core.List.{List, [], ◌∷◌, ◌++◌, append-nil}
use mathlib.Core.Bool.{Bool, true, false, cond, ◌&&◌}
use Prim.Native.Nat.{ℕ, ◌+◌, ◌-◌, ◌*◌, ◌/◌, ◌<◌, ◌≤◌, zero, suc}
use native.Mathlib.Omega.{arith}
use native.Mathlib.Nat.{div-lt_iff_lt-mul}
use native.Mathlib.Decide.{dec_lt, ℕ_discrete}
use lib.ListN.{length, length-append, get_or}
use lib.Dec.{eqb, ltb}
use lib.Arith.{digits_div, digits_mod}
use borrow.Author.Tests.{eqb-true, eqb-false, ne_eqb, lt-ltb, le-ltb}
use Rattle.laws.specs.Below.{naturals, only, count}
use Rattle.laws.proofs.Below.{find_passes, any_at, any_find, all_at, count_some, only_le}
use Rattle.laws.proofs.Bools.{split, and_false, eqb_same}
use Rattle.laws.proofs.Tables.{cell_in, row_next}
use Rattle.model.specs.Job.{Job}
use Rattle.model.specs.Run.{after_steps, ready_count, pick}
use Rattle.model.specs.Words.{over, step_count}
use Rattle.model.specs.Steps.{Kind, kind_number, Step, Steps, State, permitted, effect_of, kind_of, mark, has_step, fresh}
use Rattle.model.specs.Boxes.{state_by_rules, Sound}
use Rattle.trial_rules.specs.Rounds.{is_preference, preferred, has_ready, acts, choice, round, rounds, trial, taken_steps, of_box, idle_rounds, TrialEnds, trial_state}
use Rattle.model.specs.Demand3.{AllDone}
use Rattle.model.proofs.Counting.{size_mark, steps_number, all_of_size, size_le}
use Rattle.model.proofs.Range.{InRange}
use Rattle.model.proofs.Core.{first<, second<, Permit, permit}
use Rattle.model.proofs.Reach.{ready_more, effect_done, sound_effect, mark_more, sound_fresh}
use Rattle.model.proofs.Machine.{reached, permits, attempt, attempt_all, taken, size, done_of}
use Rattle.model.proofs.Tables.{kind_place, kind_six}
use Rattle.model.proofs.Lists.{marked, all_reached, all_length}
use Rattle.model.proofs.Run.{none_ready, picked}

pub over_append : (f : Kind → ℕ → ℕ → ℕ) (xs ys : List Step) → over f (xs ++ ys) ≡ over f xs + over f ys
unfolding over
over_append f [] ys = omega arith
over_append f (x ∷ xs) ys = rw (over_append f xs ys) (omega arith)

module _ (j : Job) where
  after_append : (s : State) (xs ys : List Step) → after_steps j s (xs ++ ys) ≡ after_steps j (after_steps j s xs) ys
  unfolding after_steps
  after_append s [] ys = refl
  after_append s (x ∷ xs) ys = after_append (effect_of j s x) xs ys

  all_append : (s : State) (xs ys : List Step) → attempt_all j s (xs ++ ys) ≡ attempt_all j (attempt_all j s xs) ys
  unfolding attempt_all
  all_append s [] ys = refl
  all_append s (x ∷ xs) ys = all_append (attempt j s x) xs ys

  one_append : (p : Bool) (x : Step) (xs ys : List Step) → cond p (x ∷ (xs ++ ys)) (xs ++ ys) ≡ cond p (x ∷ xs) xs ++ ys
  one_append true x xs ys = refl
  one_append false x xs ys = refl

  taken_append : (s : State) (xs ys : List Step) → taken j s (xs ++ ys) ≡ taken j s xs ++ taken j (attempt_all j s xs) ys
  unfolding taken attempt_all
  taken_append s [] ys = refl
  taken_append s (x ∷ xs) ys =
      ap (λ (l : List Step). cond (permits j s x) (x ∷ l) l) (taken_append (attempt j s x) xs ys)
      ∙ one_append (permits j s x) x (taken j (attempt j s x) xs) (taken j (attempt_all j (attempt j s x) xs) ys)

-- A round, told from the steps done when it began.
module _ (j : Job) (prefs : List ℕ) (d : Steps) where
  -- The step that box n takes was ready then.
  pub chosen : (n : ℕ) → acts j prefs d n ≡ true → permitted j d (choice j prefs d n).kind n (choice j prefs d n).second ≡ true
  unfolding acts choice has_ready preferred
  chosen n h = (find_passes (6 * j.boxes) (has_ready j prefs d n) h).1

  -- It still is where no step of box n was done since: more done makes no step unready.
  pub still : (d' : Steps) (n : ℕ) → ((k : Kind) (b : ℕ) → d' k n b ≡ d k n b) → ((k : Kind) (a b : ℕ) → d k a b ≡ true → d' k a b ≡ true) → acts j prefs d n ≡ true →
      permitted j d' (choice j prefs d n).kind n (choice j prefs d n).second ≡ true
  unfolding permitted
  still d' n later more h =
      let p = permit j d (choice j prefs d n).kind n (choice j prefs d n).second (chosen n h) in
      simp (
        p.has,
        later (choice j prefs d n).kind (choice j prefs d n).second,
        p.fresh_one,
        ready_more j d d' more (choice j prefs d n).kind n (choice j prefs d n).second p.is_ready,
      )

  pub first_is : (n : ℕ) → (choice j prefs d n).first ≡ n
  unfolding choice preferred
  first_is n = refl

  -- Where a box acts the round has a step.
  pub round_some : (n a : ℕ) → a < n → acts j prefs d a ≡ true → 1 ≤ length (round j prefs d n)
  unfolding round
  round_some zero a l h = absurd (omega arith)
  round_some (suc n) a l h =
      rw (length-append (round j prefs d n) (cond (acts j prefs d n) (choice j prefs d n ∷ []) []))
      (split (eqb a n)
      (λ e. rw (rw (eqb-true a n e) at h) (omega arith))
      (λ e. let ne : a ≡ n → ⊥ = eqb-false a n e in omega (arith, round_some n a (omega arith) h)))

  -- A box takes one step in a round where it acts, and else none.
  pub box_of : (b n : ℕ) → of_box b (round j prefs d n) ≡ only naturals (ltb b n && acts j prefs d b) 1
  unfolding round of_box over only naturals choice preferred
  box_of b zero = rw (le-ltb b 0 (omega arith))
  box_of b (suc n) =
      over_append (λ k a c. only naturals (eqb a b) 1) (round j prefs d n) (cond (acts j prefs d n) (choice j prefs d n ∷ []) [])
      ∙ rw (box_of b n) (elim (dec_lt b n) [
        | yes l ↦ rw (lt-ltb b n l, lt-ltb b (suc n) (omega arith), other l) (omega arith)
        | no l ↦ rw (le-ltb b n (omega (arith, l))) (here l (ℕ_discrete b n))
      ])
    where
      other : b < n → over (λ k a c. only naturals (eqb a b) 1) (cond (acts j prefs d n) (choice j prefs d n ∷ []) []) ≡ 0
      other l = split (acts j prefs d n) (λ e. rw (e, ne_eqb n b (λ q. omega arith))) (λ e. rw e)

      here : (b < n → ⊥) → Dec (b ≡ n) → 0 + over (λ k a c. only naturals (eqb a b) 1) (cond (acts j prefs d n) (choice j prefs d n ∷ []) []) ≡ only naturals (ltb b (suc n) && acts j prefs d b) 1
      here l (yes q) = rw (q, lt-ltb n (suc n) (omega arith)) (split (acts j prefs d n) (λ e. rw (e, eqb_same n)) (λ e. rw e))
      here l (no q) = rw (le-ltb b (suc n) (omega (arith, l, q))) (split (acts j prefs d n) (λ e. rw (e, ne_eqb n b (λ u. q (sym u)))) (λ e. rw e))

  -- Where some step is ready its box acts.
  ready_acts : ((k : Kind) → (i : ℕ) × (i < 6) × (kind_of (get_or prefs i 0) ≡ k)) → (k : Kind) (a b : ℕ) → permitted j d k a b ≡ true → acts j prefs d a ≡ true
  unfolding acts has_ready preferred
  ready_acts every k a b h =
      let (i, l, e) = every k in
      let lb : b < j.boxes = second< j k a b (permit j d k a b h).has in
      any_at (6 * j.boxes) (has_ready j prefs d a) (i * j.boxes + b) (cell_in i 6 j.boxes b l lb)
      (rw (digits_div i lb, digits_mod i lb, e) h)

  pub some_ready : ((k : Kind) → (i : ℕ) × (i < 6) × (kind_of (get_or prefs i 0) ≡ k)) → eqb (ready_count j d) 0 ≡ false → (a : ℕ) × (a < j.boxes) × (acts j prefs d a ≡ true)
  some_ready every h =
      let p = picked j d 0 h in (
        (pick j d 0).first,
        first< j (pick j d 0).kind (pick j d 0).first (pick j d 0).second (permit j d (pick j d 0).kind (pick j d 0).first (pick j d 0).second p).has,
        ready_acts every (pick j d 0).kind (pick j d 0).first (pick j d 0).second p,
      )

-- Steps that are permitted one after the other, from a state that a list of requests can leave.
pub record Goes (j : Job) (s : State) (xs : List Step) : Type 0 where
  pub takes : taken j s xs ≡ xs
  pub same : attempt_all j s xs ≡ after_steps j s xs
  pub sound : Sound j (after_steps j s xs)
  pub grows : size j (after_steps j s xs).done ≡ size j s.done + length xs

module _ (j : Job) (r : InRange j) where
  goes_none : (s : State) → Sound j s → Goes j s []
  unfolding taken attempt_all after_steps
  goes_none s o = record { takes = refl; same = refl; sound = o; grows = omega arith }

  goes_one : (s : State) (x : Step) → Sound j s → permits j s x ≡ true → Goes j s (x ∷ [])
  unfolding taken attempt_all after_steps attempt permits
  goes_one s x o h =
      let p : Permit j s.done x.kind x.first x.second = permit j s.done x.kind x.first x.second h in
      record {
        takes = rw h;
        same = rw h;
        sound = sound_effect j r s x.kind x.first x.second o p;
        grows = rw (effect_done j s x.kind x.first x.second) (size_mark j s.done x.kind x.first x.second p.fresh_one (first< j x.kind x.first x.second p.has) (second< j x.kind x.first
            x.second p.has));
      }

  goes_on : (s : State) (xs ys : List Step) → Goes j s xs → Goes j (after_steps j s xs) ys → Goes j s (xs ++ ys)
  goes_on s xs ys g h = record {
    takes = taken_append j s xs ys ∙ rw (g.takes, g.same, h.takes);
    same = all_append j s xs ys ∙ rw (g.same, after_append j s xs ys) h.same;
    sound = rw (after_append j s xs ys) h.sound;
    grows = rw (after_append j s xs ys) (omega (arith, g.grows, h.grows, length-append xs ys));
  }

  -- One step of a box changes no mark of another box.
  mark_later : (u : State) (x : Step) (k : Kind) (a b : ℕ) → (a ≡ x.first → ⊥) → (effect_of j u x).done k a b ≡ u.done k a b
  unfolding mark
  mark_later u x k a b ne = rw (effect_done j u x.kind x.first x.second) (simp (ne_eqb a x.first ne, and_false))

  mark_kept : (u : State) (x : Step) (k : Kind) (a b : ℕ) → u.done k a b ≡ true → (effect_of j u x).done k a b ≡ true
  mark_kept u x k a b h = rw (effect_done j u x.kind x.first x.second) (mark_more u.done x.kind x.first x.second k a b h)

  -- A round.
  module _ (prefs : List ℕ) (s : State) (o : Sound j s) where
    -- The first n boxes have done the steps xs in it.
    pub record Part (n : ℕ) (xs : List Step) : Type 0 where
      pub goes : Goes j s xs
      pub later : (k : Kind) (a b : ℕ) → n ≤ a → (after_steps j s xs).done k a b ≡ s.done k a b
      pub more : (k : Kind) (a b : ℕ) → s.done k a b ≡ true → (after_steps j s xs).done k a b ≡ true
      pub few : length xs ≤ n

    -- The step that box n takes is permitted in its turn.
    in_turn_lem : (n : ℕ) (xs : List Step) → Part n xs → acts j prefs s.done n ≡ true → permits j (after_steps j s xs) (choice j prefs s.done n) ≡ true
    unfolding permits choice preferred
    in_turn_lem n xs q e = still j prefs s.done (after_steps j s xs).done n (λ k b. q.later k n b (omega arith)) q.more e

    past : (n a c : ℕ) → c ≡ n → suc n ≤ a → a ≡ c → ⊥
    past n a c e l q = omega arith

    none_yet : Part 0 []
    unfolding after_steps
    none_yet = record { goes = goes_none s o; later = λ k a b l. refl; more = λ k a b h. h; few = omega arith }

    one_step : (xs : List Step) (x : Step) → after_steps j s (xs ++ x ∷ []) ≡ effect_of j (after_steps j s xs) x
    unfolding after_steps
    one_step xs x = after_append j s xs (x ∷ [])

    next_yes : (n : ℕ) (xs : List Step) → Part n xs → acts j prefs s.done n ≡ true → Part (suc n) (xs ++ choice j prefs s.done n ∷ [])
    next_yes n xs q e =
        let x : Step = choice j prefs s.done n in
        record {
          goes = goes_on s xs (x ∷ []) q.goes (goes_one (after_steps j s xs) x q.goes.sound (in_turn_lem n xs q e));
          later = λ k a b l. rw (one_step xs x) (mark_later (after_steps j s xs) x k a b (past n a x.first (first_is j prefs s.done n) l) ∙ q.later k a b (omega arith));
          more = λ k a b h. rw (one_step xs x) (mark_kept (after_steps j s xs) x k a b (q.more k a b h));
          few = omega (arith, length-append xs (x ∷ []), q.few);
        }

    next_no : (n : ℕ) (xs : List Step) → Part n xs → acts j prefs s.done n ≡ false → Part (suc n) xs
    next_no n xs q e = record {
      goes = q.goes;
      later = λ k a b l. q.later k a b (omega arith);
      more = q.more;
      few = omega (arith, q.few);
    }

    pub part : (n : ℕ) → Part n (round j prefs s.done n)
    unfolding round
    part zero = none_yet
    part (suc n) =
        split (acts j prefs s.done n)
        (λ e. rw e (next_yes n (round j prefs s.done n) (part n) e))
        (λ e. rw (e, append-nil (round j prefs s.done n)) (next_no n (round j prefs s.done n) (part n) e))

  module _ (prefs : List ℕ) (every : (k : Kind) → (i : ℕ) × (i < 6) × (kind_of (get_or prefs i 0) ≡ k)) where
    -- What a trial from the state s comes to.
    pub record Ends (s : State) (rs : List (List Step)) : Type 0 where
      pub goes : Goes j s (taken_steps rs)
      pub done : AllDone j (after_steps j s (taken_steps rs)).done
      -- Rounds are at most the steps, and K times as many are enough.
      pub few : length rs ≤ length (taken_steps rs)
      pub many : length (taken_steps rs) ≤ length rs * j.boxes
      pub works : (i : ℕ) → i < length rs → 1 ≤ length (get_or rs i [])
      pub once : (b i : ℕ) → of_box b (get_or rs i []) ≤ 1
      pub idle : (b : ℕ) → idle_rounds b rs + of_box b (taken_steps rs) ≡ length rs

    ends_none : (s : State) → Sound j s → AllDone j s.done → Ends s []
    unfolding taken_steps after_steps of_box over idle_rounds
    ends_none s o a = record {
      goes = goes_none s o;
      done = a;
      few = omega arith;
      many = omega arith;
      works = λ i l. absurd (omega arith);
      once = λ b i. omega arith;
      idle = λ b. refl;
    }

    -- A box takes a step in a round or is idle in it.
    one_or_idle : (n : ℕ) → n ≤ 1 → only naturals (eqb n 0) 1 + n ≡ 1
    unfolding only naturals
    one_or_idle zero l = refl
    one_or_idle (suc n) l = let z : n ≡ 0 = omega arith in rw z refl

    in_all : (b : ℕ) (x : List Step) (rs : List (List Step)) → of_box b (taken_steps (x ∷ rs)) ≡ of_box b x + of_box b (taken_steps rs)
    unfolding taken_steps of_box
    in_all b x rs = over_append (λ k a c. only naturals (eqb a b) 1) x (taken_steps rs)

    ends_more : (s : State) (x : List Step) (rs : List (List Step)) → Goes j s x → 1 ≤ length x → length x ≤ j.boxes → ((b : ℕ) → of_box b x ≤ 1) → Ends (after_steps j s x) rs → Ends s (x ∷ rs)
    unfolding taken_steps idle_rounds
    ends_more s x rs g l m w h = record {
      goes = goes_on s x (taken_steps rs) g h.goes;
      done = rw (after_append j s x (taken_steps rs)) h.done;
      few = omega (arith, length-append x (taken_steps rs), h.few);
      many = omega (arith, length-append x (taken_steps rs), h.many);
      works = works_more;
      once = once_more;
      idle = λ b. omega (arith, in_all b x rs, one_or_idle (of_box b x) (w b), h.idle b);
    }
      where
        works_more : (i : ℕ) → i < length (x ∷ rs) → 1 ≤ length (get_or (x ∷ rs) i [])
        works_more zero k = l
        works_more (suc i) k = h.works i (omega arith)

        once_more : (b i : ℕ) → of_box b (get_or (x ∷ rs) i []) ≤ 1
        once_more b zero = w b
        once_more b (suc i) = h.once b i

    once_in : (d : Steps) (b : ℕ) → of_box b (round j prefs d j.boxes) ≤ 1
    once_in d b = omega (arith, box_of j prefs d b j.boxes, only_le (ltb b j.boxes && acts j prefs d b) 1)

    pub ends : (n : ℕ) (s : State) → Sound j s → size j (has_step j) ≤ size j s.done + n → Ends s (rounds j prefs n s)
    unfolding rounds
    ends zero s o h = ends_none s o (all_of_size j s.done o.closed (omega (arith, size_le j s.done (has_step j) o.closed.steps)))
    ends (suc n) s o h =
        split (eqb (ready_count j s.done) 0)
        (λ e. rw e (ends_none s o (none_ready j s.done r (eqb-true (ready_count j s.done) 0 e))))
        (λ e.
        let q = part prefs s o j.boxes in
        let (a, l, f) = some_ready j prefs s.done every e in
        let one : 1 ≤ length (round j prefs s.done j.boxes) = round_some j prefs s.done j.boxes a l f in
        rw e (ends_more s (round j prefs s.done j.boxes) (rounds j prefs n (after_steps j s (round j prefs s.done j.boxes))) q.goes one q.few (once_in s.done)
        (ends n (after_steps j s (round j prefs s.done j.boxes)) q.goes.sound (omega (arith, q.goes.grows)))))

    -- A trial ends as every evening does: all steps, each permitted in its turn; rounds at most the job's steps, and at least steps divided by K.
    pub trial_ends : Ends (fresh j) (trial j prefs)
    unfolding trial
    trial_ends = ends (step_count j) (fresh j) (sound_fresh j) (omega (arith, steps_number j))

    pub all_done_lem : AllDone j (done_of j (taken_steps (trial j prefs)))
    unfolding reached
    all_done_lem = rw (marked j r (taken_steps (trial j prefs))) at (rw (sym trial_ends.goes.same) at trial_ends.done)

    pub trial_steps : length (taken_steps (trial j prefs)) ≡ step_count j
    trial_steps = ap length (sym trial_ends.goes.takes) ∙ all_length j r (taken_steps (trial j prefs)) all_done_lem

    -- It ends in the state of every finished evening.
    pub trial_state_lem : trial_state j prefs ≡ state_by_rules j (has_step j)
    unfolding reached trial_state
    trial_state_lem = sym trial_ends.goes.same ∙ all_reached j r (taken_steps (trial j prefs)) all_done_lem

    trial_enough : step_count j ≤ length (trial j prefs) * j.boxes
    trial_enough = omega (arith, trial_steps, trial_ends.many)

    -- Rounds at least steps divided by K, rounded up.
    pub trial_least : 1 ≤ j.boxes → (step_count j + j.boxes - 1) / j.boxes ≤ length (trial j prefs)
    trial_least some =
        let n = length (trial j prefs) in
        let few : step_count j ≤ n * j.boxes = trial_enough in
        let l : (step_count j + j.boxes - 1) / j.boxes < n + 1 = (div-lt_iff_lt-mul some).1 (omega (arith, row_next n j.boxes)) in
        omega arith

    pub trial_is : 1 ≤ j.boxes → TrialEnds j prefs
    trial_is some = record {
      enough = trial_enough;
      works = trial_ends.works;
      once = trial_ends.once;
      at_most = omega (arith, trial_ends.few, trial_steps);
      at_least = trial_least some;
      steps = trial_steps;
      idle = trial_ends.idle;
    }

-- A preference list has each kind.
pub every_kind : (prefs : List ℕ) → is_preference prefs ≡ true → (k : Kind) → (i : ℕ) × (i < 6) × (kind_of (get_or prefs i 0) ≡ k)
unfolding is_preference
every_kind prefs h k =
    let n : ℕ = kind_number k - 1 in
    let one : count 6 (λ i. eqb (get_or prefs i 0) (suc n)) ≡ 1 =
    eqb-true (count 6 (λ i. eqb (get_or prefs i 0) (suc n))) 1 (all_at 6 (λ n. eqb (count 6 (λ i. eqb (get_or prefs i 0) (suc n))) 1) n (kind_six k) h) in
    let (i, l, e) = any_find 6 (λ i. eqb (get_or prefs i 0) (suc n)) (count_some 6 (λ i. eqb (get_or prefs i 0) (suc n)) (omega arith)) in
    (i, l, ap kind_of (eqb-true (get_or prefs i 0) (suc n) e) ∙ kind_place k)
