-- The step that a box takes in its turn is the one that the rules of a trial say, of every job with these words. Assumes nothing.
use mathlib.Core.Path.{◌≡◌, refl, sym, ap, ◌∙◌, subst}
use Rattle.std.specs.Prelude.{Option, Some, None}
use mathlib.Core.Bool.{Bool, true, false}
use mathlib.Core.List.{List, [], ◌∷◌, append-nil, append_assoc}
use Prim.Native.Nat.{ℕ, ◌+◌, ◌*◌, ◌/◌, ◌%◌, ◌<◌}
use native.Mathlib.Omega.{arith}
use native.Mathlib.Nat.{mod-lt, div-lt_iff_lt-mul}
use lib.ListN.{get_or, set}
use Rattle.laws.specs.Below.{any}
use Rattle.laws.proofs.Below.{any_cong, find_cong}
use Rattle.model.specs.Job.{Job}
use Rattle.model.specs.Steps.{kind_of, Steps, Step, step_at, permitted}
use Rattle.model.specs.Tables.{steps_done}
use Rattle.step_places.specs.declared.Step.{Step as Numbered}
use Rattle.step_places.specs.Marks.{marked}
use Rattle.step_places.specs.Order.{steps_in, mark_all, no_steps}
use Rattle.step_places.specs.Places.{here}
use Rattle.step_rules.specs.Rules.{ReceiversOf, WaitsOf}
use Rattle.run_ready.specs.declared.ReadyRows.{ReadyRows}
use Rattle.run_ready.specs.Walk.{listed_by}
use Rattle.run_order.specs.Order.{OfJob, SoFar}
use Rattle.trial_rules.specs.Rounds.{preferred, has_ready, acts, choice, round}
use Rattle.trial_rounds.specs.Taken.{Liking, likes, First, Best, Ready, Acted, RoundPart}
use Rattle.step_places.proofs.Places.{step_here}
use Rattle.step_places.proofs.Left.{and_step, Open}
use Rattle.step_rules.proofs.InModel.{permitted_is}
use Rattle.run_ready.proofs.InModel.{listed_at}
use Rattle.run_order.proofs.Found.{marked_steps, place-below}
use Rattle.run_order.proofs.SoFar.{put_so_far, steps_more}
use Rattle.trial_rules.proofs.Preferences.{kind_in}
use Rattle.trial_rules.proofs.Rounds.{still}
use Rattle.trial_rounds.proofs.Marks.{mark_append, round_yes, round_no, later, more, open_room}

module _ (j : Job) (receivers : List ℕ) (waits : List (List ℕ)) (hr : ReceiversOf j receivers) (hw : WaitsOf j waits) (list : List ℕ) (w : Liking j.boxes list) (done₀ : List ℕ) where
  -- The steps done when the round began.
  abbrev d₀ : Steps
  d₀ = steps_done j.boxes done₀

  -- What box a likes.
  abbrev liked : ℕ → ℕ → Bool
  liked a = likes j.boxes list (listed_by j.boxes receivers waits done₀) a

  likes_is : (a : ℕ) → a < j.boxes → (i : ℕ) → i < 6 * j.boxes → liked a i ≡ has_ready j list d₀ a i
  unfolding has_ready preferred
  likes_is a la i l =
      let (from, to) = kind_in list w.is_list (i / j.boxes) ((div-lt_iff_lt-mul {k = j.boxes} w.some).1 l) in
      let lb = mod-lt i w.some in
      sym (listed_at j.boxes (get_or list (i / j.boxes) 0) a (i % j.boxes) receivers waits done₀ (record { boxes_in = w.boxes_in; kind_from = from; kind_to = to; a_in = la; b_in = lb }))
      ∙ permitted_is j receivers waits hr hw (kind_of (get_or list (i / j.boxes) 0)) d₀ a (i % j.boxes) la lb

  acts_is : (a : ℕ) → a < j.boxes → any (6 * j.boxes) (liked a) ≡ acts j list d₀ a
  unfolding acts
  acts_is a la = any_cong (6 * j.boxes) (liked a) (has_ready j list d₀ a) (likes_is a la)

  -- The step found is the one that the box takes.
  choice_is : (a kind first second : ℕ) → a < j.boxes → First j.boxes list (listed_by j.boxes receivers waits done₀) a kind first second →
      choice j list d₀ a ≡ record { kind = kind_of kind; first = a; second = second }
  unfolding choice preferred
  choice_is a kind first second la g =
      rw (← (find_cong (6 * j.boxes) (liked a) (has_ready j list d₀ a) (likes_is a la)), g.kind_is, g.second_is)

  -- The turn of box a.
  module _ (order₀ : List ℕ) (n₀ : ℕ) (p₀ : SoFar j done₀ order₀ n₀) (a : ℕ) (la : a < j.boxes) (done order : List ℕ) (n : ℕ) (p : RoundPart j list done₀ order₀ n₀ a done order n) where
    abbrev d : Steps
    d = steps_done j.boxes done

    marks_now : d ≡ mark_all d₀ (round j list d₀ a)
    marks_now =
        p.so_far.marks_are
        ∙ ap (mark_all no_steps) p.steps
        ∙ mark_append no_steps (steps_in j.boxes n₀ order₀) (round j list d₀ a)
        ∙ ap (λ (u : Steps). mark_all u (round j list d₀ a)) (sym p₀.marks_are)

    module _ (kind first second : ℕ) (it : First j.boxes list (listed_by j.boxes receivers waits done₀) a kind first second) where
      abbrev x : Step
      x = step_at j.boxes (here j.boxes kind a second)

      acts_now : acts j list d₀ a ≡ true
      acts_now = sym (acts_is a la) ∙ it.likes_one

      choice_here : choice j list d₀ a ≡ x
      choice_here = choice_is a kind first second la it ∙ sym (step_here j kind a second it.place_in)

      -- It is still permitted.
      open_choice : permitted j d (choice j list d₀ a).kind a (choice j list d₀ a).second ≡ true
      open_choice =
          still j list d₀ d a
          (λ k b. rw marks_now (later j list d₀ a k a b (omega arith)))
          (λ k a' b h. rw marks_now (more j list d₀ a k a' b h))
          acts_now

      is_open : permitted j d (kind_of kind) a second ≡ true
      is_open = rw (choice_is a kind first second la it) at open_choice

      open_here : Open j d x
      open_here = rw (step_here j kind a second it.place_in) is_open

      has_room : n < 1536
      has_room = open_room j done order n p.so_far w.boxes_in x open_here

      may_take : Ready j.boxes kind a second receivers waits n done
      may_take = record {
        place_in = it.place_in;
        is_open = permitted_is j receivers waits hr hw (kind_of kind) d a second la it.place_in.b_in ∙ is_open;
        room = has_room;
      }

      taken : (done' order' : List ℕ) → done' ≡ marked j.boxes (kind_of kind) a second done → order' ≡ set order n (here j.boxes kind a second) → RoundPart j list done₀ order₀ n₀ (a + 1) done' order' (n + 1)
      taken done' order' ed eo =
          let marks : steps_done j.boxes done' ≡ and_step d x =
          rw (ed, step_here j kind a second it.place_in) (marked_steps j.boxes (kind_of kind) a second done la it.place_in.b_in) in
          let below = place-below j.boxes kind a second it.place_in in
          record {
            so_far = put_so_far j done order n p.so_far has_room (here j.boxes kind a second) below open_here done' marks order' eo;
            steps = steps_more j done order n p.so_far has_room (here j.boxes kind a second) below open_here done' marks order' eo
                ∙ rw (p.steps, round_yes j list d₀ a acts_now, choice_here) (append_assoc (steps_in j.boxes n₀ order₀) (round j list d₀ a) (x ∷ []));
          }

    not_taken : any (6 * j.boxes) (liked a) ≡ false → RoundPart j list done₀ order₀ n₀ (a + 1) done order n
    not_taken none = record { so_far = p.so_far; steps = rw (round_no j list d₀ a (sym (acts_is a la) ∙ none)) p.steps }

-- A round begins.
pub part_none : (j : Job) (list done order : List ℕ) (n : ℕ) → SoFar j done order n → RoundPart j list done order n 0 done order n
unfolding round
part_none j list done order n p = record { so_far = p; steps = sym (append-nil (steps_in j.boxes n order)) }

-- The first boxes are so many, by another name.
pub part_end : (j : Job) (list done order : List ℕ) (n i m : ℕ) (done' order' : List ℕ) (n' : ℕ) → i ≡ m → RoundPart j list done order n i done' order' n' → RoundPart j list done order n m done' order' n'
part_end j list done order n i m done' order' n' e p = subst (λ (x : ℕ). RoundPart j list done order n x done' order' n') e p

-- The same, for k boxes.
module _ (k : ℕ) (receivers : List ℕ) (waits : List (List ℕ)) (list : List ℕ) (w : Liking k list) (j : Job) (o : OfJob k receivers waits j) (done₀ order₀ : List ℕ) (n₀ : ℕ) (p₀ : SoFar j done₀ order₀ n₀)
    (a : ℕ) (la : a < k) (done order : List ℕ) (n : ℕ) (p : RoundPart j list done₀ order₀ n₀ a done order n) where
  -- The step that the box takes is one that may be taken,
  pub may_of : (s : Option Numbered) → Best k list (listed_by k receivers waits done₀) a s → (q : Numbered) → s ≡ Some q → Ready k q.kind q.first q.second receivers waits n done
  may_of s g q e =
      let it : First k list (listed_by k receivers waits done₀) a q.kind q.first q.second = subst (Best k list (listed_by k receivers waits done₀) a) e g in
      rw (it.first_is, ← o.boxes_are)
      (may_take j receivers waits o.receivers_are o.waits_are list (rw o.boxes_are w) done₀ order₀ n₀ p₀ a (rw o.boxes_are la) done order n p q.kind q.first q.second (rw o.boxes_are it))

  -- and once it is, the next box has its turn.
  pub turn_of : (s : Option Numbered) → Best k list (listed_by k receivers waits done₀) a s → (done' : List ℕ) (rows' : ReadyRows) (order' : List ℕ) (n' : ℕ) →
      Acted k s receivers waits n done order done' rows' order' n' → RoundPart j list done₀ order₀ n₀ (a + 1) done' order' n'
  turn_of None g done' rows' order' n' t =
      let (ed, eo, en) = t.none refl in
      rw (ed, eo, en) (not_taken j receivers waits o.receivers_are o.waits_are list (rw o.boxes_are w) done₀ order₀ n₀ p₀ a (rw o.boxes_are la) done order n p (rw o.boxes_are g))
  turn_of (Some q) g done' rows' order' n' t =
      let (ed, eo, en) = t.some q refl in
      rw en
      (taken j receivers waits o.receivers_are o.waits_are list (rw o.boxes_are w) done₀ order₀ n₀ p₀ a (rw o.boxes_are la) done order n p q.kind q.first q.second (rw o.boxes_are g) done' order'
      (rw o.boxes_are (rw g.first_is at ed)) (rw o.boxes_are (rw g.first_is at eo)))
