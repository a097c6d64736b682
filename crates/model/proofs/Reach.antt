-- Every state that a list of requests leaves has the closed form. Assumes nothing.
use mathlib.Core.Path.{◌≡◌, refl}
use mathlib.Core.Bool.{true, false, ◌&&◌, ◌||◌, not}
use mathlib.Core.List.{List, [], ◌∷◌}
use Prim.Native.Nat.{ℕ}
use lib.Dec.{eqb}
use Rattle.laws.proofs.Bools.{split, or_more}
use Rattle.laws.proofs.Below.{all_at, all_of_lem}
use Rattle.model.specs.Job.{Job, held_by}
use Rattle.model.specs.Steps.{Kind, send_prices, multiply_own, receive_prices, send_totals, add_own, receive_totals, Steps, mark, State, has_step, added, all_added, ready, fresh, effect, Step}
use Rattle.model.proofs.Range.{InRange}
use Rattle.model.specs.Boxes.{state_by_rules, Closed, Sound}
use Rattle.model.proofs.Marks as M
use Rattle.model.proofs.Machine.{kinds, attempt, attempt_all, permits}
use Rattle.model.proofs.Core.{fresh_form, Permit, permit, step_form}

module _ (d : Steps) (k : Kind) (a b : ℕ) where
  pub mark_more : (k' : Kind) (a' b' : ℕ) → d k' a' b' ≡ true → mark d k a b k' a' b' ≡ true
  unfolding mark
  mark_more = M.mark_more kinds d k a b

  pub mark_it : mark d k a b k a b ≡ true
  unfolding mark
  mark_it = M.mark_it kinds d k a b

-- With more steps done
module _ (j : Job) (d e : Steps) (more : (k : Kind) (a b : ℕ) → d k a b ≡ true → e k a b ≡ true) where
  -- a tally stays added,
  pub added_more : (t : ℕ) → added j d t ≡ true → added j e t ≡ true
  unfolding added
  added_more t =
      split (eqb (j.offer_owner (j.tally_offer t)) (j.tally_box t))
      (λ q. rw q (more multiply_own (j.tally_box t) (j.tally_box t)))
      (λ q. rw q (more receive_prices (j.tally_box t) (j.offer_owner (j.tally_offer t))))

  -- all tallies that box a holds of box b's grocers stay added,
  pub all_added_more : (a b : ℕ) → all_added j d a b ≡ true → all_added j e a b ≡ true
  unfolding all_added
  all_added_more a b h =
      all_of_lem j.tallies (λ t. not (held_by j t a && eqb (j.grocer_owner (j.tally_grocer t)) b) || added j e t) (λ t l.
      or_more (not (held_by j t a && eqb (j.grocer_owner (j.tally_grocer t)) b)) (added j d t) (added j e t) (added_more t)
      (all_at j.tallies (λ t. not (held_by j t a && eqb (j.grocer_owner (j.tally_grocer t)) b) || added j d t) t l h))

  -- and no step becomes unready.
  pub ready_more : (k : Kind) (a b : ℕ) → ready j d k a b ≡ true → ready j e k a b ≡ true
  unfolding ready
  ready_more send_prices a b h = refl
  ready_more multiply_own a b h = refl
  ready_more receive_prices a b h = more send_prices b a h
  ready_more send_totals a b h = all_added_more a b h
  ready_more add_own a b h = all_added_more a a h
  ready_more receive_totals a b h = more send_totals b a h

-- The settlement's steps as a machine.
abbrev pub rules : Job → M.Rules kinds
rules j = record { has = has_step j; ready = ready j; more = ready_more j }

abbrev pub closed_by : (j : Job) (d : Steps) → Closed j d → M.Closed (rules j) d
closed_by j d c = record { steps = c.steps; in_order = c.in_order }

pub closed_none : (j : Job) → Closed j (λ k a b. false)
closed_none j = let c = M.closed_none (rules j) in record { steps = c.steps; in_order = c.in_order }

pub closed_mark : (j : Job) (d : Steps) (k : Kind) (a b : ℕ) → Closed j d → Permit j d k a b → Closed j (mark d k a b)
unfolding mark
closed_mark j d k a b c p = let z = M.closed_mark (rules j) d k a b (closed_by j d c) p.has p.is_ready in record { steps = z.steps; in_order = z.in_order }

pub effect_done : (j : Job) (s : State) (k : Kind) (a b : ℕ) → (effect j s k a b).done ≡ mark s.done k a b
unfolding effect
effect_done j s send_prices a b = refl
effect_done j s multiply_own a b = refl
effect_done j s receive_prices a b = refl
effect_done j s send_totals a b = refl
effect_done j s add_own a b = refl
effect_done j s receive_totals a b = refl

pub sound_fresh : (j : Job) → Sound j (fresh j)
unfolding fresh
sound_fresh j = record { form = fresh_form j; closed = closed_none j }

module _ (j : Job) (r : InRange j) where
  marks_one : (s : State) (k : Kind) (a b : ℕ) → (effect j s k a b).done ≡ M.marked kinds s.done k a b
  unfolding mark
  marks_one = effect_done j

  one_form : (d : Steps) → M.Closed (rules j) d → (k : Kind) (a b : ℕ) → has_step j k a b ≡ true → d k a b ≡ false → ready j d k a b ≡ true →
      effect j (state_by_rules j d) k a b ≡ state_by_rules j (M.marked kinds d k a b)
  unfolding mark
  one_form d c k a b has new ready = step_form j r d (record { steps = c.steps; in_order = c.in_order }) k a b (record { has = has; fresh_one = new; is_ready = ready })

  abbrev form : M.Form (rules j) State
  form = record { done = λ s. s.done; effect = effect j; effect_done = marks_one; state_of = state_by_rules j; step_form = one_form }

  pub sound_effect : (s : State) (k : Kind) (a b : ℕ) → Sound j s → Permit j s.done k a b → Sound j (effect j s k a b)
  sound_effect s k a b o p = record {
    form = M.form_effect form s o.form (closed_by j s.done o.closed) k a b p.has p.fresh_one p.is_ready;
    closed = rw (effect_done j s k a b) (closed_mark j s.done k a b o.closed p);
  }

  pub sound_attempt : (s : State) (q : Step) → Sound j s → Sound j (attempt j s q)
  unfolding attempt permits
  sound_attempt s q o =
      split (permits j s q)
      (λ e. rw e (sound_effect s q.kind q.first q.second o (permit j s.done q.kind q.first q.second e)))
      (λ e. rw e o)

  pub sound_all : (s : State) (qs : List Step) → Sound j s → Sound j (attempt_all j s qs)
  unfolding attempt_all
  sound_all s [] o = o
  sound_all s (q ∷ qs) o = sound_all (attempt j s q) qs (sound_attempt s q o)
