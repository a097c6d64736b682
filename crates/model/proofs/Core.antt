-- The closed form is what the machine does: a permitted step takes the state of d to the state of d and that step. Assumes nothing.
use mathlib.Core.Path.{◌≡◌, refl, sym, subst}
use mathlib.Core.Bool.{true, false, ◌&&◌, not}
use Prim.Native.Nat.{ℕ, ◌<◌}
use lib.Dec.{eqb, ltb}
use borrow.Author.Tests.{not-true, eqb-true, ltb-true}
use Rattle.laws.specs.Below.{naturals, integers, sum, only}
use Rattle.laws.proofs.Bools.{and_l, and_r, and_false, or_false, no_true, clash, cond_same}
use Rattle.laws.proofs.Sums.{sum_none}
use Rattle.model.specs.Job.{Job}
use Rattle.model.specs.Steps.{Kind, send_prices, multiply_own, receive_prices, send_totals, add_own, receive_totals, Steps, mark, State, fits, has_step, added, ready, permitted, fresh, effect}
use Rattle.model.proofs.Range.{InRange}
use Rattle.model.specs.Boxes.{knows, price_on_way, gone, arrived, paid, sent_of, state_by_rules, Closed}
use Rattle.model.proofs.Parts.{part_zero, leaves}
use Rattle.model.proofs.Prices as P
use Rattle.model.proofs.Totals as W
use Rattle.model.proofs.Sent as S

-- Two states are equal when their tables are, word by word.
pub state_eq : (s t : State) →
    ((b o : ℕ) → s.known b o ≡ t.known b o) →
    ((b o : ℕ) → s.price_transit b o ≡ t.price_transit b o) →
    ((b g : ℕ) → s.working b g ≡ t.working b g) →
    ((b g : ℕ) → s.total_transit b g ≡ t.total_transit b g) →
    ((g : ℕ) → s.statement g ≡ t.statement g) →
    s.done ≡ t.done → s.sent ≡ t.sent → s ≡ t
state_eq s t k p w q m e n =
    λ i. record {
      known = λ b o. k b o i;
      price_transit = λ b o. p b o i;
      working = λ b g. w b g i;
      total_transit = λ b g. q b g i;
      statement = λ g. m g i;
      done = e i;
      sent = n i;
    }

-- A fresh state is that of no steps.
pub fresh_form : (j : Job) → fresh j ≡ state_by_rules j (λ k a b. false)
unfolding fresh state_by_rules knows price_on_way gone arrived added paid sent_of only naturals integers
fresh_form j =
    state_eq (fresh j) (state_by_rules j (λ k a b. false))
    (λ b o. rw (and_false, or_false))
    (λ b o. simp (and_false))
    (λ b g. simp (cond_same, part_zero j (added j (λ k a b. false)) b g (λ t. cond_same (eqb (j.offer_owner (j.tally_offer t)) (j.tally_box t)) false)))
    (λ b g. simp (cond_same))
    (λ g. sym (sum_none integers j.boxes (paid j (λ k a b. false) g) (λ b l. simp (cond_same))))
    refl
    (sym (sum_none naturals j.boxes (λ a. sum naturals j.boxes (sent_of j (λ k a b. false) a)) (λ a l.
    sum_none naturals j.boxes (sent_of j (λ k a b. false) a) (λ b m. refl))))

pub first< : (j : Job) (k : Kind) (a b : ℕ) → has_step j k a b ≡ true → a < j.boxes
unfolding has_step
first< j k a b h = ltb-true a j.boxes (and_l (ltb a j.boxes) _ h)

pub second< : (j : Job) (k : Kind) (a b : ℕ) → has_step j k a b ≡ true → b < j.boxes
unfolding has_step
second< j k a b h = ltb-true b j.boxes (and_l (ltb b j.boxes) _ (and_r (ltb a j.boxes) _ h))

-- The boxes of a step 2 or 5 are one.
pub one_box_lem : (j : Job) (a b : ℕ) → (ltb a j.boxes && (ltb b j.boxes && eqb a b)) ≡ true → a ≡ b
one_box_lem j a b h = eqb-true a b (and_r (ltb b j.boxes) _ (and_r (ltb a j.boxes) _ h))

-- What a permitted step has.
pub record Permit (j : Job) (d : Steps) (k : Kind) (a b : ℕ) : Type 0 where
  pub has : has_step j k a b ≡ true
  pub fresh_one : d k a b ≡ false
  pub is_ready : ready j d k a b ≡ true

pub permit : (j : Job) (d : Steps) (k : Kind) (a b : ℕ) → permitted j d k a b ≡ true → Permit j d k a b
unfolding permitted
permit j d k a b h = record {
  has = and_l (has_step j k a b) _ h;
  fresh_one = not-true (d k a b) (and_l (not (d k a b)) _ (and_r (has_step j k a b) _ h));
  is_ready = and_r (not (d k a b)) _ (and_r (has_step j k a b) _ h);
}

module _ (j : Job) (r : InRange j) (d : Steps) (c : Closed j d) where
  -- The steps that wait for an undone one are undone.
  not_yet : (k : Kind) (a b : ℕ) (k' : Kind) (a' b' : ℕ) → d k a b ≡ false → (ready j d k' a' b' ≡ true → d k a b ≡ true) → d k' a' b' ≡ false
  not_yet k a b k' a' b' h f = no_true (d k' a' b') (λ q. clash (f (c.in_order k' a' b' q)) h)

  pub step_form : (k : Kind) (a b : ℕ) → Permit j d k a b → effect j (state_by_rules j d) k a b ≡ state_by_rules j (mark d k a b)
  unfolding effect state_by_rules mark knows price_on_way added gone arrived paid sent_of ready has_step fits
  step_form send_prices a b p =
      state_eq (effect j (state_by_rules j d) send_prices a b) (state_by_rules j (mark d send_prices a b))
      (λ x o. refl)
      (P.send_transit j d a b p.fresh_one (not_yet send_prices a b receive_prices b a p.fresh_one (λ q. q)))
      (λ x g. refl) (λ x g. refl) (λ g. refl) refl
      (S.sent_prices j d a b (first< j send_prices a b p.has) (second< j send_prices a b p.has) p.fresh_one)
  step_form multiply_own a b p =
      subst (λ (b : ℕ). d multiply_own a b ≡ false → effect j (state_by_rules j d) multiply_own a b ≡ state_by_rules j (mark d multiply_own a b)) (one_box_lem j a b p.has)
      (λ h. state_eq (effect j (state_by_rules j d) multiply_own a a) (state_by_rules j (mark d multiply_own a a))
      (λ x o. refl) (λ x o. refl)
      (λ x g. W.multiply_working j r d c a h x g)
      (λ x g. refl) (λ g. refl) refl refl)
      p.fresh_one
  step_form receive_prices a b p =
      state_eq (effect j (state_by_rules j d) receive_prices a b) (state_by_rules j (mark d receive_prices a b))
      (P.receive_known j d a b p.is_ready p.fresh_one)
      (P.receive_transit j d a b p.is_ready p.fresh_one)
      (W.receive_working j r d c a b p.is_ready p.fresh_one)
      (λ x g. refl) (λ g. refl) refl refl
  step_form send_totals a b p =
      state_eq (effect j (state_by_rules j d) send_totals a b) (state_by_rules j (mark d send_totals a b))
      (λ x o. refl) (λ x o. refl)
      (W.send_working j r d c a b p.fresh_one)
      (λ x g. W.send_transit j r d c a b p.fresh_one x g (λ o. leaves j d a b g o p.is_ready) (not_yet send_totals a b receive_totals b a p.fresh_one (λ q. q)))
      (λ g. refl) refl
      (S.sent_totals j d a b (first< j send_totals a b p.has) (second< j send_totals a b p.has) p.fresh_one)
  step_form add_own a b p =
      subst (λ (b : ℕ). d add_own a b ≡ false → effect j (state_by_rules j d) add_own a b ≡ state_by_rules j (mark d add_own a b)) (one_box_lem j a b p.has)
      (λ h. state_eq (effect j (state_by_rules j d) add_own a a) (state_by_rules j (mark d add_own a a))
      (λ x o. refl) (λ x o. refl)
      (λ x g. W.add_working j r d a h g x)
      (λ x g. W.add_transit j r d a h g x)
      (λ g. W.add_statement j r d a h g (λ o. leaves j d a a g o p.is_ready) (first< j add_own a b p.has))
      refl refl)
      p.fresh_one
  step_form receive_totals a b p =
      state_eq (effect j (state_by_rules j d) receive_totals a b) (state_by_rules j (mark d receive_totals a b))
      (λ x o. refl) (λ x o. refl) (λ x g. refl)
      (λ x g. W.receive_totals_lem j d a b p.fresh_one g x)
      (λ g. W.receive_statement j d a b p.fresh_one g p.is_ready (second< j receive_totals a b p.has))
      refl refl
