-- No refusal, number 0, is met just where the step that is asked for is permitted. Assumes nothing.
use mathlib.Core.Path.{◌≡◌, refl, sym, ap, ◌∙◌}
use mathlib.Core.Bool.{Bool, true, false, cond, ◌&&◌, not, false≢true}
use Prim.Native.Nat.{ℕ, zero, suc}
use native.Mathlib.Omega.{arith}
use lib.Dec.{eqb, ltb}
use borrow.Author.Tests.{eqb-true, ne_eqb}
use Rattle.laws.proofs.Bools.{split, and_l, and_r, no_true, clash, eqb_same}
use Rattle.laws.proofs.Below.{any_find}
use Rattle.laws.specs.Checks.{first_met}
use Rattle.model.specs.Job.{Job, price_word, total_word, prices_due, totals_due}
use Rattle.model.specs.Steps.{Kind, send_prices, multiply_own, receive_prices, send_totals, add_own, receive_totals, Steps, fits, has_step, ready, permitted, kind_of, one_box}
use Rattle.model.specs.Step.{is_kind, boxes_fit, Asked, step_rules, refused, step_answer, is_accepted}

-- An answer accepts just where no condition is met,
pub accepted_zero : (n : ℕ) → is_accepted (step_answer n) ≡ eqb n 0
unfolding is_accepted step_answer
accepted_zero zero = refl
accepted_zero (suc n) = rw (ne_eqb (suc n) 0 (λ e. omega arith))

-- and else says the number of the first that is.
pub refused_number : (n : ℕ) → (n ≡ 0 → ⊥) → step_answer n ≡ refused n
unfolding step_answer
refused_number zero h = absurd (h refl)
refused_number (suc n) h = refl

-- No box sends to itself.
module _ (j : Job) where
  pub no_prices_lem : (a : ℕ) → prices_due j a a ≡ false
  unfolding prices_due price_word
  no_prices_lem a = no_true (prices_due j a a) (λ q.
      let (o, l, e) = any_find j.offers (price_word j a a) q in
      clash e (split (eqb (j.offer_owner o) a) (λ f. simp f) (λ f. simp f)))

  pub no_totals_lem : (a : ℕ) → totals_due j a a ≡ false
  unfolding totals_due total_word
  no_totals_lem a = no_true (totals_due j a a) (λ q.
      let (g, l, e) = any_find j.grocers (total_word j a a) q in
      clash e (split (eqb (j.grocer_owner g) a) (λ f. simp f) (λ f. simp f)))

  -- A step of two boxes that fits has two boxes.
  two_boxes : (k : Kind) (a : ℕ) → one_box k ≡ false → fits j k a a ≡ false
  unfolding one_box fits
  two_boxes send_prices a h = no_prices_lem a
  two_boxes multiply_own a h = absurd (false≢true (sym h))
  two_boxes receive_prices a h = no_prices_lem a
  two_boxes send_totals a h = no_totals_lem a
  two_boxes add_own a h = absurd (false≢true (sym h))
  two_boxes receive_totals a h = no_totals_lem a

  one_fits : (k : Kind) (a b : ℕ) → one_box k ≡ true → fits j k a b ≡ eqb a b
  unfolding one_box fits
  one_fits send_prices a b h = absurd (false≢true h)
  one_fits multiply_own a b h = refl
  one_fits receive_prices a b h = absurd (false≢true h)
  one_fits send_totals a b h = absurd (false≢true h)
  one_fits add_own a b h = refl
  one_fits receive_totals a b h = absurd (false≢true h)

  -- What fits has its boxes as the kind asks.
  fits_boxes : (k : Kind) (a b : ℕ) → (cond (one_box k) (eqb a b) (not (eqb a b)) && fits j k a b) ≡ fits j k a b
  fits_boxes k a b =
      split (one_box k)
      (λ e. rw (e, one_fits k a b e) (both (eqb a b)))
      (λ e. rw e (split (eqb a b)
      (λ f. rw (eqb-true a b f) (simp (eqb_same, two_boxes k b e)))
      (λ f. rw f)))
    where
      both : (t : Bool) → (t && t) ≡ t
      both true = refl
      both false = refl

  -- The first condition met is the one refused, and none is met where all tests pass.
  pub first_met_lem : (i x y z f d r : Bool) →
      eqb (cond (not i) 22 (cond (not (x && (y && z))) 23 (cond (not f) 24 (cond d 25 (cond (not r) 26 0))))) 0 ≡ (i && (x && (y && (z && f)) && (not d && r)))
  first_met_lem false x y z f d r = refl
  first_met_lem true false y z f d r = refl
  first_met_lem true true false z f d r = refl
  first_met_lem true true true false f d r = refl
  first_met_lem true true true true false d r = refl
  first_met_lem true true true true true true r = refl
  first_met_lem true true true true true false true = refl
  first_met_lem true true true true true false false = refl

  -- Number 0 is a permitted step.
  pub rules_zero : (d : Steps) (q : Asked) → eqb (first_met (step_rules j d q)) 0 ≡ (is_kind q.kind && permitted j d (kind_of q.kind) q.first q.second)
  unfolding step_rules first_met permitted boxes_fit has_step
  rules_zero d q =
      first_met_lem (is_kind q.kind) (ltb q.first j.boxes) (ltb q.second j.boxes) (cond (one_box (kind_of q.kind)) (eqb q.first q.second) (not (eqb q.first q.second)))
      (fits j (kind_of q.kind) q.first q.second) (d (kind_of q.kind) q.first q.second) (ready j d (kind_of q.kind) q.first q.second)
      ∙ ap (λ (t : Bool). is_kind q.kind && (ltb q.first j.boxes && (ltb q.second j.boxes && t) &&
      (not (d (kind_of q.kind) q.first q.second) && ready j d (kind_of q.kind) q.first q.second))) (fits_boxes (kind_of q.kind) q.first q.second)

  -- A step that the job has and that is not done: 26 refuses it where it is not ready, and no other number.
  pub rules_wait : (d : Steps) (q : Asked) → is_kind q.kind ≡ true → has_step j (kind_of q.kind) q.first q.second ≡ true → d (kind_of q.kind) q.first q.second ≡ false →
      first_met (step_rules j d q) ≡ cond (ready j d (kind_of q.kind) q.first q.second) 0 26
  unfolding step_rules first_met boxes_fit has_step
  rules_wait d q i h n =
      let k = kind_of q.kind in
      let first = and_l (ltb q.first j.boxes) _ h in
      let rest = and_r (ltb q.first j.boxes) _ h in
      let second = and_l (ltb q.second j.boxes) _ rest in
      let due = and_r (ltb q.second j.boxes) _ rest in
      let boxes = and_l (cond (one_box k) (eqb q.first q.second) (not (eqb q.first q.second))) _ (fits_boxes k q.first q.second ∙ due) in
      rw (i, first, second, boxes, due, n) (split (ready j d k q.first q.second) (λ e. rw e) (λ e. rw e))
