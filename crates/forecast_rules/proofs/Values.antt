-- The value tables of the closed form, after steps 1 and 2. Assumes nothing.
use mathlib.Core.Path.{◌≡◌, refl}
use mathlib.Core.Bool.{Bool, true, false, cond, ◌&&◌, ◌||◌, not}
use Prim.Native.Nat.{ℕ}
use lib.Dec.{eqb}
use lib.Ieee.{Float}
use borrow.Author.Tests.{eqb-true}
use Rattle.laws.proofs.Bools.{split, and_false, eqb_same, and_one}
use Rattle.model.specs.Job.{needs, price_word}
use Rattle.forecast_rules.specs.Doubles.{zero+}
use Rattle.forecast_rules.specs.Lines.{Forecast, offer_value}
use Rattle.forecast_rules.specs.Steps.{send_values, receive_values, kind_number, Steps, mark, effect}
use Rattle.forecast_rules.specs.Boxes.{knows, value_on_way, state_by_rules}

-- u: the box is the owner; n: it needs the offer
arriving : (u n : Bool) (p : Float) → cond (not u && n) (cond (not u && n) p zero+) (cond (u || false) p zero+) ≡ cond (u || n) p zero+
arriving true n p = refl
arriving false true p = refl
arriving false false p = refl

emptied : (t : Bool) (p : Float) → cond t zero+ (cond t p zero+) ≡ zero+
emptied true p = refl
emptied false p = refl

module _ (f : Forecast) (d : Steps) (a b : ℕ) where
  pub send_transit : d send_values a b ≡ false → d receive_values b a ≡ false → (x o : ℕ) →
      (effect f (state_by_rules f d) send_values a b).value_transit x o ≡ (state_by_rules f (mark d send_values a b)).value_transit x o
  unfolding effect state_by_rules mark kind_number value_on_way knows price_word
  send_transit h1 h3 x o =
      split (eqb x b)
      (λ e. split (eqb (f.job.offer_owner o) a)
      (λ y. rw (eqb-true x b e, eqb-true (f.job.offer_owner o) a y) (simp (eqb_same, h1, h3, and_false, and_one)))
      (λ y. simp (y, and_false)))
      (λ e. simp (e, and_false))

  pub receive_known : d send_values b a ≡ true → d receive_values a b ≡ false → (x o : ℕ) →
      (effect f (state_by_rules f d) receive_values a b).known x o ≡ (state_by_rules f (mark d receive_values a b)).known x o
  unfolding effect state_by_rules mark kind_number value_on_way knows price_word
  receive_known h1 h3 x o =
      split (eqb x a)
      (λ e. split (eqb (f.job.offer_owner o) b)
      (λ y. rw (eqb-true x a e, eqb-true (f.job.offer_owner o) b y) (simp (eqb_same, h1, h3, and_false, and_one) (arriving (eqb b a) (needs f.job o a) (offer_value f o))))
      (λ y. simp (y, and_false)))
      (λ e. simp e)

  pub receive_transit : d send_values b a ≡ true → d receive_values a b ≡ false → (x o : ℕ) →
      (effect f (state_by_rules f d) receive_values a b).value_transit x o ≡ (state_by_rules f (mark d receive_values a b)).value_transit x o
  unfolding effect state_by_rules mark kind_number value_on_way knows price_word
  receive_transit h1 h3 x o =
      split (eqb x a)
      (λ e. split (eqb (f.job.offer_owner o) b)
      (λ y. rw (eqb-true x a e, eqb-true (f.job.offer_owner o) b y) (simp (eqb_same, h1, h3, and_false, and_one) (emptied (not (eqb b a) && needs f.job o a) (offer_value f o))))
      (λ y. simp (y, and_false)))
      (λ e. simp e)
