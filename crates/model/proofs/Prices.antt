-- The price tables of the closed form, after steps 1 and 3. Assumes nothing.
use mathlib.Core.Path.{◌≡◌, refl}
use mathlib.Core.Bool.{Bool, true, false, cond, ◌&&◌, ◌||◌, not}
use Prim.Native.Nat.{ℕ}
use lib.Dec.{eqb}
use borrow.Author.Tests.{eqb-true}
use Rattle.laws.proofs.Bools.{split, and_false, eqb_same, and_one}
use Rattle.model.specs.Job.{Job, needs, price_word}
use Rattle.model.specs.Steps.{send_prices, receive_prices, Steps, mark, received, effect}
use Rattle.model.specs.Boxes.{knows, price_on_way, state_by_rules}

-- u: the box is the owner; n: it needs the offer
arriving : (u n : Bool) (p : ℕ) → cond (not u && n) (cond (not u && n) p 0) (cond (u || false) p 0) ≡ cond (u || n) p 0
arriving true n p = refl
arriving false true p = refl
arriving false false p = refl

emptied : (t : Bool) (p : ℕ) → cond t 0 (cond t p 0) ≡ 0
emptied true p = refl
emptied false p = refl

module _ (j : Job) (d : Steps) (a b : ℕ) where
  pub send_transit : d send_prices a b ≡ false → d receive_prices b a ≡ false → (x o : ℕ) →
      (effect j (state_by_rules j d) send_prices a b).price_transit x o ≡ (state_by_rules j (mark d send_prices a b)).price_transit x o
  unfolding effect received state_by_rules mark price_on_way knows price_word
  send_transit h1 h3 x o =
      split (eqb x b)
      (λ e. split (eqb (j.offer_owner o) a)
      (λ f. rw (eqb-true x b e, eqb-true (j.offer_owner o) a f) (simp (eqb_same, h1, h3, and_false, and_one)))
      (λ f. simp (f, and_false)))
      (λ e. simp (e, and_false))

  pub receive_known : d send_prices b a ≡ true → d receive_prices a b ≡ false → (x o : ℕ) →
      (effect j (state_by_rules j d) receive_prices a b).known x o ≡ (state_by_rules j (mark d receive_prices a b)).known x o
  unfolding effect received state_by_rules mark price_on_way knows price_word
  receive_known h1 h3 x o =
      split (eqb x a)
      (λ e. split (eqb (j.offer_owner o) b)
      (λ f. rw (eqb-true x a e, eqb-true (j.offer_owner o) b f) (simp (eqb_same, h1, h3, and_false, and_one) (arriving (eqb b a) (needs j o a) (j.price o))))
      (λ f. simp (f, and_false)))
      (λ e. simp e)

  pub receive_transit : d send_prices b a ≡ true → d receive_prices a b ≡ false → (x o : ℕ) →
      (effect j (state_by_rules j d) receive_prices a b).price_transit x o ≡ (state_by_rules j (mark d receive_prices a b)).price_transit x o
  unfolding effect received state_by_rules mark price_on_way knows price_word
  receive_transit h1 h3 x o =
      split (eqb x a)
      (λ e. split (eqb (j.offer_owner o) b)
      (λ f. rw (eqb-true x a e, eqb-true (j.offer_owner o) b f) (simp (eqb_same, h1, h3, and_false, and_one) (emptied (not (eqb b a) && needs j o a) (j.price o))))
      (λ f. simp (f, and_false)))
      (λ e. simp e)
