-- Until all steps are done, some step is permitted. Assumes nothing.
use mathlib.Core.Path.{◌≡◌, refl, ◌∙◌}
use mathlib.Core.Bool.{true, false, ◌&&◌, ◌||◌, not}
use Prim.Native.Nat.{ℕ, ◌<◌}
use lib.Dec.{eqb, ltb}
use borrow.Author.Tests.{lt-ltb, not-false}
use Rattle.laws.proofs.Bools.{split, and_l, and_swap, eqb_same, and_true, or_off}
use Rattle.laws.proofs.Below.{all_find, any_at}
use Rattle.model.specs.Job.{Job, prices_due, totals_due, held_by, price_word}
use Rattle.model.specs.Steps.{Kind, send_prices, multiply_own, receive_prices, send_totals, add_own, receive_totals, Steps, fits, has_step, ready, permitted, added, all_added}
use Rattle.model.specs.Demand3.{SomeStep}
use Rattle.model.proofs.Parts.{word_at_lem}
use Rattle.model.proofs.Range.{InRange, held_box, held_lt}

module _ (j : Job) (r : InRange j) (d : Steps) where
  -- Step found: it is permitted.
  permits : (k : Kind) (a b : ℕ) → has_step j k a b ≡ true → d k a b ≡ false → ready j d k a b ≡ true → SomeStep (permitted j d)
  unfolding permitted
  permits k a b h n y = record { kind = k; first = a; second = b; holds = simp (h, n, y) }

  -- A message that can be received can be sent.
  receive_turn : (a b : ℕ) → has_step j receive_prices a b ≡ true → has_step j send_prices b a ≡ true
  unfolding has_step fits
  receive_turn a b h = and_swap (ltb b j.boxes) (ltb a j.boxes) (prices_due j b a) ∙ h

  totals_turn : (a b : ℕ) → has_step j receive_totals a b ≡ true → has_step j send_totals b a ≡ true
  unfolding has_step fits
  totals_turn a b h = and_swap (ltb b j.boxes) (ltb a j.boxes) (totals_due j b a) ∙ h

  receipt : (a b : ℕ) → has_step j receive_prices a b ≡ true → d receive_prices a b ≡ false → SomeStep (permitted j d)
  unfolding ready
  receipt a b h n =
      split (d send_prices b a)
      (λ e. permits receive_prices a b h n e)
      (λ e. permits send_prices b a (receive_turn a b h) e refl)

  -- A tally of box a that is not added: the step that adds it, or the one before that, is permitted.
  unadded : (a t : ℕ) → t < j.tallies → held_by j t a ≡ true → added j d t ≡ false → SomeStep (permitted j d)
  unfolding added ready has_step fits prices_due
  unadded a t l y =
      let box : j.tally_box t ≡ a = held_box j t a y in
      let la : ltb a j.boxes ≡ true = lt-ltb a j.boxes (held_lt j t a y) in
      rw box (split (eqb (j.offer_owner (j.tally_offer t)) a)
      (λ e n. permits multiply_own a a (simp (la, eqb_same)) (rw e at n) refl)
      (λ e n. receipt a (j.offer_owner (j.tally_offer t)) (due la e) (rw e at n)))
    where
      due : ltb a j.boxes ≡ true → eqb (j.offer_owner (j.tally_offer t)) a ≡ false → has_step j receive_prices a (j.offer_owner (j.tally_offer t)) ≡ true
      due la e =
          and_true la
          (and_true (lt-ltb (j.offer_owner (j.tally_offer t)) j.boxes (r.owner< (j.tally_offer t) (r.offer< t l)))
          (any_at j.offers (price_word j (j.offer_owner (j.tally_offer t)) a) (j.tally_offer t) (r.offer< t l) (word_at_lem j t a l y e)))

  -- A step that waits for the tallies of box c's grocers: it, or the step that adds one of them, or the one before that, is permitted.
  after_added : (k : Kind) (a b c : ℕ) → has_step j k a b ≡ true → d k a b ≡ false → (ready j d k a b ≡ all_added j d a c) → SomeStep (permitted j d)
  unfolding all_added
  after_added k a b c h n y =
      split (all_added j d a c)
      (λ e. permits k a b h n (y ∙ e))
      (λ e.
      let (t, l, f) = all_find j.tallies (λ t. not (held_by j t a && eqb (j.grocer_owner (j.tally_grocer t)) c) || added j d t) e in
      let (u, v) = or_off (not (held_by j t a && eqb (j.grocer_owner (j.tally_grocer t)) c)) (added j d t) f in
      unadded a t l (and_l (held_by j t a) _ (not-false (held_by j t a && eqb (j.grocer_owner (j.tally_grocer t)) c) u)) v)

  pub progress : (k : Kind) (a b : ℕ) → has_step j k a b ≡ true → d k a b ≡ false → SomeStep (permitted j d)
  unfolding ready
  progress send_prices a b h n = permits send_prices a b h n refl
  progress multiply_own a b h n = permits multiply_own a b h n refl
  progress receive_prices a b h n = receipt a b h n
  progress send_totals a b h n = after_added send_totals a b b h n refl
  progress add_own a b h n = after_added add_own a b a h n refl
  progress receive_totals a b h n =
      split (d send_totals b a)
      (λ e. permits receive_totals a b h n e)
      (λ e. after_added send_totals b a a (totals_turn a b h) e refl)
