-- Working totals, totals in transit and statements of the closed form, after steps 2 to 6. Assumes nothing.
use mathlib.Core.Path.{◌≡◌, refl, sym}
use mathlib.Core.Bool.{Bool, true, false, cond, ◌&&◌, not}
use Prim.Native.Nat.{ℕ, ◌<◌}
use lib.Dec.{eqb}
use lib.IntN.{ℤ, pos, ◌+ℤ◌, +ℤ_idl, +ℤ_idr}
use borrow.Author.Tests.{not-true, ne_eqb, eqb-true}
use Rattle.laws.specs.Below.{integers, only}
use Rattle.laws.proofs.Bools.{split, and_l, and_r, and_false, no_true, clash, eqb_same, not_both, cond_same}
use Rattle.laws.proofs.Sums.{sum_cong, sum_one}
use Rattle.model.specs.Job.{Job, shares, price_word, total_word}
use Rattle.model.specs.Steps.{send_prices, multiply_own, receive_prices, send_totals, add_own, receive_totals, Steps, mark, added, products, received, effect}
use Rattle.model.proofs.Range.{InRange, held_box}
use Rattle.model.specs.Boxes.{knows, price_on_way, gone, arrived, part_of, paid, state_by_rules, Closed}
use Rattle.model.proofs.Parts.{needs_at, part_none, part_same, part_grows, products_none, AllAdded, part_full, gone_added}

-- What a box works on grows by the tallies that are multiplied, unless its total of g is gone: then no tally of it is.
grown : (u : Bool) (w w' x : ℤ) → (u ≡ false → w' ≡ w +ℤ x) → (u ≡ true → x ≡ pos 0) → cond u (pos 0) w +ℤ x ≡ cond u (pos 0) w'
grown true w w' x f h = rw (h refl)
grown false w w' x f h = sym (f refl)

-- Step 2 of box a.
module _ (j : Job) (r : InRange j) (d : Steps) (c : Closed j d) (a : ℕ) (h : d multiply_own a a ≡ false) (x g : ℕ) where
  multiply_grown : part_of j (added j (mark d multiply_own a a)) a g
      ≡ part_of j (added j d) a g +ℤ products j ((state_by_rules j d).known a) (λ o. eqb (j.offer_owner o) a) a g
  unfolding added state_by_rules mark knows only integers
  multiply_grown =
      part_grows j (added j d) (added j (mark d multiply_own a a)) ((state_by_rules j d).known a) (λ o. eqb (j.offer_owner o) a) a g
      (λ t l y. let e : j.tally_box t ≡ a = held_box j t a y in rw e (split (eqb (j.offer_owner (j.tally_offer t)) a)
      (λ f. simp (f, eqb_same, h, +ℤ_idl))
      (λ f. simp (f, +ℤ_idr))))

  -- A tally of a gone total is not multiplied.
  multiply_none : gone j d a g ≡ true → products j ((state_by_rules j d).known a) (λ o. eqb (j.offer_owner o) a) a g ≡ pos 0
  unfolding AllAdded added
  multiply_none y =
      products_none j ((state_by_rules j d).known a) (λ o. eqb (j.offer_owner o) a) a g
      (λ t l e f. no_true (eqb (j.offer_owner (j.tally_offer t)) a) (λ q. clash (simp (held_box j t a e, q) at (gone_added j d c a g y t l e f)) h))

  multiply_kept : eqb x a ≡ false → part_of j (added j (mark d multiply_own a a)) x g ≡ part_of j (added j d) x g
  unfolding added mark
  multiply_kept e = part_same j (added j (mark d multiply_own a a)) (added j d) x g (λ t l f _. rw (held_box j t x f, e))

  pub multiply_working : (effect j (state_by_rules j d) multiply_own a a).working x g ≡ (state_by_rules j (mark d multiply_own a a)).working x g
  unfolding effect state_by_rules mark gone
  multiply_working =
      split (eqb x a)
      (λ e. rw (eqb-true x a e) (simp eqb_same (grown (gone j d a g) _ _ _ (λ _. multiply_grown) multiply_none)))
      (λ e. rw (e, multiply_kept e))

-- Step 3 of box a from box b.
module _ (j : Job) (r : InRange j) (d : Steps) (c : Closed j d) (a b : ℕ) (sent : d send_prices b a ≡ true) (h : d receive_prices a b ≡ false) (x g : ℕ) where
  receive_grown : part_of j (added j (mark d receive_prices a b)) a g
      ≡ part_of j (added j d) a g +ℤ products j (received j (state_by_rules j d) a b a) (price_word j b a) a g
  unfolding added state_by_rules mark knows price_on_way only integers received price_word
  receive_grown =
      part_grows j (added j d) (added j (mark d receive_prices a b)) (received j (state_by_rules j d) a b a) (price_word j b a) a g
      (λ t l y. let e : j.tally_box t ≡ a = held_box j t a y in rw e (split (eqb (j.offer_owner (j.tally_offer t)) b)
      (λ f. split (eqb (j.offer_owner (j.tally_offer t)) a)
      (λ u. simp (f, u, +ℤ_idr))
      (λ u. simp (eqb-true (j.offer_owner (j.tally_offer t)) b f, eqb_same, rw (eqb-true (j.offer_owner (j.tally_offer t)) b f) at u, h, sent, needs_at j t a l y, +ℤ_idl)))
      (λ f. simp (f, and_false, +ℤ_idr))))

  receive_none : gone j d a g ≡ true → products j (received j (state_by_rules j d) a b a) (price_word j b a) a g ≡ pos 0
  unfolding AllAdded added price_word
  receive_none y =
      products_none j (received j (state_by_rules j d) a b a) (price_word j b a) a g
      (λ t l e f. no_true (price_word j b a (j.tally_offer t)) (λ q.
      let from : j.offer_owner (j.tally_offer t) ≡ b = eqb-true (j.offer_owner (j.tally_offer t)) b (and_l (eqb (j.offer_owner (j.tally_offer t)) b) _ q) in
      let away : eqb (j.offer_owner (j.tally_offer t)) a ≡ false = not-true (eqb (j.offer_owner (j.tally_offer t)) a) (and_l (not (eqb (j.offer_owner (j.tally_offer t)) a)) _ (and_r (eqb (j.offer_owner (j.tally_offer t)) b) _ q)) in
      clash (rw (held_box j t a e, away, from) at (gone_added j d c a g y t l e f)) h))

  receive_kept : eqb x a ≡ false → part_of j (added j (mark d receive_prices a b)) x g ≡ part_of j (added j d) x g
  unfolding added mark
  receive_kept e = part_same j (added j (mark d receive_prices a b)) (added j d) x g (λ t l f _. rw (held_box j t x f, e))

  pub receive_working : (effect j (state_by_rules j d) receive_prices a b).working x g ≡ (state_by_rules j (mark d receive_prices a b)).working x g
  unfolding effect state_by_rules mark gone
  receive_working =
      split (eqb x a)
      (λ e. rw (eqb-true x a e) (simp eqb_same (grown (gone j d a g) _ _ _ (λ _. receive_grown) receive_none)))
      (λ e. rw (e, receive_kept e))

-- u: the grocer is the sender's own
left : (u p : Bool) (z w : ℤ) → cond (not u && true) z (cond (cond u p false) z w) ≡ cond (cond u p true) z w
left true p z w = refl
left false p z w = refl

under : (u p : Bool) (w v : ℤ) → w ≡ v →
    cond (not u && true) (cond (cond u p false) (pos 0) w) (cond (cond u p false && not (cond u p false)) v (pos 0))
    ≡ cond (cond u p true && not (cond u p false)) v (pos 0)
under true p w v e = refl
under false p w v e = e

-- Step 4 of box a to box b.
module _ (j : Job) (r : InRange j) (d : Steps) (c : Closed j d) (a b : ℕ) (h : d send_totals a b ≡ false) (x g : ℕ) where
  pub send_working : (effect j (state_by_rules j d) send_totals a b).working x g ≡ (state_by_rules j (mark d send_totals a b)).working x g
  unfolding effect state_by_rules mark gone added total_word
  send_working =
      split (eqb x a)
      (λ e. split (eqb (j.grocer_owner g) b)
      (λ f. split (shares j g a)
      (λ s. rw (eqb-true x a e, eqb-true (j.grocer_owner g) b f) (simp (eqb_same, s, h) (left (eqb b a) (d add_own a a) (pos 0) (part_of j (added j d) a g))))
      (λ s. rw (eqb-true x a e) (simp (s, part_none, and_false, cond_same))))
      (λ f. simp (f, and_false)))
      (λ e. simp e)

  pub send_transit : (j.grocer_owner g ≡ b → AllAdded j d a g) → d receive_totals b a ≡ false →
      (effect j (state_by_rules j d) send_totals a b).total_transit x g ≡ (state_by_rules j (mark d send_totals a b)).total_transit x g
  unfolding effect state_by_rules mark gone arrived total_word
  send_transit sw h6 =
      split (eqb x a)
      (λ e. split (eqb (j.grocer_owner g) b)
      (λ f. split (shares j g a)
      (λ s. rw (eqb-true x a e, eqb-true (j.grocer_owner g) b f)
      (simp (eqb_same, s, h, h6) (under (eqb b a) (d add_own a a) (part_of j (added j d) a g) (part_of j (λ t. true) a g) (part_full j d a g (sw (eqb-true (j.grocer_owner g) b f))))))
      (λ s. rw (eqb-true x a e) (simp (s, part_none, and_false, cond_same))))
      (λ f. simp (f, and_false)))
      (λ e. simp e)

-- Step 5 of box a.
module _ (j : Job) (r : InRange j) (d : Steps) (a : ℕ) (h : d add_own a a ≡ false) (g : ℕ) where
  pub add_working : (x : ℕ) → (effect j (state_by_rules j d) add_own a a).working x g ≡ (state_by_rules j (mark d add_own a a)).working x g
  unfolding effect state_by_rules mark gone added
  add_working x =
      split (eqb x a)
      (λ e. rw (eqb-true x a e) (split (eqb (j.grocer_owner g) a) (λ f. simp (eqb_same, f)) (λ f. simp (eqb_same, f))))
      (λ e. simp e)

  pub add_transit : (x : ℕ) → (effect j (state_by_rules j d) add_own a a).total_transit x g ≡ (state_by_rules j (mark d add_own a a)).total_transit x g
  unfolding effect state_by_rules mark gone arrived added
  add_transit x = split (eqb (j.grocer_owner g) x) (λ f. simp (f, not_both)) (λ f. simp f)

  pub add_statement : (j.grocer_owner g ≡ a → AllAdded j d a g) → a < j.boxes →
      (effect j (state_by_rules j d) add_own a a).statement g ≡ (state_by_rules j (mark d add_own a a)).statement g
  unfolding effect state_by_rules mark gone arrived added paid integers only
  add_statement sw l =
      split (eqb (j.grocer_owner g) a)
      (λ f. simp (f, h) (sym (sum_one integers j.boxes a (paid j d g) (paid j (mark d add_own a a) g) (part_of j (added j d) a g) l
      (simp (f, eqb_same, h, +ℤ_idl) (sym (part_full j d a g (sw (eqb-true (j.grocer_owner g) a f)))))
      (λ b m ne. simp (ne_eqb b a ne)))))
      (λ f. simp f (sum_cong integers j.boxes (paid j d g) (paid j (mark d add_own a a) g)
      (λ b m. split (eqb b a) (λ e. rw (eqb-true b a e) (simp f)) (λ e. simp e))))

taken : (u p q : Bool) (v : ℤ) →
    cond (not u && true) (pos 0) (cond (cond u p q && not (cond u p false)) v (pos 0)) ≡ cond (cond u p q && not (cond u p true)) v (pos 0)
taken true p q v = refl
taken false true true v = refl
taken false true false v = refl
taken false false true v = refl
taken false false false v = refl

-- Step 6 of box a from box b.
module _ (j : Job) (d : Steps) (a b : ℕ) (h : d receive_totals a b ≡ false) (g : ℕ) where
  pub receive_totals_lem : (x : ℕ) → (effect j (state_by_rules j d) receive_totals a b).total_transit x g ≡ (state_by_rules j (mark d receive_totals a b)).total_transit x g
  unfolding effect state_by_rules mark gone arrived added total_word
  receive_totals_lem x =
      split (eqb x b)
      (λ e. split (eqb (j.grocer_owner g) a)
      (λ f. split (shares j g b)
      (λ s. rw (eqb-true x b e, eqb-true (j.grocer_owner g) a f) (simp (eqb_same, s, h) (taken (eqb a b) (d add_own b b) (d send_totals b a) (part_of j (λ t. true) b g))))
      (λ s. rw (eqb-true x b e) (simp (s, part_none, and_false, cond_same))))
      (λ f. simp (f, and_false)))
      (λ e. simp (e, and_false))

  -- What the step does not pay.
  unpaid : (x : ℕ) → (eqb x b && total_word j b a g) ≡ false → paid j (mark d receive_totals a b) g x ≡ paid j d g x
  unfolding mark arrived paid total_word only integers
  unpaid x =
      split (eqb x b)
      (λ e. rw (eqb-true x b e) (split (eqb (j.grocer_owner g) a)
      (λ f. split (eqb (j.grocer_owner g) b)
      (λ u n. rw u)
      (λ u n. simp (part_none j (λ t. true) b g (simp (f, u, eqb_same) at n), cond_same)))
      (λ f n. rw f)))
      (λ e n. simp (e, and_false))

  -- What it pays.
  paid_now : total_word j b a g ≡ true → d send_totals b a ≡ true → paid j (mark d receive_totals a b) g b ≡ paid j d g b +ℤ (state_by_rules j d).total_transit b g
  unfolding state_by_rules mark gone arrived paid total_word only integers
  paid_now w h4 = simp (at_a, eqb_same, rw at_a at away, h, h4, +ℤ_idl)
    where
      at_a : j.grocer_owner g ≡ a
      at_a = eqb-true (j.grocer_owner g) a (and_l (eqb (j.grocer_owner g) a) _ w)

      away : eqb (j.grocer_owner g) b ≡ false
      away = not-true (eqb (j.grocer_owner g) b) (and_l (not (eqb (j.grocer_owner g) b)) _ (and_r (eqb (j.grocer_owner g) a) _ w))

  pub receive_statement : d send_totals b a ≡ true → b < j.boxes →
      (effect j (state_by_rules j d) receive_totals a b).statement g ≡ (state_by_rules j (mark d receive_totals a b)).statement g
  unfolding effect state_by_rules integers
  receive_statement h4 l =
      split (total_word j b a g)
      (λ w. rw w (sym (sum_one integers j.boxes b (paid j d g) (paid j (mark d receive_totals a b) g) ((state_by_rules j d).total_transit b g) l
      (paid_now w h4)
      (λ x m ne. unpaid x (rw (ne_eqb x b ne))))))
      (λ w. rw w (sym (sum_cong integers j.boxes (paid j (mark d receive_totals a b) g) (paid j d g) (λ x m. unpaid x (rw w (and_false (eqb x b)))))))
