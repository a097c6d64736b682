-- Part totals of the closed form: what a box holds of the tallies that are added, and how multiplying adds to them. Assumes nothing.
use mathlib.Core.Path.{◌≡◌, ◌∙◌, refl}
use mathlib.Core.Bool.{Bool, true, false, ◌&&◌, ◌||◌, not}
use Prim.Native.Nat.{ℕ, ◌<◌}
use lib.Dec.{eqb}
use lib.IntN.{pos, ◌+ℤ◌}
use borrow.Author.Tests.{eqb-true}
use Rattle.laws.specs.Below.{integers, only}
use Rattle.laws.proofs.Bools.{split, and_true, and_l, and_r, and_false, eqb_same}
use Rattle.laws.proofs.Below.{any_at, all_at, any_none}
use Rattle.laws.proofs.Sums.{sum_cong, sum_none, sum_plus}
use Rattle.model.specs.Job.{held_by, Job, needs, shares, price_word, amount}
use Rattle.model.specs.Steps.{send_totals, add_own, Steps, added, all_added, ready, products}
use Rattle.model.specs.Boxes.{gone, part_of, Closed}

module _ (j : Job) where
  pub needs_at : (t b : ℕ) → t < j.tallies → held_by j t b ≡ true → needs j (j.tally_offer t) b ≡ true
  unfolding needs
  needs_at t b l h = any_at j.tallies (λ s. held_by j s b && eqb (j.tally_offer s) (j.tally_offer t)) t l (and_true h (eqb_same (j.tally_offer t)))

  -- The offer of a tally stands in a message to the tally's box, if another box owns it.
  pub word_at_lem : (t b : ℕ) → t < j.tallies → held_by j t b ≡ true → eqb (j.offer_owner (j.tally_offer t)) b ≡ false →
      price_word j (j.offer_owner (j.tally_offer t)) b (j.tally_offer t) ≡ true
  unfolding price_word
  word_at_lem t b l h e = simp (eqb_same, e, needs_at t b l h)

  -- A box without a tally of g has nothing of it.
  pub part_none : (p : ℕ → Bool) (b g : ℕ) → shares j g b ≡ false → part_of j p b g ≡ pos 0
  unfolding part_of shares only integers
  part_none p b g h =
      sum_none integers j.tallies (λ t. only integers (held_by j t b && eqb (j.tally_grocer t) g && p t) (amount j (j.price (j.tally_offer t)) t))
      (λ t l. rw (any_none j.tallies (λ t. held_by j t b && eqb (j.tally_grocer t) g) t l h))

  pub part_zero : (p : ℕ → Bool) (b g : ℕ) → ((t : ℕ) → p t ≡ false) → part_of j p b g ≡ pos 0
  unfolding part_of only integers
  part_zero p b g h =
      sum_none integers j.tallies (λ t. only integers (held_by j t b && eqb (j.tally_grocer t) g && p t) (amount j (j.price (j.tally_offer t)) t))
      (λ t l. simp (h t, and_false))

  -- Two tests that agree on the tallies of box b and grocer g give the same part total.
  pub part_same : (p q : ℕ → Bool) (b g : ℕ) → ((t : ℕ) → t < j.tallies → held_by j t b ≡ true → j.tally_grocer t ≡ g → p t ≡ q t) → part_of j p b g ≡ part_of j q b g
  unfolding part_of
  part_same p q b g h =
      sum_cong integers j.tallies (λ t. only integers (held_by j t b && eqb (j.tally_grocer t) g && p t) (amount j (j.price (j.tally_offer t)) t))
      (λ t. only integers (held_by j t b && eqb (j.tally_grocer t) g && q t) (amount j (j.price (j.tally_offer t)) t))
      (λ t l. split (held_by j t b && eqb (j.tally_grocer t) g)
      (λ e. rw (h t l ((and_l (held_by j t b) _ e)) (eqb-true (j.tally_grocer t) g (and_r (held_by j t b) _ e))))
      (λ e. rw e))

  -- What multiplying adds: of each tally of box b either the one test or the other passes, and the box knows the prices of those that pass.
  pub part_grows : (p p' : ℕ → Bool) (know : ℕ → ℕ) (q : ℕ → Bool) (b g : ℕ) →
      ((t : ℕ) → t < j.tallies → held_by j t b ≡ true →
      only integers (p' t) (amount j (j.price (j.tally_offer t)) t)
      ≡ only integers (p t) (amount j (j.price (j.tally_offer t)) t) +ℤ only integers (q (j.tally_offer t)) (amount j (know (j.tally_offer t)) t)) →
      part_of j p' b g ≡ part_of j p b g +ℤ products j know q b g
  unfolding part_of products integers only
  part_grows p p' know q b g h =
      sum_cong integers j.tallies (λ t. only integers (held_by j t b && eqb (j.tally_grocer t) g && p' t) (amount j (j.price (j.tally_offer t)) t))
      (λ t. only integers (held_by j t b && eqb (j.tally_grocer t) g && p t) (amount j (j.price (j.tally_offer t)) t)
      +ℤ only integers (held_by j t b && eqb (j.tally_grocer t) g && q (j.tally_offer t)) (amount j (know (j.tally_offer t)) t))
      (λ t l. split (held_by j t b && eqb (j.tally_grocer t) g)
      (λ e. rw e (h t l ((and_l (held_by j t b) (eqb (j.tally_grocer t) g) e))))
      (λ e. rw e))
      ∙ sum_plus integers j.tallies
      (λ t. only integers (held_by j t b && eqb (j.tally_grocer t) g && p t) (amount j (j.price (j.tally_offer t)) t))
      (λ t. only integers (held_by j t b && eqb (j.tally_grocer t) g && q (j.tally_offer t)) (amount j (know (j.tally_offer t)) t))

  -- Where no tally passes nothing is added.
  pub products_none : (know : ℕ → ℕ) (q : ℕ → Bool) (b g : ℕ) →
      ((t : ℕ) → t < j.tallies → held_by j t b ≡ true → j.tally_grocer t ≡ g → q (j.tally_offer t) ≡ false) → products j know q b g ≡ pos 0
  unfolding products only integers
  products_none know q b g h =
      sum_none integers j.tallies (λ t. only integers (held_by j t b && eqb (j.tally_grocer t) g && q (j.tally_offer t)) (amount j (know (j.tally_offer t)) t))
      (λ t l. split (held_by j t b && eqb (j.tally_grocer t) g)
      (λ e. simp (e, h t l ((and_l (held_by j t b) _ e)) (eqb-true (j.tally_grocer t) g (and_r (held_by j t b) _ e))))
      (λ e. rw e))

  -- Every tally of box b and grocer g is added.
  unfoldable pub AllAdded : Steps → ℕ → ℕ → Type 0
  AllAdded d b g = (t : ℕ) → t < j.tallies → held_by j t b ≡ true → j.tally_grocer t ≡ g → added j d t ≡ true

  pub part_full : (d : Steps) (b g : ℕ) → AllAdded d b g → part_of j (added j d) b g ≡ part_of j (λ t. true) b g
  unfolding AllAdded
  part_full d b g f = part_same (added j d) (λ t. true) b g f

  -- The rule of steps 4 and 5: what it lets go is added. The only place that reads the rule.
  pub leaves : (d : Steps) (a b g : ℕ) → j.grocer_owner g ≡ b → all_added j d a b ≡ true → AllAdded d a g
  unfolding AllAdded all_added
  leaves d a b g o h t l e q =
      rw (e, q, o, eqb_same b) at (all_at j.tallies (λ t. not (held_by j t a && eqb (j.grocer_owner (j.tally_grocer t)) b) || added j d t) t l h)

  -- What is gone was added.
  pub gone_added : (d : Steps) → Closed j d → (b g : ℕ) → gone j d b g ≡ true → AllAdded d b g
  unfolding gone ready
  gone_added d c b g =
      split (eqb (j.grocer_owner g) b)
      (λ e h. leaves d b b g (eqb-true (j.grocer_owner g) b e) (c.in_order add_own b b (rw e at h)))
      (λ e h. leaves d b (j.grocer_owner g) g refl (c.in_order send_totals b (j.grocer_owner g) (rw e at h)))
