-- At each moment statements, working totals and totals in transit make the sum over the tallies added. Assumes nothing.
use mathlib.Core.Path.{◌≡◌, refl, sym, ap, ◌∙◌}
use mathlib.Core.Bool.{Bool, true, false, cond, ◌&&◌, not}
use Prim.Native.Nat.{ℕ, ◌<◌}
use lib.Dec.{eqb, ltb}
use lib.IntN.{ℤ, pos, ◌+ℤ◌, +ℤ_idl, +ℤ_idr}
use borrow.Author.Tests.{ne_eqb, lt-ltb, ltb-true}
use Rattle.laws.specs.Below.{integers, sum, only}
use Rattle.laws.proofs.Bools.{split, no_true, clash, eqb_same, and_false, and_one, and_assoc}
use Rattle.laws.proofs.Sums.{sum_cong, sum_none, sum_plus, sum_swap, sum_pick}
use Rattle.model.specs.Job.{held_by, Job, amount, held}
use Rattle.model.specs.Steps.{receive_totals, Steps, added, ready}
use Rattle.model.specs.Demand3.{together, added_sum}
use Rattle.model.proofs.Range.{InRange}
use Rattle.model.specs.Boxes.{gone, arrived, part_of, paid, state_by_rules, Closed}
use Rattle.model.proofs.Parts.{part_full, gone_added}

only_false : (x : ℤ) → pos 0 ≡ only integers false x
unfolding only integers
only_false x = refl

-- Of the boxes just its own holds a tally, if one does.
one_holder : (j : Job) (t : ℕ) (u : Bool) (x : ℤ) → sum integers j.boxes (λ b. only integers (held_by j t b && u) x) ≡ only integers (held j t && u) x
unfolding held held_by integers
one_holder j t u x =
    sum_cong integers j.boxes (λ b. only integers (eqb (j.tally_box t) b && ltb b j.boxes && u) x) (λ b. only integers (eqb (j.tally_box t) b && u) x)
    (λ b l. rw (lt-ltb b j.boxes l, and_one (eqb (j.tally_box t) b)))
    ∙ split (ltb (j.tally_box t) j.boxes)
    (λ e. sum_pick integers j.boxes (j.tally_box t) u x (ltb-true (j.tally_box t) j.boxes e) ∙ simp (e, eqb_same))
    (λ e. sum_none integers j.boxes (λ b. only integers (eqb (j.tally_box t) b && u) x) (λ b l. nothing b l e) ∙ simp (e, and_false) (empty x))
  where
    empty : (x : ℤ) → pos 0 ≡ only integers false x
    empty x = only_false x

    nothing : (b : ℕ) → b < j.boxes → ltb (j.tally_box t) j.boxes ≡ false → only integers (eqb (j.tally_box t) b && u) x ≡ pos 0
    nothing b l e = rw (ne_eqb (j.tally_box t) b (λ q. clash (lt-ltb (j.tally_box t) j.boxes (rw q l)) e)) (sym (only_false x))

-- Part totals of all boxes make a sum over tallies.
pub by_box : (j : Job) (p : ℕ → Bool) (g : ℕ) →
    sum integers j.boxes (λ b. part_of j p b g)
    ≡ sum integers j.tallies (λ t. only integers (held j t && eqb (j.tally_grocer t) g && p t) (amount j (j.price (j.tally_offer t)) t))
unfolding part_of
by_box j p g =
    sum_swap integers j.boxes j.tallies (λ b t. only integers (held_by j t b && eqb (j.tally_grocer t) g && p t) (amount j (j.price (j.tally_offer t)) t))
    ∙ sum_cong integers j.tallies
    (λ t. sum integers j.boxes (λ b. only integers (held_by j t b && eqb (j.tally_grocer t) g && p t) (amount j (j.price (j.tally_offer t)) t)))
    (λ t. only integers (held j t && eqb (j.tally_grocer t) g && p t) (amount j (j.price (j.tally_offer t)) t))
    (λ t l. simp and_assoc (one_holder j t (eqb (j.tally_grocer t) g && p t) (amount j (j.price (j.tally_offer t)) t)))

one_place : (t : Bool) (v : ℤ) → (pos 0 +ℤ cond (not t) v (pos 0)) +ℤ cond t v (pos 0) ≡ v
one_place true v = +ℤ_idl v
one_place false v = +ℤ_idr (pos 0 +ℤ v) ∙ +ℤ_idl v

module _ (j : Job) (r : InRange j) (d : Steps) (c : Closed j d) where
  arrived_gone : (b g : ℕ) → arrived j d b g ≡ true → gone j d b g ≡ true
  unfolding arrived gone ready
  arrived_gone b g =
      split (eqb (j.grocer_owner g) b)
      (λ e h. rw e (rw e at h))
      (λ e h. rw e (c.in_order receive_totals (j.grocer_owner g) b (rw e at h)))

  box_running : (b g : ℕ) → ((state_by_rules j d).working b g +ℤ (state_by_rules j d).total_transit b g) +ℤ paid j d g b ≡ part_of j (added j d) b g
  unfolding state_by_rules paid only integers
  box_running b g =
      split (gone j d b g)
      (λ e. simp (e, part_full j d b g (gone_added j d c b g e)) (one_place (arrived j d b g) (part_of j (λ t. true) b g)))
      (λ e. simp (e, no_true (arrived j d b g) (λ q. clash (arrived_gone b g q) e), +ℤ_idr))

  pub running : (g : ℕ) → together j (state_by_rules j d) g ≡ added_sum j d g
  unfolding integers state_by_rules together added_sum
  running g =
      ap (λ (x : ℤ). x +ℤ (state_by_rules j d).statement g) (sym (sum_plus integers j.boxes (λ b. (state_by_rules j d).working b g) (λ b. (state_by_rules j d).total_transit b g)))
      ∙ sym (sum_plus integers j.boxes (λ b. (state_by_rules j d).working b g +ℤ (state_by_rules j d).total_transit b g) (paid j d g))
      ∙ sum_cong integers j.boxes (λ b. ((state_by_rules j d).working b g +ℤ (state_by_rules j d).total_transit b g) +ℤ paid j d g b) (λ b. part_of j (added j d) b g) (λ b l. box_running b g)
      ∙ by_box j (added j d) g
