-- The part sums of the closed form, after steps 3 to 6. Assumes nothing.
use mathlib.Core.Path.{◌≡◌, refl, sym}
use mathlib.Core.Bool.{Bool, true, false, cond, ◌&&◌, ◌||◌, not}
use Prim.Native.Nat.{ℕ, ◌<◌}
use lib.Dec.{eqb}
use lib.Ieee.{Float, binary64, mul}
use borrow.Author.Tests.{eqb-true, lt-ltb}
use Rattle.laws.proofs.Bools.{split, and_l, and_r, and_true, and_false, eqb_same, cond_same, clash}
use Rattle.laws.proofs.Below.{any_none, any_at, all_at, any_find}
use Rattle.model.specs.Job.{held_by, shares, price_word, total_word, prices_due, totals_due}
use Rattle.forecast_rules.specs.Doubles.{zero+}
use Rattle.forecast_rules.specs.Lines.{Forecast, offer_value, of_part, part_at, part_sum, forecast_sum}
use Rattle.forecast_rules.specs.Steps.{receive_values, add_lines, send_parts, receive_parts, sum_own, kind_number, Steps, mark, fits, has_step, all_due, part_here, summed, effect}
use Rattle.forecast_rules.specs.Boxes.{knows, gone, part_on_way, part_held, state_by_rules}
use Rattle.model.proofs.Range.{InRange, held_lt}
use Rattle.model.proofs.Parts.{needs_at, word_at_lem}
use Rattle.forecast_rules.proofs.Sums.{add_up_same, add_up_none}

never : (t : Bool) (p : Float) → zero+ ≡ cond (t && false) p zero+
never true p = refl
never false p = refl

never2 : (t u : Bool) (p : Float) → zero+ ≡ cond (t && (u && false)) p zero+
never2 true u p = never u p
never2 false u p = refl

module _ (f : Forecast) where
  -- A box without a line of g has +0.0 of it.
  pub part_none : (b g : ℕ) → shares f.job g b ≡ false → part_sum f b g ≡ zero+
  unfolding part_sum part_at of_part shares
  part_none b g h =
      add_up_none f.job.tallies (of_part f b g) (λ i. mul binary64 (f.rate i) (offer_value f (f.job.tally_offer i)))
      (λ i l. any_none f.job.tallies (λ t. held_by f.job t b && eqb (f.job.tally_grocer t) g) i l h)

  module _ (r : InRange f.job) (d : Steps) where
    -- A box that has received all its values knows those of its lines.
    line_known : (a i : ℕ) → all_due f d receive_values a ≡ true → i < f.job.tallies → held_by f.job i a ≡ true → knows f d a (f.job.tally_offer i) ≡ true
    unfolding knows all_due has_step fits prices_due
    line_known a i h l y =
        split (eqb from a)
        (λ e. simp e)
        (λ e. simp (e, needs_at f.job i a l y) (rw (due e) at (all_at f.job.boxes (λ c. not (has_step f receive_values a c) || d receive_values a c) from here h)))
      where
        from : ℕ
        from = f.job.offer_owner (f.job.tally_offer i)

        here : from < f.job.boxes
        here = r.owner< (f.job.tally_offer i) (r.offer< i l)

        due : eqb from a ≡ false → has_step f receive_values a from ≡ true
        due e =
            and_true (lt-ltb a f.job.boxes (held_lt f.job i a y))
            (and_true (lt-ltb from f.job.boxes here)
            (any_at f.job.offers (price_word f.job from a) (f.job.tally_offer i) (r.offer< i l) (word_at_lem f.job i a l y e)))

    -- So what it adds up is its part sum.
    pub part_full : (a g : ℕ) → all_due f d receive_values a ≡ true → part_at f ((state_by_rules f d).known a) a g ≡ part_sum f a g
    unfolding part_sum part_at state_by_rules of_part
    part_full a g h =
        add_up_same f.job.tallies (of_part f a g) (λ i. mul binary64 (f.rate i) ((state_by_rules f d).known a (f.job.tally_offer i))) (λ i. mul binary64 (f.rate i) (offer_value f (f.job.tally_offer i)))
        (λ i l y. rw (line_known a i h l (and_l (held_by f.job i a) _ y)))

  module _ (d : Steps) (a b : ℕ) where
    pub add_part : InRange f.job → all_due f d receive_values a ≡ true → ((g : ℕ) → gone f d a g ≡ false) → (c g : ℕ) →
        (effect f (state_by_rules f d) add_lines a a).part c g ≡ (state_by_rules f (mark d add_lines a a)).part c g
    unfolding effect state_by_rules mark kind_number gone part_held summed
    add_part r h n c g =
        split (eqb c a)
        (λ e. rw (eqb-true c a e) (simp (eqb_same, n g) (part_full r d a g h)))
        (λ e. simp e)

    pub send_part : (c g : ℕ) → (effect f (state_by_rules f d) send_parts a b).part c g ≡ (state_by_rules f (mark d send_parts a b)).part c g
    unfolding effect state_by_rules mark kind_number gone part_on_way part_held total_word
    send_part c g =
        split (eqb c a)
        (λ e. split (eqb (f.job.grocer_owner g) b)
        (λ y. rw (eqb-true c a e, eqb-true (f.job.grocer_owner g) b y)
        (split (eqb b a)
        (λ z. simp (z, eqb_same, and_false))
        (λ z. split (shares f.job g a)
        (λ s. simp (z, s, eqb_same) (never (d add_lines a a) (part_sum f a g)))
        (λ s. simp (z, s, eqb_same, part_none a g s, cond_same)))))
        (λ y. simp (y, and_false)))
        (λ e. simp e)

    pub send_transit : d add_lines a a ≡ true → d send_parts a b ≡ false → d receive_parts b a ≡ false → (c g : ℕ) →
        (effect f (state_by_rules f d) send_parts a b).part_transit c g ≡ (state_by_rules f (mark d send_parts a b)).part_transit c g
    unfolding effect state_by_rules mark kind_number gone part_on_way part_held total_word
    send_transit h3 h4 h5 c g =
        split (eqb c a)
        (λ e. split (eqb (f.job.grocer_owner g) b)
        (λ y. rw (eqb-true c a e, eqb-true (f.job.grocer_owner g) b y)
        (split (eqb b a)
        (λ z. simp (z, eqb_same, and_false))
        (λ z. split (shares f.job g a)
        (λ s. simp (z, s, eqb_same, and_false, h3, h4, h5))
        (λ s. simp (z, s, eqb_same, and_false, part_none a g s, cond_same)))))
        (λ y. simp (y, and_false)))
        (λ e. simp e)

    pub receive_transit : (c g : ℕ) → (effect f (state_by_rules f d) receive_parts a b).part_transit c g ≡ (state_by_rules f (mark d receive_parts a b)).part_transit c g
    unfolding effect state_by_rules mark kind_number gone part_on_way part_held total_word
    receive_transit c g =
        split (eqb c b)
        (λ e. split (eqb (f.job.grocer_owner g) a)
        (λ y. rw (eqb-true c b e, eqb-true (f.job.grocer_owner g) a y)
        (split (eqb a b)
        (λ z. simp (z, eqb_same, and_false))
        (λ z. split (shares f.job g b)
        (λ s. simp (z, s, eqb_same) (never (d send_parts b a) (part_sum f b g)))
        (λ s. simp (z, s, eqb_same, and_false, part_none b g s, cond_same)))))
        (λ y. simp (y, and_false)))
        (λ e. simp (e, and_false))

    pub receive_held : d send_parts b a ≡ true → d receive_parts a b ≡ false → d sum_own a a ≡ false → (c g : ℕ) →
        (effect f (state_by_rules f d) receive_parts a b).held c g ≡ (state_by_rules f (mark d receive_parts a b)).held c g
    unfolding effect state_by_rules mark kind_number gone part_on_way part_held total_word
    receive_held h4 h5 h6 c g =
        split (eqb c b)
        (λ e. split (eqb (f.job.grocer_owner g) a)
        (λ y. rw (eqb-true c b e, eqb-true (f.job.grocer_owner g) a y)
        (split (eqb a b)
        (λ z. simp (z, eqb_same, and_false))
        (λ z. split (shares f.job g b)
        (λ s. simp (z, s, eqb_same, and_false, h4, h5, h6))
        (λ s. simp (z, s, eqb_same, and_false, part_none b g s, cond_same)))))
        (λ y. simp (y, and_false)))
        (λ e. simp (e, and_false))

    pub sum_part : (c g : ℕ) → (effect f (state_by_rules f d) sum_own a a).part c g ≡ (state_by_rules f (mark d sum_own a a)).part c g
    unfolding effect state_by_rules mark kind_number gone part_held summed
    sum_part c g =
        split (eqb c a)
        (λ e. split (eqb (f.job.grocer_owner g) a)
        (λ y. rw (eqb-true c a e)
        (split (shares f.job g a)
        (λ s. simp (y, s, eqb_same) (never (d add_lines a a) (part_sum f a g)))
        (λ s. simp (y, s, eqb_same, part_none a g s, cond_same))))
        (λ y. rw (eqb-true c a e) (simp (y, eqb_same))))
        (λ e. simp e)

    pub sum_held : (c g : ℕ) → (effect f (state_by_rules f d) sum_own a a).held c g ≡ (state_by_rules f (mark d sum_own a a)).held c g
    unfolding effect state_by_rules mark kind_number gone part_held summed
    sum_held c g =
        split (eqb (f.job.grocer_owner g) a)
        (λ y. rw (eqb-true (f.job.grocer_owner g) a y)
        (split (eqb c a)
        (λ e. rw (eqb-true c a e) (simp (eqb_same, and_false)))
        (λ e. split (shares f.job g c)
        (λ s. simp (e, s, eqb_same) (never2 (not (eqb a c)) (d receive_parts a c) (part_sum f c g)))
        (λ s. simp (e, s, eqb_same, and_false, part_none c g s, cond_same)))))
        (λ y. simp (y, and_false))

    module _ (r : InRange f.job) (la : a < f.job.boxes) (h3 : d add_lines a a ≡ true) (h5 : all_due f d receive_parts a ≡ true) (h6 : d sum_own a a ≡ false) where
      -- A part sum of a's grocer is there.
      here : (g c : ℕ) → f.job.grocer_owner g ≡ a → c < f.job.boxes → shares f.job g c ≡ true → part_here f (state_by_rules f d) a g c ≡ part_sum f c g
      unfolding part_here state_by_rules gone part_held all_due has_step fits totals_due total_word shares
      here g c o l s =
          split (eqb c a)
          (λ e. rw (eqb-true c a e) (simp (o, eqb_same, h3, h6)))
          (λ e. split (eqb a c)
          (λ z. absurd (clash (rw (sym (eqb-true a c z)) (eqb_same a)) e))
          (λ z. simp (o, e, z, eqb_same, h6, arrived e z)))
        where
          below : g < f.job.grocers
          below = let (t, m, y) = any_find f.job.tallies (λ t. held_by f.job t c && eqb (f.job.tally_grocer t) g) s in
              rw (eqb-true (f.job.tally_grocer t) g (and_r (held_by f.job t c) _ y)) at (r.grocer< t m)

          arrived : eqb c a ≡ false → eqb a c ≡ false → d receive_parts a c ≡ true
          arrived e z =
              rw (and_true (lt-ltb a f.job.boxes la) (and_true (lt-ltb c f.job.boxes l)
              (any_at f.job.grocers (total_word f.job c a) g below (simp (o, eqb_same, z) s))))
              at (all_at f.job.boxes (λ c. not (has_step f receive_parts a c) || d receive_parts a c) c l h5)

      pub sum_forecast : (g : ℕ) → (effect f (state_by_rules f d) sum_own a a).forecast g ≡ (state_by_rules f (mark d sum_own a a)).forecast g
      unfolding effect state_by_rules mark kind_number forecast_sum
      sum_forecast g =
          split (eqb (f.job.grocer_owner g) a)
          (λ y. simp (y)
          (add_up_same f.job.boxes (shares f.job g) (part_here f (state_by_rules f d) a g) (λ c. part_sum f c g) (λ c l s. here g c (eqb-true (f.job.grocer_owner g) a y) l s)))
          (λ y. simp y)
