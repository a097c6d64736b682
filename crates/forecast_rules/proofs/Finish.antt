-- When all steps are done: the sums of the definition, nothing under way, and the words of the owner tables. Assumes nothing.
use mathlib.Core.Path.{◌≡◌, refl, ◌∙◌}
use mathlib.Core.Bool.{true, false}
use Prim.Native.Nat.{ℕ, ◌+◌, ◌*◌, ◌<◌, ◌≤◌}
use native.Mathlib.Omega.{arith}
use lib.Dec.{eqb, ltb}
use borrow.Author.Tests.{lt-ltb}
use Rattle.laws.proofs.Bools.{split, and_false, eqb_same, cond_same, not_both, and_swap}
use Rattle.laws.proofs.Below.{any_at}
use Rattle.model.specs.Job.{shares, total_word, prices_due, totals_due}
use Rattle.model.specs.Words.{owner_words}
use Rattle.forecast_rules.specs.Doubles.{zero+}
use Rattle.forecast_rules.specs.Lines.{Forecast, forecast_sum}
use Rattle.forecast_rules.specs.Steps.{send_values, receive_values, send_parts, receive_parts, sum_own, Steps, fits, has_step}
use Rattle.forecast_rules.specs.Boxes.{value_on_way, gone, part_on_way, part_held, sent_of, state_by_rules}
use Rattle.forecast_rules.specs.Evening.{Finished}
use Rattle.model.proofs.Range.{InRange}
use Rattle.forecast_rules.proofs.Parts.{part_none}
use Rattle.model.specs.Steps as Money
use Rattle.model.specs.Boxes as MoneyBoxes
use Rattle.model.proofs.Words as W

-- The messages that have gone, as money counts them.
unfoldable pub as_money : Steps → Money.Steps
as_money d Money.send_prices a b = d send_values a b
as_money d Money.multiply_own a b = false
as_money d Money.receive_prices a b = false
as_money d Money.send_totals a b = d send_parts a b
as_money d Money.add_own a b = false
as_money d Money.receive_totals a b = false

module _ (f : Forecast) where
  pub sent_money : (d : Steps) → (state_by_rules f d).sent ≡ (MoneyBoxes.state_by_rules f.job (as_money d)).sent
  unfolding state_by_rules sent_of MoneyBoxes.state_by_rules MoneyBoxes.sent_of as_money
  sent_money d = refl

  -- No list sends more words than the owner tables have.
  pub sent_most : InRange f.job → (d : Steps) → (state_by_rules f d).sent ≤ 15 * (f.job.offers + f.job.grocers)
  sent_most r d = omega (arith, sent_money d, W.sent_most f.job r (as_money d), W.owner_most f.job r)

  values_turn : (a b : ℕ) → has_step f receive_values a b ≡ has_step f send_values b a
  unfolding has_step fits
  values_turn a b = and_swap (ltb a f.job.boxes) (ltb b f.job.boxes) (prices_due f.job b a)

  parts_turn : (a b : ℕ) → has_step f receive_parts a b ≡ has_step f send_parts b a
  unfolding has_step fits
  parts_turn a b = and_swap (ltb a f.job.boxes) (ltb b f.job.boxes) (totals_due f.job b a)

  end_values : (b o : ℕ) → (state_by_rules f (has_step f)).value_transit b o ≡ zero+
  unfolding state_by_rules value_on_way
  end_values b o = simp (values_turn, not_both, and_false)

  end_transit : (b g : ℕ) → (state_by_rules f (has_step f)).part_transit b g ≡ zero+
  unfolding state_by_rules part_on_way
  end_transit b g = simp (parts_turn, not_both, and_false)

  end_sent : InRange f.job → (state_by_rules f (has_step f)).sent ≡ owner_words f.job
  unfolding MoneyBoxes.state_by_rules MoneyBoxes.sent_of as_money has_step fits Money.has_step Money.fits
  end_sent r = sent_money (has_step f) ∙ W.end_sent f.job r

  module _ (r : InRange f.job) (g : ℕ) (lg : g < f.job.grocers) where
    has_sum : has_step f sum_own (f.job.grocer_owner g) (f.job.grocer_owner g) ≡ true
    unfolding has_step fits
    has_sum = simp (lt-ltb (f.job.grocer_owner g) f.job.boxes (r.grocerOwner< g lg), eqb_same)

    end_sum : (state_by_rules f (has_step f)).forecast g ≡ forecast_sum f g
    unfolding state_by_rules
    end_sum = simp has_sum

    end_held : (b : ℕ) → (state_by_rules f (has_step f)).held b g ≡ zero+
    unfolding state_by_rules part_held
    end_held b = simp (has_sum, and_false)

    module _ (b : ℕ) (lb : b < f.job.boxes) where
      has_own : has_step f sum_own b b ≡ true
      unfolding has_step fits
      has_own = simp (lt-ltb b f.job.boxes lb, eqb_same)

      has_send : eqb (f.job.grocer_owner g) b ≡ false → shares f.job g b ≡ true → has_step f send_parts b (f.job.grocer_owner g) ≡ true
      unfolding has_step fits totals_due total_word
      has_send e s =
          simp (lt-ltb b f.job.boxes lb, lt-ltb (f.job.grocer_owner g) f.job.boxes (r.grocerOwner< g lg))
          (any_at f.job.grocers (total_word f.job b (f.job.grocer_owner g)) g lg (simp (eqb_same, e, s)))

      end_part : (state_by_rules f (has_step f)).part b g ≡ zero+
      unfolding state_by_rules gone
      end_part =
          split (eqb (f.job.grocer_owner g) b)
          (λ e. simp (e, has_own, and_false))
          (λ e. split (shares f.job g b)
          (λ s. simp (e, has_send e s, and_false))
          (λ s. simp (e, part_none f b g s, cond_same)))

  pub finished : InRange f.job → Finished f (state_by_rules f (has_step f))
  finished r = record {
    sums = end_sum r;
    no_parts = λ b g lb lg. end_part r g lg b lb;
    no_transit = end_transit;
    no_held = λ b g lg. end_held r g lg b;
    no_values = end_values;
    words_sent = end_sent r;
  }
