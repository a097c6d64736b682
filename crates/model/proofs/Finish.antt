-- When all steps are done: the plainSum sums, nothing under way, and the words of the owner tables. Assumes nothing.
use mathlib.Core.Path.{◌≡◌, ◌∙◌}
use mathlib.Core.Bool.{true, false}
use Prim.Native.Nat.{ℕ, ◌<◌}
use lib.Dec.{eqb, ltb}
use lib.IntN.{pos}
use borrow.Author.Tests.{lt-ltb}
use Rattle.laws.specs.Below.{integers, only}
use Rattle.laws.proofs.Bools.{split, and_false, eqb_same, and_one, cond_same, not_both, and_swap}
use Rattle.laws.proofs.Below.{any_at}
use Rattle.laws.proofs.Sums.{sum_cong}
use Rattle.model.specs.Job.{Job, shares, total_word, prices_due, totals_due, plain_sum}
use Rattle.model.specs.Steps.{send_prices, receive_prices, send_totals, add_own, receive_totals, Steps, fits, has_step, added}
use Rattle.model.specs.Demand3.{AllDone}
use Rattle.model.proofs.Range.{InRange}
use Rattle.model.specs.Boxes.{price_on_way, gone, arrived, part_of, paid, state_by_rules, Closed}
use Rattle.model.proofs.Marks as M
use Rattle.model.proofs.Reach.{rules, closed_by}
use Rattle.model.proofs.Parts.{part_none}
use Rattle.model.proofs.Running.{by_box}

-- A finished set is the job's steps.
pub all_steps : (j : Job) (d : Steps) → Closed j d → AllDone j d → d ≡ has_step j
unfolding AllDone
all_steps j d c f = M.all_steps (rules j) d (closed_by j d c) f

module _ (j : Job) where
  pub prices_turn : (a b : ℕ) → has_step j receive_prices a b ≡ has_step j send_prices b a
  unfolding has_step fits
  prices_turn a b = and_swap (ltb a j.boxes) (ltb b j.boxes) (prices_due j b a)

  pub totals_turn : (a b : ℕ) → has_step j receive_totals a b ≡ has_step j send_totals b a
  unfolding has_step fits
  totals_turn a b = and_swap (ltb a j.boxes) (ltb b j.boxes) (totals_due j b a)

  pub end_price_transit : (b o : ℕ) → (state_by_rules j (has_step j)).price_transit b o ≡ 0
  unfolding state_by_rules price_on_way
  end_price_transit b o = simp (prices_turn, not_both, and_false)

  pub end_total_transit : (b g : ℕ) → (state_by_rules j (has_step j)).total_transit b g ≡ pos 0
  unfolding state_by_rules gone arrived
  end_total_transit b g = split (eqb (j.grocer_owner g) b) (λ e. simp (e, not_both)) (λ e. simp (e, totals_turn, not_both))

  module _ (r : InRange j) (b g : ℕ) (lb : b < j.boxes) (lg : g < j.grocers) where
    has_own : has_step j add_own b b ≡ true
    unfolding has_step fits
    has_own = simp (lt-ltb b j.boxes lb, eqb_same)

    has_totals_lem : eqb (j.grocer_owner g) b ≡ false → shares j g b ≡ true → has_step j send_totals b (j.grocer_owner g) ≡ true
    unfolding has_step fits totals_due total_word
    has_totals_lem e s =
        simp (lt-ltb b j.boxes lb, lt-ltb (j.grocer_owner g) j.boxes (r.grocerOwner< g lg))
        (any_at j.grocers (total_word j b (j.grocer_owner g)) g lg (simp (eqb_same, e, s)))

    pub end_working : (state_by_rules j (has_step j)).working b g ≡ pos 0
    unfolding state_by_rules gone
    end_working =
        split (eqb (j.grocer_owner g) b)
        (λ e. simp (e, has_own))
        (λ e. split (shares j g b)
        (λ s. simp (e, has_totals_lem e s))
        (λ s. simp (e, part_none j (added j (has_step j)) b g s, cond_same)))

    pub end_paid : paid j (has_step j) g b ≡ part_of j (λ t. true) b g
    unfolding paid arrived only integers
    end_paid =
        split (eqb (j.grocer_owner g) b)
        (λ e. simp (e, has_own))
        (λ e. split (shares j g b)
        (λ s. simp (e, totals_turn, has_totals_lem e s))
        (λ s. simp (part_none j (λ t. true) b g s, cond_same)))

  pub end_statement : InRange j → (g : ℕ) → g < j.grocers → (state_by_rules j (has_step j)).statement g ≡ plain_sum j g
  unfolding state_by_rules plain_sum
  end_statement r g l =
      sum_cong integers j.boxes (paid j (has_step j) g) (λ b. part_of j (λ t. true) b g) (λ b m. end_paid r b g m l)
      ∙ by_box j (λ t. true) g
      ∙ simp and_one
