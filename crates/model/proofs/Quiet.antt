-- ◆ T = 0: 2 × K steps, no words, for every job in range. Assumes nothing.
use mathlib.Core.Path.{◌≡◌, ap₂, ◌∙◌}
use mathlib.Core.Bool.{false, ◌&&◌, not}
use Prim.Native.Nat.{ℕ, ◌+◌, ◌*◌, ◌<◌}
use native.Mathlib.Omega.{arith}
use lib.Dec.{eqb}
use lib.Count.{ones}
use Rattle.laws.specs.Masks.{without}
use Rattle.laws.specs.Below.{naturals, any, count}
use Rattle.laws.proofs.Sums.{sum_none}
use Rattle.laws.proofs.Bools.{and_false}
use Rattle.laws.proofs.Below.{count_none, any_false}
use Rattle.model.specs.Job.{Job, needs, shares, need_word, sharer_word, price_word, total_word, prices_due, totals_due}
use Rattle.model.specs.Words.{owner_words, message_count, step_count}
use Rattle.model.proofs.Range.{InRange}
use Rattle.model.proofs.Words.{ones_others}

module _ (j : Job) (r : InRange j) (none : j.tallies ≡ 0) where
  no_needs : (o b : ℕ) → needs j o b ≡ false
  unfolding needs any
  no_needs o b = rw none

  no_shares : (g b : ℕ) → shares j g b ≡ false
  unfolding shares any
  no_shares g b = rw none

  no_price_words : (o : ℕ) → o < j.offers → ones (without (j.offer_owner o) (need_word j o)) ≡ 0
  unfolding need_word
  no_price_words o l =
      ones_others j.boxes (j.offer_owner o) (needs j o) r.boxes≤ (r.owner< o l) (λ b _. no_needs o b)
      ∙ count_none j.boxes (λ b. not (eqb (j.offer_owner o) b) && needs j o b) (any_false j.boxes (λ b. not (eqb (j.offer_owner o) b) && needs j o b) (λ b _. rw (no_needs o b) (and_false (not (eqb (j.offer_owner o) b)))))

  no_total_words : (g : ℕ) → g < j.grocers → ones (without (j.grocer_owner g) (sharer_word j g)) ≡ 0
  unfolding sharer_word
  no_total_words g l =
      ones_others j.boxes (j.grocer_owner g) (shares j g) r.boxes≤ (r.grocerOwner< g l) (λ b _. no_shares g b)
      ∙ count_none j.boxes (λ b. not (eqb (j.grocer_owner g) b) && shares j g b) (any_false j.boxes (λ b. not (eqb (j.grocer_owner g) b) && shares j g b) (λ b _. rw (no_shares g b) (and_false (not (eqb (j.grocer_owner g) b)))))

  pub no_tallies_words : owner_words j ≡ 0
  unfolding owner_words naturals
  no_tallies_words = ap₂ (λ (x y : ℕ). x + y)
      (sum_none naturals j.offers (λ o. ones (without (j.offer_owner o) (need_word j o))) no_price_words)
      (sum_none naturals j.grocers (λ g. ones (without (j.grocer_owner g) (sharer_word j g))) no_total_words)

  no_prices_due : (a b : ℕ) → prices_due j a b ≡ false
  unfolding prices_due price_word
  no_prices_due a b = any_false j.offers (price_word j a b) (λ o _. rw (no_needs o b) (simp and_false))

  no_totals_due : (a b : ℕ) → totals_due j a b ≡ false
  unfolding totals_due total_word
  no_totals_due a b = any_false j.grocers (total_word j a b) (λ g _. rw (no_shares g a) (simp and_false))

  pub no_tallies_steps : step_count j ≡ 2 * j.boxes
  unfolding step_count message_count naturals
  no_tallies_steps =
      omega (
        arith,
        sum_none naturals j.boxes (λ a. count j.boxes (λ b. prices_due j a b)) (λ a l. count_none j.boxes (λ b. prices_due j a b) (any_false j.boxes (λ b. prices_due j a b) (λ b _. no_prices_due a b))),
        sum_none naturals j.boxes (λ a. count j.boxes (λ b. totals_due j a b)) (λ a l. count_none j.boxes (λ b. totals_due j a b) (any_false j.boxes (λ b. totals_due j a b) (λ b _. no_totals_due a b))),
      )
