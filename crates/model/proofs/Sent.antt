-- Words sent in the closed form, after steps 1 and 4. Assumes nothing.
use mathlib.Core.Path.{◌≡◌, sym}
use mathlib.Core.Bool.{false}
use Prim.Native.Nat.{ℕ, ◌<◌}
use native.Mathlib.Omega.{arith}
use Rattle.laws.specs.Below.{naturals, only, count}
use Rattle.laws.proofs.Bools.{eqb_same}
use Rattle.laws.proofs.Sums.{table_one}
use Rattle.model.specs.Job.{Job, price_word, total_word}
use Rattle.model.specs.Steps.{send_prices, send_totals, Steps, mark, effect}
use Rattle.model.specs.Boxes.{sent_of, state_by_rules}
use Rattle.model.proofs.Marks.{sent_other}

module _ (j : Job) (d : Steps) (a b : ℕ) where
  pub sent_prices : a < j.boxes → b < j.boxes → d send_prices a b ≡ false →
      (effect j (state_by_rules j d) send_prices a b).sent ≡ (state_by_rules j (mark d send_prices a b)).sent
  unfolding effect state_by_rules mark sent_of only naturals
  sent_prices la lb h =
      sym (table_one naturals j.boxes j.boxes a b (sent_of j d) (sent_of j (mark d send_prices a b)) (count j.offers (price_word j a b)) la lb
      (simp (eqb_same, h) (omega arith))
      (λ i k ne. simp (sent_other a b i k ne)))

  pub sent_totals : a < j.boxes → b < j.boxes → d send_totals a b ≡ false →
      (effect j (state_by_rules j d) send_totals a b).sent ≡ (state_by_rules j (mark d send_totals a b)).sent
  unfolding effect state_by_rules mark sent_of only naturals
  sent_totals la lb h =
      sym (table_one naturals j.boxes j.boxes a b (sent_of j d) (sent_of j (mark d send_totals a b)) (count j.grocers (total_word j a b)) la lb
      (simp (eqb_same, h) (omega arith))
      (λ i k ne. simp (sent_other a b i k ne)))
