-- Every double of a state that a list of steps leaves is in range: 21 is never met. Assumes nothing.
use mathlib.Core.Path.{◌≡◌, refl}
use mathlib.Core.Bool.{Bool, true, cond, ◌&&◌, not}
use Prim.Native.Nat.{ℕ}
use lib.Ieee.{Float, le, lt, eq, of_bits, neg}
use Rattle.laws.proofs.Bools.{cond_either}
use Rattle.forecast_rules.specs.Doubles.{zero+, is_value, is_sum}
use Rattle.forecast_rules.specs.Lines.{Forecast, offer_value, part_sum, forecast_sum}
use Rattle.forecast_rules.specs.Steps.{add_lines, sum_own, Steps, State}
use Rattle.forecast_rules.specs.Boxes.{knows, value_on_way, gone, part_on_way, part_held, state_by_rules}
use Rattle.forecast_rules.proofs.Ranges.{Good, offer_in, part_in, forecast_in}

pub record Fits (s : State) : Type 0 where
  pub known : (b o : ℕ) → is_value (s.known b o) ≡ true
  pub value_transit : (b o : ℕ) → is_value (s.value_transit b o) ≡ true
  pub part : (b g : ℕ) → is_sum (s.part b g) ≡ true
  pub part_transit : (b g : ℕ) → is_sum (s.part_transit b g) ≡ true
  pub held : (b g : ℕ) → is_sum (s.held b g) ≡ true
  pub forecast : (g : ℕ) → is_sum (s.forecast g) ≡ true

pub zero_value : is_value zero+ ≡ true
unfolding is_value le lt eq of_bits neg
zero_value = refl

pub zero_sum : is_sum zero+ ≡ true
unfolding is_sum le lt eq of_bits neg
zero_sum = refl

value : (t : Bool) (x : Float) → is_value x ≡ true → is_value (cond t x zero+) ≡ true
value t x h = cond_either (λ x. is_value x ≡ true) t x zero+ h zero_value

total : (t : Bool) (x : Float) → is_sum x ≡ true → is_sum (cond t x zero+) ≡ true
total t x h = cond_either (λ x. is_sum x ≡ true) t x zero+ h zero_sum

pub closed_fits : (f : Forecast) → Good f → (d : Steps) → Fits (state_by_rules f d)
unfolding state_by_rules
closed_fits f y d = record {
  known = λ b o. value (knows f d b o) (offer_value f o) (offer_in f y o);
  value_transit = λ b o. value (value_on_way f d b o) (offer_value f o) (offer_in f y o);
  part = λ b g. total (d add_lines b b && not (gone f d b g)) (part_sum f b g) (part_in f y b g);
  part_transit = λ b g. total (part_on_way f d b g) (part_sum f b g) (part_in f y b g);
  held = λ b g. total (part_held f d b g) (part_sum f b g) (part_in f y b g);
  forecast = λ g. total (d sum_own (f.job.grocer_owner g) (f.job.grocer_owner g)) (forecast_sum f g) (forecast_in f y g);
}
