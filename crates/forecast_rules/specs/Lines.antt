-- A forecast: its lines, the value of an offer, and the sums in the fixed order.
use Rattle.std.specs.Prelude.{Bool, cond, ◌&&◌, ◌||◌, not, ℕ, zero, suc, eqb, Float}
use Rattle.std.specs.Float.{binary64}
use Rattle.std.specs.Float.Ieee.{mul}
use Rattle.laws.specs.Below.{any}
use Rattle.model.specs.Job.{Job, held_by, shares}
use Rattle.forecast_rules.specs.Doubles.{zero+, add_up, is_value, same_bits}

-- Lines take the place of a job's tallies, so needs, sharers and messages are those of `job`: it is read for K, M, N, the owners and each line's grocer,
-- box and offer, and never for prices and counts, which are 0.
pub record Forecast : Type 0 where
  pub job : Job
  pub rate : ℕ → Float  -- of a line
  pub value : ℕ → Float  -- of a line: its offer's value

module _ (f : Forecast) where
  -- The value of the last of the first n lines that is of offer o, or +0.0 where none is.
  unfoldable pub value_in : ℕ → ℕ → Float
  value_in zero o = zero+
  value_in (suc n) o = cond (eqb (f.job.tally_offer n) o) (f.value n) (value_in n o)

  -- The value of an offer: that of each of its lines, which have the same bits (34). An offer without lines has the value +0.0.
  unfoldable pub offer_value : ℕ → Float
  offer_value o = value_in f.job.tallies o

  -- Line i is of box b and grocer g.
  unfoldable pub of_part : ℕ → ℕ → ℕ → Bool
  of_part b g i = held_by f.job i b && eqb (f.job.tally_grocer i) g

  -- What box b adds up for grocer g at the values that it knows: rate × value, rounded, from +0.0 in list order.
  unfoldable pub part_at : (ℕ → Float) → ℕ → ℕ → Float
  part_at know b g = add_up f.job.tallies (of_part b g) (λ i. mul binary64 (f.rate i) (know (f.job.tally_offer i)))

  -- The part sum of box b for grocer g.
  unfoldable pub part_sum : ℕ → ℕ → Float
  part_sum b g = part_at offer_value b g

  -- THE definition of a grocer's forecast: the part sums of the boxes that have a line for it, its owner included, from +0.0 in ascending box number.
  unfoldable pub forecast_sum : ℕ → Float
  forecast_sum g = add_up f.job.boxes (shares f.job g) (λ b. part_sum b g)

  -- 34: a line's rate or value is not finite or beyond ±1,000,000,
  unfoldable pub line_outside : Bool
  line_outside = any f.job.tallies (λ i. not (is_value (f.rate i) && is_value (f.value i)))

  -- or two lines of one offer, of whatever boxes, differ in the bits of its value.
  unfoldable pub values_differ : Bool
  values_differ =
      any f.job.tallies (λ i. any i (λ h. eqb (f.job.tally_offer h) (f.job.tally_offer i) && not (same_bits (f.value h) (f.value i))))

  -- 34.
  unfoldable pub bad_line : Bool
  bad_line = line_outside || values_differ
