-- The sum of a grocer's part sums at its owner, told from tables and a mask.
use Rattle.std.specs.Prelude.{Bool, cond, not, ◌||◌, List, ℕ, ◌+◌, ◌*◌, eqb, get_or, Float}
use Rattle.laws.specs.Masks.{bit}
use Rattle.laws.specs.Below.{all}
use Rattle.forecast_rules.specs.Doubles.{zero+, is_sum, add_up}

-- The part sums of grocer g of m, of the first k boxes that are in the mask: box a's own, and the others held.
unfoldable pub owner_sum : ℕ → ℕ → ℕ → ℕ → ℕ → List Float → List Float → Float
owner_sum k m g a mask part held = add_up k (λ c. bit c mask) (λ c. cond (eqb c a) (get_or part (c * m + g) zero+) (get_or held (c * m + g) zero+))

-- Of the first n grocers those that box a owns have sums in range.
unfoldable pub sums_fit : ℕ → ℕ → ℕ → List ℕ → List ℕ → List Float → List Float → ℕ → Bool
sums_fit k m a owner sharers part held n = all n (λ g. not (eqb (get_or owner g 0) a) || is_sum (owner_sum k m g a (get_or sharers g 0) part held))

-- The forecast of grocer g after step 6 of box a: its sum where a owns it, and else as it was.
unfoldable pub summed_word : ℕ → ℕ → ℕ → List ℕ → List ℕ → List Float → List Float → List Float → ℕ → Float
summed_word k m a owner sharers part held forecast g = cond (eqb (get_or owner g 0) a) (owner_sum k m g a (get_or sharers g 0) part held)
    (get_or forecast g zero+)
