-- 34, told from lists.
use Rattle.std.specs.Prelude.{Bool, cond, ◌&&◌, ◌||◌, not, false, List, ℕ, ◌-◌, eqb, get_or, Float}
use Rattle.laws.specs.Below.{any}
use Rattle.forecast_rules.specs.Doubles.{zero+, is_value, same_bits}

-- Line i is out of range.
unfoldable pub outside : List Float → List Float → ℕ → Bool
outside rate value i = not (is_value (get_or rate i zero+) && is_value (get_or value i zero+))

-- It is, or its value has not the bits of that of line `last` − 1, where there is one.
unfoldable pub line_bad : ℕ → ℕ → List Float → List Float → Bool
line_bad i last rate value = outside rate value i || cond (eqb last 0) false (not (same_bits (get_or value (last - 1) zero+) (get_or value i zero+)))

-- Lines h and i are of one offer and differ in the bits of its value.
unfoldable pub pair_bad : List ℕ → List Float → ℕ → ℕ → Bool
pair_bad offer value h i = eqb (get_or offer h 0) (get_or offer i 0) && not (same_bits (get_or value h zero+) (get_or value i zero+))

-- 34 is met by the first n lines.
unfoldable pub bad_lines : ℕ → List ℕ → List Float → List Float → Bool
bad_lines n offer rate value = any n (outside rate value) || any n (λ i. any i (λ h. pair_bad offer value h i))
