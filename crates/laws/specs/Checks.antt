-- Checks: several tests at once, and refusals in a fixed order.
use Rattle.std.specs.Prelude.{List, [], ◌∷◌, Bool, true, false, cond, ◌&&◌, ◌||◌, ℕ}

-- a, or one of the tests bs.
abbrev pub any_from : Bool → List Bool → Bool
any_from a [] = a
any_from a (b ∷ bs) = any_from (a || b) bs

-- One of the tests holds.
abbrev pub any_of : List Bool → Bool
any_of [] = false
any_of (b ∷ bs) = any_from b bs

-- a, and each of the tests bs.
abbrev pub all_from : Bool → List Bool → Bool
all_from a [] = a
all_from a (b ∷ bs) = all_from (a && b) bs

-- Each of the tests holds.
abbrev pub all_of : List Bool → Bool
all_of [] = true
all_of (b ∷ bs) = all_from b bs

-- Of conditions with their refusal numbers, the number of the first that is met; 0 where none is.
unfoldable pub first_met : List (Bool × ℕ) → ℕ
first_met [] = 0
first_met (r ∷ rs) = cond r.0 r.1 (first_met rs)
