-- What the steps of a forecast do to its tables of doubles, told from lists.
use Rattle.std.specs.Prelude.{◌≡◌, Bool, cond, ◌&&◌, not, List, ℕ, ◌+◌, ◌*◌, ◌<◌, ◌≤◌, eqb, get_or, length, Float}
use Rattle.laws.specs.Tables.{recell}
use Rattle.step_places.specs.Message.{word_in}
use Rattle.forecast_rules.specs.Doubles.{zero+}
use Rattle.forecast_doubles.specs.Moves.{Moved, Copied, summed_in}

-- What a message of n words between boxes a and b asks of owners, masks and the two tables: rows for both boxes.
pub record MessageIn (n a b : ℕ) (owner mask : List ℕ) (x y : List Float) : Type 0 where
  pub first_in : a < 16
  pub second_in : b < 16
  pub owner_long_lem : n ≤ length owner
  pub mask_long_lem : n ≤ length mask
  pub x_first : a * n + n ≤ length x
  pub x_second : b * n + n ≤ length x
  pub y_first : a * n + n ≤ length y
  pub y_second : b * n + n ≤ length y

-- Steps 1 and 2 of boxes a and b.
pub record ValuesMoved (n kind a b : ℕ) (owner needs : List ℕ) (known transit known' transit' : List Float) : Type 0 where
  pub sent : kind ≡ 1 → (known' ≡ known) × Copied (a * n) (b * n) n (word_in owner needs a b) known transit transit'
  pub received : kind ≡ 2 → Moved (a * n) n (word_in owner needs b a) transit known transit' known'

-- Steps 4 and 5 of boxes a and b.
pub record PartsMoved (m kind a b : ℕ) (owner sharers : List ℕ) (part transit held part' transit' held' : List Float) : Type 0 where
  pub sent : kind ≡ 4 → (held' ≡ held) × Moved (a * m) m (word_in owner sharers b a) part transit part' transit'
  pub received : kind ≡ 5 → (part' ≡ part) × Moved (b * m) m (word_in owner sharers a b) transit held transit' held'

-- Box c, another box than a, has part sum i held by a, which owns its grocer and sums it in step 6.
unfoldable pub held_summed : List ℕ → List ℕ → ℕ → ℕ → ℕ → Bool
held_summed owner sharers a c i = not (eqb c a) && summed_in owner sharers a c i

-- The part sums held, of k boxes and m grocers, after step 6 of box a: those summed are +0.0.
unfoldable pub held_after : ℕ → ℕ → ℕ → List ℕ → List ℕ → List Float → List Float
held_after k m a owner sharers held = recell k m (λ c g. cond (held_summed owner sharers a c g) zero+ (get_or held (c * m + g) zero+)) held
