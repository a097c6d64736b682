-- Sums and rows of a store, as inner functions give them: told from lists.
use Rattle.std.specs.Prelude.{◌≡◌, true, cond, List, ℕ, ◌+◌, ◌-◌, ◌*◌, ◌≤◌, ltb, ℤ, pos, ◌+ℤ◌, ◌-ℤ◌, get_or, length}
use Rattle.laws.specs.Below.{sum, integers}
use Rattle.model.specs.Ranges.{around}
use Rattle.cycle_history.specs.Store.{cycles, max_held}

-- What sums of m grocers require, where k rows leave: rows long enough, and amounts in range.
pub record SumsIn (m k : ℕ) (held : List ℤ) : Type 0 where
  pub grocers_in : m ≤ 255
  pub rows_in : k ≤ 13
  pub long : 13 * m ≤ length held
  pub amounts : around max_held (13 * m) held ≡ true

-- The amounts given and the sums of m grocers are there, and the amounts in range.
pub record KeptIn (m : ℕ) (given sums : List ℤ) : Type 0 where
  pub given_long : m ≤ length given
  pub sums_long_lem : m ≤ length sums
  pub given_in : around max_held m given ≡ true

-- The words of grocer g in the last k rows, added up.
unfoldable pub rows_leaving : ℕ → ℕ → List ℤ → ℕ → ℤ
rows_leaving m k held g = sum integers k (λ i. get_or held (((cycles - k) + i) * m + g) (pos 0))

-- The sum of grocer g afterwards.
unfoldable pub sum_next : ℕ → ℕ → List ℤ → List ℤ → List ℤ → ℕ → ℤ
sum_next m k amounts held sums g = (get_or sums g (pos 0) -ℤ rows_leaving m k held g) +ℤ get_or amounts g (pos 0)

-- Word p of the rows afterwards: an amount given, 0, or what stands `back` words before.
unfoldable pub word_moved : ℕ → ℕ → List ℤ → List ℤ → ℕ → ℤ
word_moved m back amounts held p = cond (ltb p m) (get_or amounts p (pos 0)) (cond (ltb p back) (pos 0) (get_or held (p - back) (pos 0)))
