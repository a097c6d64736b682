-- The ready steps by rows: a row has the places of one kind and one first box.
use Rattle.std.specs.Prelude.{◌≡◌, Bool, true, List, ℕ, suc, ◌+◌, ◌-◌, ◌*◌, ◌/◌, ◌%◌, ◌≤◌, ◌<◌, length, get_or}
use Rattle.laws.specs.Below.{naturals, sum, count}
use Rattle.laws.specs.Masks.{mask_of}
use Rattle.model.specs.Steps.{Steps, kind_of, mark}
use Rattle.model.specs.Tables.{steps_done}
use Rattle.step_rules.specs.Rules.{permitted_by}
use Rattle.run_ready.specs.declared.ReadyRows.{ReadyRows}

-- The row of a kind and a first box, of k boxes.
abbrev pub row_of : ℕ → ℕ → ℕ → ℕ
row_of k kind a = (kind - 1) * k + a

-- There are 96 words and 96 counts.
abbrev pub IsLong : ReadyRows → Type 0
IsLong rows = (length rows.words ≡ 96) × (length rows.counts ≡ 96)

-- Row r has the second boxes, of k boxes, that f tells: its word has one bit for each, and its count is their number.
pub record HasRow (k : ℕ) (f : ℕ → Bool) (r : ℕ) (rows : ReadyRows) : Type 0 where
  pub word_is : get_or rows.words r 0 ≡ mask_of k f
  pub count_is : get_or rows.counts r 0 ≡ count k f

-- Each of the 6 × k rows has the places that f tells, in a table of 96 words and 96 counts.
pub record IsRows (k : ℕ) (f : ℕ → Bool) (rows : ReadyRows) : Type 0 where
  pub long : IsLong rows
  pub right : (r : ℕ) → r < 6 * k → HasRow k (λ b. f (r * k + b)) r rows

-- What the making of a row requires: a kind from 1 to 6, at most 16 boxes, box a one of them, and marks as many as they need.
pub record RowIn (k kind a : ℕ) (done : List ℕ) : Type 0 where
  pub kind_from : 1 ≤ kind
  pub kind_to : kind ≤ 6
  pub boxes_in : k ≤ 16
  pub a_in : a < k
  pub done_long : 6 * k * k ≤ length done

-- The counts of the first n rows together.
unfoldable pub rows_total : ReadyRows → ℕ → ℕ
rows_total rows n = sum naturals n (λ r. get_or rows.counts r 0)

-- Counts of rows that are at most 16.
pub record FewRows (k : ℕ) (rows : ReadyRows) : Type 0 where
  pub boxes_in : k ≤ 16
  pub few : (r : ℕ) → r < 6 * k → get_or rows.counts r 0 ≤ 16

-- Row i has the second boxes that f tells now, and the others have what they had.
pub record Renewed (k : ℕ) (f : ℕ → Bool) (i : ℕ) (rows rows' : ReadyRows) : Type 0 where
  pub long : IsLong rows'
  pub here : HasRow k f i rows'
  pub others : (r : ℕ) (g : ℕ → Bool) → r < 96 → (r ≡ i → ⊥) → HasRow k g r rows → HasRow k g r rows'

-- A place of a row, and a table of rows in which this row has at least `low` and at most 16 places.
pub record PlaceOf (k kind a b low : ℕ) (rows : ReadyRows) : Type 0 where
  pub kind_from : 1 ≤ kind
  pub kind_to : kind ≤ 6
  pub boxes_in : k ≤ 16
  pub a_in : a < k
  pub b_in : b < k
  pub long : IsLong rows
  pub some : low ≤ get_or rows.counts (row_of k kind a) 0
  pub few : get_or rows.counts (row_of k kind a) 0 ≤ 16

-- The rows from before a step was marked as done: it was one of the ready steps.
pub record RowsBefore (k kind a b : ℕ) (receivers : List ℕ) (waits : List (List ℕ)) (done : List ℕ) (rows : ReadyRows) : Type 0 where
  pub steps : Steps  -- those done before it
  pub marked : steps_done k done ≡ mark steps (kind_of kind) a b
  pub was_ready : permitted_by receivers waits steps (kind_of kind) a b ≡ true
  pub long : IsLong rows
  pub right : (r : ℕ) → r < 6 * k → HasRow k (permitted_by receivers waits steps (kind_of (suc (r / k))) (r % k)) r rows
