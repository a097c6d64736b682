-- Statements to which a span of totals is added.
use Rattle.std.specs.Prelude.{List, ℕ, zero, suc, ◌+◌, ◌*◌, ◌≤◌, ◌<◌, length, get_or, set, ℤ, pos, nat_abs, ◌+ℤ◌}
use Rattle.laws.specs.Limits.{max_lists, max_amount}
use Rattle.model.specs.Spans.{beside}

-- The statements once the totals at n places from a place on are added, each to that of the grocer of its place.
unfoldable pub credit_span : ℕ → ℕ → List ℕ → List ℤ → List ℤ → List ℤ
credit_span zero from grocers source statement = statement
credit_span (suc n) from grocers source statement =
    set (credit_span n from grocers source statement) (get_or grocers (from + n) 0)
    (get_or (credit_span n from grocers source statement) (get_or grocers (from + n) 0) (pos 0) +ℤ get_or source (from + n) (pos 0))

-- What adding a span of words requires: at most 2,040, each with a grocer that has a statement, and amounts in range. Other statements may be anything.
pub record CreditIn (from to : ℕ) (grocers : List ℕ) (source statement : List ℤ) : Type 0 where
  pub order : from ≤ to
  pub few : to ≤ from + 2_040
  pub grocers_long : to ≤ length grocers
  pub source_long : to ≤ length source
  pub grocer_in : (i : ℕ) → from ≤ i → i < to → get_or grocers i 0 < length statement
  pub source_in : (i : ℕ) → from ≤ i → i < to → nat_abs (get_or source i (pos 0)) ≤ max_amount
  pub statement_in : (i : ℕ) → from ≤ i → i < to → nat_abs (get_or statement (get_or grocers i 0) (pos 0)) ≤ max_amount

-- What adding a span of places requires, with a word for each price list: as much of its words.
pub record SpanIn (from to width : ℕ) (grocers : List ℕ) (source statement : List ℤ) : Type 0 where
  pub order : from ≤ to
  pub width_in : width ≤ suc max_lists
  pub grocers_long : to ≤ length grocers
  pub words_in : CreditIn (from * width) (to * width) (beside width grocers) source statement

-- What adding the words of place i requires: its grocer has as many in the statements, none of them over a size.
pub record PlaceIn (most i width : ℕ) (grocers : List ℕ) (source statement : List ℤ) : Type 0 where
  pub width_in : width ≤ suc max_lists
  pub place_in : i < length grocers
  pub source_long : i * width + width ≤ length source
  pub statement_long_lem : (q : ℕ) → q < width → get_or grocers i 0 * width + q < length statement
  pub source_in : (q : ℕ) → q < width → nat_abs (get_or source (i * width + q) (pos 0)) ≤ max_amount
  pub statement_in : (q : ℕ) → q < width → nat_abs (get_or statement (get_or grocers i 0 * width + q) (pos 0)) ≤ most
