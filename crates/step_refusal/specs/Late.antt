-- The conditions of a step in parts: those on the tables, and those on the request with the late 21.
use Rattle.std.specs.Prelude.{◌≡◌, Bool, true, false, ◌&&◌, not, List, [], ◌∷◌, ◌++◌, ℕ, ◌+◌, ◌≤◌, length}
use Rattle.laws.specs.Checks.{first_met}
use Rattle.laws.specs.Tables.{tabulate, overwrite}
use Rattle.recount.specs.Recount.{counted_twice}
use Rattle.model.specs.Job.{Job, sharer_word}
use Rattle.model.specs.Tables.{JobTables, counted_of, job_of, evening_of, job_lengths, job_short}
use Rattle.model.specs.Tables.{StateTables, state_lengths, state_short, lent_short, totals_short, view}
use Rattle.model.specs.Ranges.{job_in_range, state_in_range, totals_in_range}
use Rattle.model.specs.Handed.{handed_tables, Standing, Handed}
use Rattle.model.specs.Step.{Asked, step_rules, moved, step_refusal}
use Rattle.book_places.specs.Spots.{list_by, start_by, spot_by}
use Rattle.step_apply.specs.Apply.{Applies}

-- Conditions 20, 21 and 9 on all else than the packed tables.
unfoldable pub early_rules : JobTables → StateTables → List (Bool × ℕ)
early_rules f t = (lent_short f t, 20) ∷ (not (job_in_range f && state_in_range f t), 21) ∷ (counted_twice (counted_of f), 9) ∷ []

-- Conditions 20 and 21 on the packed tables.
unfoldable pub packed_rules : Job → StateTables → List (Bool × ℕ)
packed_rules j t = (totals_short j (state_lengths t), 20) ∷ (not (totals_in_range j t), 21) ∷ []

-- The conditions on the tables, in their order.
unfoldable pub table_rules : JobTables → StateTables → List (Bool × ℕ)
table_rules f t = early_rules f t ++ packed_rules (evening_of f) t

-- Conditions 22 to 26, and the late 21.
unfoldable pub later_rules : JobTables → StateTables → Asked → List (Bool × ℕ)
later_rules f t q =
    step_rules (evening_of f) (view (evening_of f) t).done q
    ++ (not (state_in_range f (moved f t q) && totals_in_range (evening_of f) (moved f t q)), 21)
    ∷ []

-- What the first tell: their number, and where it is 0, the boxes of the tallies that stand.
pub record Early (f : JobTables) (t : StateTables) (standing : List ℕ) (r : ℕ) : Type 0 where
  pub number_is : r ≡ first_met (early_rules f t)
  pub standing_are : r ≡ 0 → Standing f standing

-- What the conditions on the tables tell: their number, and where it is 0, the boxes of the tallies that stand, and the sharer words.
pub record Tested (f : JobTables) (t : StateTables) (standing sharers : List ℕ) (r : ℕ) : Type 0 where
  pub number_is : r ≡ first_met (table_rules f t)
  pub standing_are : r ≡ 0 → Standing f standing
  pub sharers_are : r ≡ 0 → sharers ≡ tabulate 255 (sharer_word (job_of (handed_tables f standing)))

-- The tables as handed where none of them is met: nothing is lent short, and every word is in range.
pub record Held (f : JobTables) (t : StateTables) : Type 0 where
  pub job_long : job_short f (job_lengths f) ≡ false
  pub state_long : state_short f (state_lengths t) ≡ false
  pub job_in_lem : Handed f
  pub state_in : state_in_range f t ≡ true
  pub totals_long : totals_short (evening_of f) (state_lengths t) ≡ false
  pub totals_in : totals_in_range (evening_of f) t ≡ true

-- What the refusal of a step tells: the model's number, and where that is 0, the boxes of the tallies that stand, and that the step may be
-- applied to the tables with these boxes.
pub record Decided (f : JobTables) (t : StateTables) (q : Asked) (places : List ℕ) (from to : ℕ) (listed standing : List ℕ) (r : ℕ) : Type 0 where
  pub number_is : r ≡ step_refusal f t q
  pub standing_are : r ≡ 0 → Standing f standing
  pub applies : r ≡ 0 → Applies (handed_tables f standing) t places from to listed q

-- The places of the totals of box b's tallies put into a table, and the span of all its totals, by the owners of the grocers and the sharer words.
pub record OwnPlaces (k m : ℕ) (owners words : List ℕ) (b n : ℕ) (boxes items before : List ℕ) (from to : ℕ) (after : List ℕ) : Type 0 where
  pub from_is : from ≡ start_by m owners words b
  pub to_is : to ≡ start_by m owners words b + length (list_by k m owners words b)
  pub long : n ≤ length before
  pub places_are : after ≡ overwrite n (spot_by k m owners words b boxes items) before
