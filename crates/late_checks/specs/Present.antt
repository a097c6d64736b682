-- What both calls of late bags look at first.
use Rattle.std.specs.Prelude.{◌≡◌, Bool, ◌&&◌, not, List, [], ◌∷◌, ℕ}
use Rattle.laws.specs.Checks.{first_met}
use Rattle.recount.specs.Recount.{counted_twice}
use Rattle.model.specs.Handed.{Standing}
use Rattle.model.specs.Ranges.{job_in_range, state_in_range}
use Rattle.model.specs.Tables.{StateTables, counted_of}
use Rattle.format.specs.Job.{Head}
use Rattle.format.specs.Tables.{ReaderTables}
use Rattle.late_rules.specs.Edit.{job_in}
use Rattle.late_rules.specs.Late.{late_short}

-- 20, 21 and 9 of the present job, the first three of `present_rules`: t tallies must have room.
unfoldable pub first_rules : ℕ → Head → ReaderTables → StateTables → List (Bool × ℕ)
first_rules t h l s =
    (late_short t h l s, 20)
    ∷ (not (job_in_range (job_in h l) && state_in_range (job_in h l) s), 21)
    ∷ (counted_twice (counted_of (job_in h l)), 9)
    ∷ []

-- What is told of them: the number of the first that is met, or 0; and where none is, the boxes of the tallies that stand.
pub record FirstTold (t : ℕ) (h : Head) (l : ReaderTables) (s : StateTables) (standing : List ℕ) (r : ℕ) : Type 0 where
  pub number_is : r ≡ first_met (first_rules t h l s)
  pub standing_are : r ≡ 0 → Standing (job_in h l) standing
