-- What is decided of an edit before a word is written: 31 and 32, and the packed length of the edited job.
use Rattle.std.specs.Prelude.{◌≡◌, Bool, true, cond, List, ℕ, ◌≤◌, eqb, length, Result}
use Rattle.refusals.specs.declared.Refusal.{Refusal}
use Rattle.refusals.specs.Numbers.{number}
use Rattle.laws.specs.Checks.{first_met}
use Rattle.model.specs.PackedTotals.{totals_length}
use Rattle.model.specs.Ranges.{job_in_range}
use Rattle.model.specs.Tables.{evening_of}
use Rattle.format.specs.Job.{Head}
use Rattle.format.specs.Tables.{ReaderTables, Long}
use Rattle.late_rules.specs.Edit.{with_tallies, job_in}
use Rattle.late_checks.specs.declared.judge.Edit.{Edit}
use Rattle.late_checks.specs.Judged.{words_of}

-- The present job: lent whole, with room for t tallies, and in range.
pub record PresentIn (t : ℕ) (h : Head) (l : ReaderTables) : Type 0 where
  pub long : Long (with_tallies h t) l.job
  pub places : t ≤ length l.tally_offer
  pub in_range : job_in_range (job_in h l) ≡ true

-- What is told of an edit by its own conditions: the number of the first that is met, or 0; and where none is, the packed length of the
-- edited job, tables l of head h.
pub record Told (own : List (Bool × ℕ)) (h : Head) (l : ReaderTables) (e : Result Edit Refusal) : Type 0 where
  pub met_is : number e ≡ first_met own
  pub words_is : words_of e ≡ cond (eqb (first_met own) 0) (totals_length (evening_of (job_in h l))) 0
