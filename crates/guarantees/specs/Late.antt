-- Late bags and withdrawn ones (02 §7): the two calls give the finished run of the edited job.
use Rattle.std.specs.Prelude.{◌≡◌, false, ℕ, ◌<◌}
use Rattle.laws.specs.Checks.{first_met}
use Rattle.model.specs.Tables.{JobTables, StateTables, evening_of, any_short, state_lengths, totals_short}
use Rattle.model.specs.Ranges.{Settles}
use Rattle.format.specs.Job.{Head, Tally}
use Rattle.format.specs.Refusals.{job_refusal}
use Rattle.format.specs.Tables.{ReaderTables, file_job_of}
use Rattle.late_rules.specs.Edit.{job_in, withdrawn_head, withdrawn_tables}
use Rattle.late_rules.specs.Late.{present_rules, add_rules, withdraw_rules}
use Rattle.late_rules.specs.Finished.{FinishedState}
use Rattle.late_rules.specs.Laws.{Added, Withdrawn}

-- What late bags and withdrawn ones come to.
pub record LateHolds : Type 0 where
  -- A tally is added where no condition is met: "All tables and the state must then equal those of a finished run of the edited job, words and
  -- steps included, and no other grocer's amount may change."
  pub add : (h : Head) (l : ReaderTables) (s : StateTables) (x : Tally) → first_met (add_rules h l s x) ≡ 0 → Added h l s x
  -- A tally is withdrawn; "Removing a standing revision brings back the one below it."
  pub withdraw : (h : Head) (l : ReaderTables) (s : StateTables) (p : ℕ) → first_met (withdraw_rules h l s p) ≡ 0 → Withdrawn h l s p
  -- From a job that the writer does not refuse any tally may be withdrawn, where the packed tables have the words that the edited job needs.
  pub withdrawable : (h : Head) (l : ReaderTables) (s : StateTables) (p : ℕ) → first_met (present_rules h.tallies false h l s) ≡ 0 →
      job_refusal (file_job_of h l.job) ≡ 0 → p < h.tallies →
      totals_short (evening_of (job_in (withdrawn_head h) (withdrawn_tables h l p))) (state_lengths s) ≡ false → first_met (withdraw_rules h l s p) ≡ 0
  -- "30 the state is not the one a finished run of the job leaves": it passes exactly where a run with whatever choices leaves it, or a list of
  -- requests that does all steps, and its words are those of the closed form.
  pub state : (f : JobTables) (s : StateTables) → Settles f → any_short f s ≡ false → FinishedState f s
