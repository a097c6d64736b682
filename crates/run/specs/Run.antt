-- The answer of a run as its contract cites it, and what a run begins with.
use Rattle.std.specs.Prelude.{◌≡◌, false, List, ℕ, Result, Ok, Err}
use Rattle.job_masks.specs.Masks.{Owned, by_owner}
use Rattle.step_waits.specs.Waits.{TallyLists, tally_lists, wait_table, WaitsIn}
use Rattle.run_ready.specs.Walk.{WalkIn}
use Rattle.run_order.specs.Order.{SomeJob}
use Rattle.model.specs.Tables.{JobTables, StateTables, job_lengths, state_lengths, job_short, state_short}
use Rattle.model.specs.Handed.{Handed}
use Rattle.model.specs.Run.{RunAnswer, finished, refused, RunOutcome}
use Rattle.refusals.specs.declared.Refusal.{Refusal}
use Rattle.refusals.specs.Numbers.{number_of}
use Rattle.tables.specs.declared.Job.{Job}
use Rattle.run.specs.declared.Finished.{Finished}

-- The answer: words sent, messages and steps; or the number of the refusal.
unfoldable pub answer_of : Result Finished Refusal → RunAnswer
answer_of (Ok r) = finished r.words r.messages r.steps
answer_of (Err r) = refused (number_of r)

-- What a call gives: its answer, the state's tables, and the buffer for the places of the steps picked.
abbrev pub given : RunAnswer → StateTables → List ℕ → RunOutcome
given a t p = record { answer = a; tables = t; picked = p }

-- What a run begins with: tables as handed, nothing lent short.
pub record Begins (f : JobTables) (t : StateTables) : Type 0 where
  pub job_in_lem : Handed f
  pub job_long : job_short f (job_lengths f) ≡ false
  pub state_long : state_short f (state_lengths t) ≡ false

-- The lists of a job's tallies, whose tally_box are the standing boxes.
abbrev pub lists_of : Job → TallyLists
lists_of j = tally_lists j.offer_owner.now j.grocer_owner.now j.tally_grocer.now j.tally_box.now j.tally_offer.now

-- What picking an order requires: need words and lists of tallies in range, room for the marks, and a job with their words of receivers and waits.
pub record OrderIn (boxes offers tallies : ℕ) (lists : TallyLists) (needs done : List ℕ) : Type 0 where
  pub needs_in : Owned offers lists.offer_owner needs
  pub lists_in : WaitsIn boxes tallies lists
  pub done_in_lem : WalkIn boxes done
  pub some_job : SomeJob boxes (by_owner offers lists.offer_owner needs) (wait_table boxes lists tallies)
