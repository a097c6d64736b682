-- What the run without choices asks for and leaves.
use Rattle.std.specs.Prelude.{◌≡◌, false, List, [], ℕ, ℤ, length}
use Rattle.laws.specs.Tables.{overwrite}
use Rattle.model.specs.Job.{Job}
use Rattle.model.specs.Words.{over, messages_of}
use Rattle.model.specs.Tables.{JobTables, job_lengths, job_short}
use Rattle.model.specs.Handed.{Handed}
use Rattle.model.specs.Run.{run, run_state}

-- What the run without choices requires: tables as inner calls are handed them, lent whole.
pub record DueIn (f : JobTables) : Type 0 where
  pub job_in_lem : Handed f
  pub job_long : job_short f (job_lengths f) ≡ false

-- What it leaves: the statements hold what the run without choices comes to, and words sent, messages and steps are counted.
pub record DueOut (j : Job) (statement statement' : List ℤ) (words messages steps : ℕ) : Type 0 where
  pub statement_is : statement' ≡ overwrite j.grocers (run_state j []).statement statement
  pub words_are : words ≡ (run_state j []).sent
  pub messages_are : messages ≡ over messages_of (run j [])
  pub steps_are : steps ≡ length (run j [])
