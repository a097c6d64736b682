-- Demand 3, of every job in range and so of every accepted file: what step and run are lent of a file that the reader has accepted.
use Rattle.std.specs.Prelude.{◌≡◌, List, true, false, ℕ, suc, ◌+◌, ◌*◌, ◌<◌}
use Rattle.model.specs.Job.{Job, plain_sum}
use Rattle.model.specs.Steps.{Steps}
use Rattle.model.specs.Words.{StepsCounted}
use Rattle.model.specs.Tables.{JobTables, StateTables, counted_of, job_of, evening_of, job_lengths, job_short, bags_short}
use Rattle.model.specs.Standing.{StandingCount}
use Rattle.model.specs.Ranges.{job_in_range, Settles}
use Rattle.model.specs.Early.{EarlyTotals}
use Rattle.model.specs.Requests.{Request}
use Rattle.model.specs.Demand3.{Demand3, RunIsList}
use Rattle.recount.specs.Recount.{stands, counted_twice}
use Rattle.format.specs.Job.{FileJob, counted_tallies}
use Rattle.format.specs.File.{decode}
use Rattle.format.specs.Refusals.{file_refusal}
use Rattle.format.specs.Tables.{ReaderTables, read_refusal}
use Rattle.printing.specs.Accepted.{owed_by_file, Holds, Accepted}

-- Demand 3 whole. A caller knows its hypotheses: the reader accepted the file; or the tables meet none of 20, 21 and 9, `Settles`.
pub record Demand3Holds : Type 0 where
  -- Of every file that the reader accepts, whatever its tables held,
  pub files : (file : List ℕ) (l : ReaderTables) → read_refusal file l ≡ 0 → Accepted file l
  -- of every list of step requests, from a fresh state in whatever buffers,
  pub lists : (f : JobTables) → Settles f → (buffers : StateTables) (requests : List Request) → Demand3 f buffers requests
  -- and of every run.
  pub runs : (f : JobTables) → Settles f → (buffers : StateTables) (choices picked : List ℕ) → RunIsList f buffers choices picked
  -- An accepted job in whatever tables: tables that hold what a file without a refusal says are in range,
  pub any_tables : (file : List ℕ) → file_refusal file ≡ 0 → (f : JobTables) → Holds (decode file) f → job_in_range f ≡ true
  -- do not meet 9,
  pub any_once : (file : List ℕ) → file_refusal file ≡ 0 → (f : JobTables) → Holds (decode file) f → counted_twice (counted_of f) ≡ false
  -- settle where they are as long as they must be, so that lists of requests and runs with them do what is said above,
  pub any_settles : (file : List ℕ) → file_refusal file ≡ 0 → (f : JobTables) → Holds (decode file) f →
      job_short f (job_lengths f) ≡ false → bags_short f (job_lengths f) ≡ false → Settles f
  -- agree with the file which tallies stand,
  pub any_standing : (file : List ℕ) → file_refusal file ≡ 0 → (f : JobTables) → Holds (decode file) f → (t : ℕ) → t < (decode file).head.tallies →
      stands (counted_of f) t ≡ stands (counted_tallies (decode file)) t
  -- and have for plain sums, on each price list, what the file says is owed.
  pub any_sums : (file : List ℕ) → file_refusal file ≡ 0 → (f : JobTables) → Holds (decode file) f → (g q : ℕ) → q < suc (decode file).head.lists →
      plain_sum (evening_of f) (g * suc (decode file).head.lists + q) ≡ owed_by_file (decode file) g q
  -- All tables that hold what one file says are one job, whatever stands past their needed lengths: "two such lists of one job", and equal books,
  -- speak of a job and not of one set of tables.
  pub one_job : (j : FileJob) (f f' : JobTables) → Holds j f → Holds j f' → job_of f ≡ job_of f'
  -- So they are with all price lists.
  pub one_evening : (j : FileJob) (f f' : JobTables) → Holds j f → Holds j f' → evening_of f ≡ evening_of f'
  -- In range the tallies that count are those that stand: for amounts, needs, sharers, local books, words, messages and steps.
  pub counts : (f : JobTables) → job_in_range f ≡ true → StandingCount f
  -- The steps a job has, counted one by one, are 2 × K + 2 × (messages).
  pub steps_counted : (j : Job) → StepsCounted j
  -- Totals leave as soon as the standing tallies of the grocers concerned are added: steps 4 and 5 and condition 26, whatever steps are done.
  pub early : (f : JobTables) → job_in_range f ≡ true → (d : Steps) → EarlyTotals f d
