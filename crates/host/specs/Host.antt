-- What the three calls of the host give: a number, 0 where the call is accepted and else the refusal's, and the lent words.
use Rattle.std.specs.Prelude.{cond, List, [], ◌∷◌, ◌++◌, ℕ, ltb, length, drop}
use Rattle.model.specs.Tables.{JobTables, StateTables}
use Rattle.model.specs.Step.{Asked, StepAnswer, accepted, refused as not_done, stepped}
use Rattle.model.specs.Run.{RunAnswer, finished, refused, ran}
use Rattle.format.specs.Tables.{ReadAnswer, sizes, refused as not_read, ReaderTables, read_result}

-- The words xs written in front of a lent buffer. Words past them are not touched.
abbrev pub put : List ℕ → List ℕ → List ℕ
put xs l = xs ++ drop (length xs) l

-- What `settlement_read` gives: the number, the tables, and the buffer for K, M, N, T, the cycle and the number of additional lists.
pub record HostRead : Type 0 where
  pub answer : ℕ
  pub tables : ReaderTables
  pub sizes : List ℕ

-- The same, as a contract names it.
abbrev pub host_read : ℕ → ReaderTables → List ℕ → HostRead
host_read n l s = record { answer = n; tables = l; sizes = s }

-- The reader's answer as a number; K, M, N, T, the cycle and the number of additional lists go into the buffer for sizes.
unfoldable pub read_as : ReadAnswer → ReaderTables → List ℕ → HostRead
read_as (sizes h) l s = host_read 0 l (put (h.boxes ∷ h.grocers ∷ h.offers ∷ h.tallies ∷ h.cycle ∷ h.lists ∷ []) s)
read_as (not_read number) l s = host_read number l s

-- The host's reader: 20 also where the buffer for sizes is shorter than six words.
unfoldable pub read_by_host : List ℕ → ReaderTables → List ℕ → HostRead
read_by_host file l s = cond (ltb (length s) 6) (host_read 20 l s) (read_as (read_result file l).answer (read_result file l).tables s)

-- What `settlement_run` gives: the number, the state's tables, the buffer for the places of the steps picked, and the one for the report.
pub record HostRun : Type 0 where
  pub answer : ℕ
  pub tables : StateTables
  pub picked : List ℕ
  pub report : List ℕ

-- The same, as a contract names it.
abbrev pub host_run : ℕ → StateTables → List ℕ → List ℕ → HostRun
host_run n t k p = record { answer = n; tables = t; picked = k; report = p }

-- The run's answer as a number; words sent, messages and steps go into the report.
unfoldable pub run_as : RunAnswer → StateTables → List ℕ → List ℕ → HostRun
run_as (finished words messages steps) t k p = host_run 0 t k (put (words ∷ messages ∷ steps ∷ []) p)
run_as (refused number) t k p = host_run number t k p

-- The host's run: 20 also where the report is shorter than three words. The buffer for the places may have any length.
unfoldable pub ran_by_host : JobTables → StateTables → (choices picked report : List ℕ) → HostRun
ran_by_host f t choices k p =
    let o = ran f t choices k in
    cond (ltb (length p) 3) (host_run 20 t k p) (run_as o.answer o.tables o.picked p)

-- What `settlement_step` gives: the number, and the state's tables.
pub record HostStep : Type 0 where
  pub answer : ℕ
  pub tables : StateTables

-- The same, as a contract names it.
abbrev pub host_step : ℕ → StateTables → HostStep
host_step n t = record { answer = n; tables = t }

-- The step's answer as a number: 0 where the request is accepted.
unfoldable pub step_number : StepAnswer → ℕ
step_number accepted = 0
step_number (not_done n) = n

-- The host's step.
unfoldable pub stepped_by_host : JobTables → StateTables → Asked → HostStep
stepped_by_host f t q = host_step (step_number (stepped f t q).answer) (stepped f t q).tables
