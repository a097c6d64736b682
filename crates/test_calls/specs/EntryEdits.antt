-- What the entry points of late bags give: a number for the answer, the lent tables, and T with the report of the run of the edited job.
use Rattle.std.specs.Prelude.{cond, ◌||◌, List, [], ◌∷◌, ℕ, ltb, ℤ, length}
use Rattle.laws.specs.Tables.{tabulate}
use Rattle.model.specs.Tables.{StateTables}
use Rattle.format.specs.Bytes.{from}
use Rattle.format.specs.Job.{Head}
use Rattle.format.specs.Tables.{ReaderTables}
use Rattle.book_sort.specs.Sort.{in_front}
use Rattle.late_rules.specs.Late.{LateAnswer, edited, refused, LateOutcome, bag_added, bag_withdrawn}
use Rattle.late.specs.Calls.{tally_by}

-- A number, and the buffer for T and the report as it is afterwards.
pub record ReportTold : Type 0 where
  pub answer : ℕ
  pub report : List ℕ

-- The same, as a contract names it.
abbrev pub report_told : ℕ → List ℕ → ReportTold
report_told n l = record { answer = n; report = l }

-- The answer of an edit as a number; T, words, messages and steps are put in front of the buffer.
unfoldable pub report_as : LateAnswer → List ℕ → ReportTold
report_as (edited tallies words messages steps) l = report_told 0 (in_front (tallies ∷ words ∷ messages ∷ steps ∷ []) l)
report_as (refused n) l = report_told n l

-- What the entry point gives: a number, the job's tables, the state's, and the buffer for T and the report.
pub record EditTold : Type 0 where
  pub answer : ℕ
  pub tables : ReaderTables
  pub state : StateTables
  pub report : List ℕ

-- The same, as a contract names it.
abbrev pub edit_told : ℕ → ReaderTables → StateTables → List ℕ → EditTold
edit_told n l s r = record { answer = n; tables = l; state = s; report = r }

-- What a call gives, told in a number and a lent buffer.
unfoldable pub edit_as : LateOutcome → List ℕ → EditTold
edit_as o r = edit_told (report_as o.answer r).answer o.tables o.state (report_as o.answer r).report

-- A tally added, by the first eleven bytes of a code that is lent: 20 also where there are fewer, or the buffer is shorter than four words.
unfoldable pub added_by : Head → ReaderTables → StateTables → (grocer holder : ℕ) (code : List ℕ) (count : ℤ) (issuer bag revision : ℕ) → List ℕ → EditTold
added_by h l s grocer holder code count issuer bag revision r =
    cond (ltb (length code) 11 || ltb (length r) 4) (edit_told 20 l s r)
    (edit_as (bag_added h l s (tally_by grocer holder (tabulate 11 (from code 0)) count issuer bag revision)) r)

-- The tally at place p withdrawn: 20 also where the buffer is shorter than four words.
unfoldable pub withdrawn_by : Head → ReaderTables → StateTables → ℕ → List ℕ → EditTold
withdrawn_by h l s p r = cond (ltb (length r) 4) (edit_told 20 l s r) (edit_as (bag_withdrawn h l s p) r)
