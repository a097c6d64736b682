-- Demand 1: a refusal comes under the first numbered condition that is met, and changes no lent word.
-- That no call touches memory it was not lent, wraps an amount or loops for ever is part of every function's proof:
-- the public calls ask nothing of their callers.
use Rattle.std.specs.Prelude.{◌≡◌, List, [], ◌∷◌, ◌⊎◌, Bool, true, false, cond, ℕ, ◌<◌, ltb, length}
use Rattle.laws.specs.Checks.{first_met}
use Rattle.model.specs.Tables.{JobTables, StateTables}
use Rattle.model.specs.Step.{Asked, refused as not_done, outcome, stepped, refusals}
use Rattle.model.specs.Run.{refused, run_refusals, ran}
use Rattle.model.specs.Reconcile.{TallyRecord, refused as not_owed, desk_refusals, reconciled}
use Rattle.format.specs.First.{first_of, first_below}
use Rattle.format.specs.Job.{Head, Tally}
use Rattle.format.specs.Tables.{ReaderTables, FileTables, refused as not_read, not_written, read_refusal, read_result, write_refusal, write_result}
use Rattle.model.specs.Local.{book_refusals, job_refusals}
use Rattle.late_rules.specs.Late.{refused as not_edited, late_outcome, add_rules, withdraw_rules, bag_added, bag_withdrawn}
use Rattle.message_tables.specs.Answers.{refused as not_made, tables_given, message_tables}
use Rattle.book.specs.Book.{refused as not_booked, BookTables, book_lengths, given, booked}
use Rattle.host.specs.Host.{host_read, read_by_host, host_run, ran_by_host, host_step, stepped_by_host}

-- n is the number of the first condition met, or 0 where none is.
unfoldable pub IsFirst : List (Bool × ℕ) → ℕ → Type 0
IsFirst [] n = n ≡ 0
IsFirst (r ∷ rs) n = ((r.0 ≡ true) × (n ≡ r.1)) ⊎ ((r.0 ≡ false) × IsFirst rs n)

-- n is the first of several refusals that is one, or 0 where none is.
unfoldable pub IsFirstOf : List ℕ → ℕ → Type 0
IsFirstOf [] n = n ≡ 0
IsFirstOf (m ∷ ms) n = ((m ≡ 0 → ⊥) × (n ≡ m)) ⊎ ((m ≡ 0) × IsFirstOf ms n)

-- The checks of `settlement_read`, one after the other, each by its number or 0: the buffer for sizes, then the reader's.
unfoldable pub host_read_checks : List ℕ → ReaderTables → List ℕ → List ℕ
host_read_checks file l s = cond (ltb (length s) 6) 20 0 ∷ read_refusal file l ∷ []

-- The refusals of `settlement_run`: the report, then the run's.
unfoldable pub host_run_refusals : JobTables → StateTables → List ℕ → List (Bool × ℕ)
host_run_refusals f t p = (ltb (length p) 3, 20) ∷ run_refusals f t

-- No refusal is lost or made up, and a refused call leaves every lent word.
pub record Demand1 : Type 0 where
  -- In every list of conditions the first one met is the one refused;
  pub first : (rs : List (Bool × ℕ)) → IsFirst rs (first_met rs)
  -- of the reader's checks one after the other, and of the writer's, the first that refuses;
  pub first_check : (ns : List ℕ) → IsFirstOf ns (first_of ns)
  -- and of the blocks ascending the first that is refused.
  pub first_block : (n k : ℕ) (h : ℕ → ℕ) → k < n → ((i : ℕ) → i < k → h i ≡ 0) → (h k ≡ 0 → ⊥) → first_below n h ≡ h k
  pub no_block : (n : ℕ) (h : ℕ → ℕ) → ((i : ℕ) → i < n → h i ≡ 0) → first_below n h ≡ 0
  -- A step answers the first of its conditions; refused, it leaves every word of the seven tables.
  pub step : (f : JobTables) (t : StateTables) (q : Asked) → (first_met (refusals f t q) ≡ 0 → ⊥) →
      stepped f t q ≡ outcome (not_done (first_met (refusals f t q))) t
  -- So does a run,
  pub run : (f : JobTables) (t : StateTables) (choices picked : List ℕ) → (first_met (run_refusals f t) ≡ 0 → ⊥) →
      ran f t choices picked ≡ record { answer = refused (first_met (run_refusals f t)); tables = t; picked = picked }
  -- the reader
  pub reader : (file : List ℕ) (l : ReaderTables) → (read_refusal file l ≡ 0 → ⊥) →
      read_result file l ≡ record { answer = not_read (read_refusal file l); tables = l }
  -- the desk,
  pub desk : (m n wanted : ℕ) (prices : List ℕ) (records : List TallyRecord) → (first_met (desk_refusals m n wanted prices records) ≡ 0 → ⊥) →
      reconciled m n wanted prices records ≡ not_owed (first_met (desk_refusals m n wanted prices records))
  -- and the writer.
  pub writer : (h : Head) (l : FileTables) (out : List ℕ) → (write_refusal h l out ≡ 0 → ⊥) →
      write_result h l out ≡ record { answer = not_written (write_refusal h l out); out = out }
  -- A late bag that is not added leaves the job's tables and the state's,
  pub add : (h : Head) (l : ReaderTables) (s : StateTables) (x : Tally) → (first_met (add_rules h l s x) ≡ 0 → ⊥) →
      bag_added h l s x ≡ late_outcome (not_edited (first_met (add_rules h l s x))) l s
  -- and so does one that is not withdrawn.
  pub withdraw : (h : Head) (l : ReaderTables) (s : StateTables) (p : ℕ) → (first_met (withdraw_rules h l s p) ≡ 0 → ⊥) →
      bag_withdrawn h l s p ≡ late_outcome (not_edited (first_met (withdraw_rules h l s p))) l s
  -- The local book leaves its five tables,
  pub book : (f : JobTables) (b : ℕ) (t : BookTables) → (first_met (book_refusals f (book_lengths t) b) ≡ 0 → ⊥) →
      booked f b t ≡ given (not_booked (first_met (book_refusals f (book_lengths t) b))) t
  -- and the tables of words between boxes stay both as they were.
  pub message_tables : (f : JobTables) (p t : List (List ℕ)) → (first_met (job_refusals f) ≡ 0 → ⊥) →
      message_tables f p t ≡ tables_given (not_made (first_met (job_refusals f))) p t
  -- The calls for C answer the number of the first condition met, or 0 where none is: the reader,
  pub first_read : (file : List ℕ) (l : ReaderTables) (s : List ℕ) → (read_by_host file l s).answer ≡ first_of (host_read_checks file l s)
  -- a step
  pub first_step : (f : JobTables) (t : StateTables) (q : Asked) → (stepped_by_host f t q).answer ≡ first_met (refusals f t q)
  -- and a run.
  pub first_run : (f : JobTables) (t : StateTables) (choices picked report : List ℕ) →
      (ran_by_host f t choices picked report).answer ≡ first_met (host_run_refusals f t report)
  -- Refused, the reader leaves its tables and the buffer for sizes as they were;
  pub host_read : (file : List ℕ) (l : ReaderTables) (s : List ℕ) → ((read_by_host file l s).answer ≡ 0 → ⊥) →
      read_by_host file l s ≡ host_read (read_by_host file l s).answer l s
  -- a step, the state's tables;
  pub host_step : (f : JobTables) (t : StateTables) (q : Asked) → ((stepped_by_host f t q).answer ≡ 0 → ⊥) →
      stepped_by_host f t q ≡ host_step (stepped_by_host f t q).answer t
  -- a run, the state's tables, the buffer for places and the report.
  pub host_run : (f : JobTables) (t : StateTables) (choices picked report : List ℕ) → ((ran_by_host f t choices picked report).answer ≡ 0 → ⊥) →
      ran_by_host f t choices picked report ≡ host_run (ran_by_host f t choices picked report).answer t picked report
