-- The tables of messages as a call gives them: its answer, and both tables.
use Rattle.std.specs.Prelude.{cond, List, ℕ, zero, suc, eqb, Result, Ok, Err}
use Rattle.laws.specs.Checks.{first_met}
use Rattle.model.specs.Words.{owner_words}
use Rattle.model.specs.Tables.{JobTables, job_of}
use Rattle.model.specs.Local.{price_table, total_table, job_refusals}
use Rattle.refusals.specs.declared.Refusal.{Refusal}
use Rattle.refusals.specs.Numbers.{number_of}

-- What the call says: the words of the job, or the number of a refusal.
pub data MessagesAnswer : Type 0 where
  made : (words : ℕ) → MessagesAnswer
  refused : (number : ℕ) → MessagesAnswer

-- What each case of the answer says.
unfoldable pub said : Result ℕ Refusal → MessagesAnswer
said (Ok words) = made words
said (Err refusal) = refused (number_of refusal)

-- What is due: the first refusal that is met, or the words of the job by the owner tables.
unfoldable pub messages_answer : ℕ → ℕ → MessagesAnswer
messages_answer zero words = made words
messages_answer (suc n) words = refused (suc n)

-- What the call gives: its answer, and the two tables.
pub record TablesGiven : Type 0 where
  pub answer : MessagesAnswer
  pub prices : List (List ℕ)
  pub totals : List (List ℕ)

-- The same, as a contract names it.
abbrev pub tables_given : MessagesAnswer → List (List ℕ) → List (List ℕ) → TablesGiven
tables_given a prices totals = record { answer = a; prices = prices; totals = totals }

-- The tables of messages of a job: a refusal leaves both as they were.
unfoldable pub message_tables : JobTables → List (List ℕ) → List (List ℕ) → TablesGiven
message_tables f prices totals =
    let n = first_met (job_refusals f) in
    tables_given (messages_answer n (owner_words (job_of f))) (cond (eqb n 0) (price_table (job_of f)) prices) (cond (eqb n 0) (total_table (job_of f)) totals)
