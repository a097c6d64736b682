-- The call that makes the tables of messages, by the first condition that is met. Assumes nothing.
use mathlib.Core.Path.{◌≡◌, refl, sym}
use mathlib.Core.List.{List}
use Prim.Native.Nat.{ℕ, zero, suc, ◌<◌}
use native.Mathlib.Omega.{arith}
use borrow.Author.Tests.{ne_eqb}
use Rattle.laws.specs.Checks.{first_met}
use Rattle.model.specs.Words.{owner_words}
use Rattle.model.specs.Tables.{JobTables, job_of}
use Rattle.model.specs.Local.{price_table, total_table, job_refusals}
use Rattle.message_tables.specs.Answers.{refused, said, messages_answer, tables_given, message_tables}
use Rattle.std.specs.Prelude.{Ok, Err}
use Rattle.refusals.specs.declared.Refusal.{Refusal}
use Rattle.refusals.specs.Numbers.{number_of}
use Rattle.refusals.proofs.Numbers.{number_positive}

answer_no : (n w : ℕ) → 0 < n → messages_answer n w ≡ refused n
unfolding messages_answer
answer_no zero w h = absurd (omega arith)
answer_no (suc n) w h = refl

module _ (f : JobTables) where
  -- A refusal leaves both tables.
  pub messages_refused : (p t : List (List ℕ)) (r : Refusal) → number_of r ≡ first_met (job_refusals f) → tables_given (said (Err r)) p t ≡ message_tables f p t
  unfolding message_tables said
  messages_refused p t r e =
      let h = number_positive r in
      rw (sym e, ne_eqb (number_of r) 0 (λ z. omega arith), answer_no (number_of r) (owner_words (job_of f)) h)

  -- No refusal: both tables are the job's, and so are the words.
  pub messages_made : (p t p' t' : List (List ℕ)) (w : ℕ) → 0 ≡ first_met (job_refusals f) → p' ≡ price_table (job_of f) → t' ≡ total_table (job_of f) → w ≡ owner_words (job_of f) →
      tables_given (said (Ok w)) p' t' ≡ message_tables f p t
  unfolding message_tables said messages_answer
  messages_made p t p' t' w e ep et ew = rw (sym e, ep, et, ew)
