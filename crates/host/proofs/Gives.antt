-- What reader and run give, and their answers told, are what the host's calls give. Assumes nothing.
use mathlib.Core.Path.{◌≡◌, sym, ap, ◌∙◌}
use mathlib.Core.List.{List}
use Prim.Native.Nat.{ℕ, ◌<◌, ◌≤◌}
use lib.ListN.{length}
use borrow.Author.Tests.{lt-ltb, le-ltb}
use Rattle.laws.proofs.Bools.{cond_yes, cond_no}
use Rattle.model.specs.Tables.{JobTables, StateTables}
use Rattle.model.specs.Step.{Asked, Outcome, outcome, stepped}
use Rattle.model.specs.Run.{RunAnswer, RunOutcome, ran}
use Rattle.format.specs.Tables.{ReadAnswer, ReadOutcome, ReaderTables, read_result}
use Rattle.std.specs.Prelude.{Result, Ok, Err}
use Rattle.refusals.specs.declared.Refusal.{Refusal}
use Rattle.refusals.specs.Numbers.{number}
use Rattle.step.specs.Answer.{answer_of as step_answer}
use Rattle.host.specs.Host.{host_read, read_as, read_by_host, host_run, run_as, ran_by_host, host_step, step_number, stepped_by_host}

-- The number of the step's answer, in the model's words.
pub step_told : (f : JobTables) (u : StateTables) (q : Asked) (a : Result (Unit {0}) Refusal) (r : ℕ) (t : StateTables) → r ≡ number a →
    outcome (step_answer a) t ≡ stepped f u q → host_step r t ≡ stepped_by_host f u q
unfolding stepped_by_host step_answer step_number
step_told f u q (Ok x) r t e h = rw e (ap (λ (o : Outcome). host_step (step_number o.answer) o.tables) h)
step_told f u q (Err x) r t e h = rw e (ap (λ (o : Outcome). host_step (step_number o.answer) o.tables) h)

module _ (file : List ℕ) (l : ReaderTables) (s : List ℕ) where
  -- 20: the buffer for sizes is short.
  pub read_short : length s < 6 → host_read 20 l s ≡ read_by_host file l s
  unfolding read_by_host
  read_short h = sym (cond_yes _ _ _ (lt-ltb _ _ h))

  -- What the reader gave, and its answer told.
  pub read_told : (a : ReadAnswer) (l' : ReaderTables) (r : ℕ) (s' : List ℕ) → 6 ≤ length s → record { answer = a; tables = l' } ≡ read_result file l →
      ((k : ReaderTables) → host_read r k s' ≡ read_as a k s) → host_read r l' s' ≡ read_by_host file l s
  unfolding read_by_host
  read_told a l' r s' h e told = told l' ∙ ap (λ (o : ReadOutcome). read_as o.answer o.tables s) e ∙ sym (cond_no _ _ _ (le-ltb _ _ h))

module _ (f : JobTables) (t : StateTables) (choices k p : List ℕ) where
  -- 20: the report is short.
  pub run_short : length p < 3 → host_run 20 t k p ≡ ran_by_host f t choices k p
  unfolding ran_by_host
  run_short h = sym (cond_yes _ _ _ (lt-ltb _ _ h))

  -- What the run gave, and its answer told.
  pub run_told : (a : RunAnswer) (t' : StateTables) (k' : List ℕ) (r : ℕ) (p' : List ℕ) → 3 ≤ length p → record { answer = a; tables = t'; picked = k' } ≡ ran f t choices k →
      ((u : StateTables) (l : List ℕ) → host_run r u l p' ≡ run_as a u l p) → host_run r t' k' p' ≡ ran_by_host f t choices k p
  unfolding ran_by_host
  run_told a t' k' r p' h e told = told t' k' ∙ ap (λ (o : RunOutcome). run_as o.answer o.tables o.picked p) e ∙ sym (cond_no _ _ _ (le-ltb _ _ h))
