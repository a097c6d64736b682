-- What the number of a refusal says of the step, refused or accepted. Assumes nothing.
use mathlib.Core.Path.{◌≡◌, sym, ap, ◌∙◌}
use Prim.Native.Nat.{ℕ}
use borrow.Author.Tests.{ne_eqb}
use Rattle.model.specs.Tables.{JobTables, StateTables}
use Rattle.model.specs.Step.{Asked, moved, step_refusal, step_tables, StepAnswer, accepted, refused, step_answer, outcome, stepped}
use Rattle.model.proofs.Refusal.{refused_number}

module _ (f : JobTables) (t : StateTables) (q : Asked) (r : ℕ) (e : r ≡ step_refusal f t q) where
  -- A refused step: its tables are as they were.
  pub refused_by : (r ≡ 0 → ⊥) → outcome (refused r) t ≡ stepped f t q
  unfolding stepped step_tables
  refused_by n =
      rw (ne_eqb (step_refusal f t q) 0 (λ z. n (e ∙ z))) (ap (λ (a : StepAnswer). outcome a t) (sym (refused_number r n) ∙ ap step_answer e))

  -- An accepted step: its tables are as the model's step leaves them.
  pub accepted_by : r ≡ 0 → outcome accepted (moved f t q) ≡ stepped f t q
  unfolding stepped step_tables step_answer
  accepted_by h = rw (sym e ∙ h)
