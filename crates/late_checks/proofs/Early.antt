-- 20, 21 and 9 of the present job, as a step asks them, once 20 with room for more is not met. Assumes nothing.
use mathlib.Core.Path.{◌≡◌, ◌∙◌}
use mathlib.Core.Bool.{true, false}
use mathlib.Core.List.{List}
use Prim.Native.Nat.{ℕ, ◌≤◌}
use native.Mathlib.Omega.{arith}
use Rattle.laws.specs.Checks.{first_met}
use Rattle.model.specs.Tables.{StateTables, lent_short}
use Rattle.format.specs.Job.{Head}
use Rattle.format.specs.Tables.{ReaderTables}
use Rattle.step_refusal.specs.Late.{early_rules, Early}
use Rattle.late_rules.specs.Edit.{job_in}
use Rattle.late_rules.specs.Late.{late_short}
use Rattle.late_checks.specs.Present.{first_rules, FirstTold}
use Rattle.late_rules.proofs.Edited.{Whole, whole_is}
use Rattle.late_rules.proofs.Entries.{whole_ok, bags_ok, whole-less}

module _ (t : ℕ) (h : Head) (l : ReaderTables) (s : StateTables) (standing : List ℕ) where
  -- 20.
  pub told_short : late_short t h l s ≡ true → FirstTold t h l s standing 20
  told_short e = record { number_is = unfold first_rules first_met in rw e; standing_are = λ z. absurd (omega arith) }

  -- It is not met, so a step does not meet it either.
  pub told_early : h.tallies ≤ t → late_short t h l s ≡ false → (r : ℕ) → Early (job_in h l) s standing r → FirstTold t h l s standing r
  told_early q e r x = record { number_is = x.number_is ∙ same; standing_are = x.standing_are }
    where
      now_whole : Whole h.tallies h l s
      now_whole = whole-less h.tallies t h l s q (whole_is t h l s e)

      long : lent_short (job_in h l) s ≡ false
      long = unfold lent_short in rw (whole_ok h l s now_whole, bags_ok h l s now_whole, now_whole.state)

      same : first_met (early_rules (job_in h l) s) ≡ first_met (first_rules t h l s)
      same = unfold early_rules first_rules first_met in rw (long, e)
