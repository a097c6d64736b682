-- The laws of late and withdrawn bags hold. Assumes nothing.
use mathlib.Core.Path.{◌≡◌}
use Prim.Native.Nat.{ℕ}
use borrow.Author.Tests.{ne_eqb}
use Rattle.model.specs.Tables.{StateTables}
use Rattle.format.specs.Job.{Head}
use Rattle.format.specs.Tables.{ReaderTables}
use Rattle.late_rules.specs.Late.{refused, late_outcome, late_result, bag_added, bag_withdrawn}
use Rattle.late_rules.specs.Laws.{LateLaws}
use Rattle.late_rules.proofs.Words.{finished_state}
use Rattle.late_rules.proofs.Withdraw.{withdrawn_is}
use Rattle.late_rules.proofs.Undo.{withdrawable_is, added_is}

-- A refusal changes no word.
kept : (n : ℕ) (h' : Head) (l' l : ReaderTables) (s : StateTables) → (n ≡ 0 → ⊥) → late_result n h' l' l s ≡ late_outcome (refused n) l s
unfolding late_result
kept n h' l' l s ne = rw (ne_eqb n 0 ne)

pub late_laws : LateLaws
unfolding bag_added bag_withdrawn
late_laws = record {
  add = added_is;
  withdraw = withdrawn_is;
  withdrawable = withdrawable_is;
  not_added = λ h l s x ne. kept _ _ _ l s ne;
  not_withdrawn = λ h l s p ne. kept _ _ _ l s ne;
  state = finished_state;
}
