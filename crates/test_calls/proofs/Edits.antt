-- What the entry points of late bags tell. Assumes nothing.
use mathlib.Core.Path.{◌≡◌, refl, sym, ap, ◌∙◌}
use mathlib.Core.Bool.{Bool, true, false, cond, ◌||◌}
use mathlib.Core.List.{List, [], ◌∷◌}
use Prim.Native.Nat.{ℕ, ◌<◌, ◌≤◌}
use native.Mathlib.Omega.{arith}
use lib.Dec.{ltb}
use lib.IntN.{ℤ}
use lib.ListN.{length, set}
use borrow.Author.Tests.{lt-ltb, le-ltb, ltb-false}
use Rattle.laws.specs.Tables.{tabulate, overwrite}
use Rattle.laws.proofs.Bools.{or_off}
use Rattle.model.specs.Tables.{StateTables}
use Rattle.format.specs.Bytes.{from}
use Rattle.format.specs.Job.{Head}
use Rattle.format.specs.Tables.{ReaderTables}
use Rattle.book_sort.specs.Sort.{in_front}
use Rattle.late_rules.specs.Late.{LateAnswer, LateOutcome, late_outcome, bag_added, bag_withdrawn}
use Rattle.late.specs.Calls.{tally_by}
use Rattle.test_calls.specs.EntryEdits.{ReportTold, report_told, report_as, EditTold, edit_told, edit_as, added_by, withdrawn_by}

yes : {A : Type 0} {b : Bool} (x y : A) → b ≡ true → cond b x y ≡ x
yes x y e = rw e

no : {A : Type 0} {b : Bool} (x y : A) → b ≡ false → cond b x y ≡ y
no x y e = rw e

-- What 20 leaves.
pub code-room : (code l : List ℕ) → (ltb (length code) 11 || ltb (length l) 4) ≡ false → (11 ≤ length code) × (4 ≤ length l)
code-room code l q =
    let e = or_off (ltb (length code) 11) (ltb (length l) 4) q in
    (ltb-false (length code) 11 e.0, ltb-false (length l) 4 e.1)

-- What a call gives, told.
edit_told_lem : (o : LateOutcome) (a : LateAnswer) (tables : ReaderTables) (state : StateTables) (r : ℕ) (l l' : List ℕ) → report_told r l' ≡ report_as a l →
    late_outcome a tables state ≡ o → edit_told r tables state l' ≡ edit_as o l
unfolding edit_as
edit_told_lem o a tables state r l l' e g =
    ap (λ (t : ReportTold). edit_told t.answer tables state t.report) e ∙ ap (λ (o : LateOutcome). edit_as o l) g

module _ (h : Head) (tables : ReaderTables) (state : StateTables) (l : List ℕ) where
  -- 20: the buffer is short.
  pub withdrawn_short : (p : ℕ) → length l < 4 → edit_told 20 tables state l ≡ withdrawn_by h tables state p l
  unfolding withdrawn_by
  withdrawn_short p q = sym (yes _ _ (lt-ltb (length l) 4 q))

  pub withdrawn_told : (p : ℕ) (a : LateAnswer) (tables' : ReaderTables) (state' : StateTables) (r : ℕ) (l' : List ℕ) → 4 ≤ length l → report_told r l' ≡ report_as a l →
      late_outcome a tables' state' ≡ bag_withdrawn h tables state p → edit_told r tables' state' l' ≡ withdrawn_by h tables state p l
  unfolding withdrawn_by
  withdrawn_told p a tables' state' r l' q e g = edit_told_lem _ a tables' state' r l l' e g ∙ sym (no _ _ (le-ltb (length l) 4 q))

  module _ (grocer holder : ℕ) (code : List ℕ) (count : ℤ) (issuer bag revision : ℕ) where
    -- 20: the code or the buffer is short.
    pub added_short : (ltb (length code) 11 || ltb (length l) 4) ≡ true → edit_told 20 tables state l ≡ added_by h tables state grocer holder code count issuer bag revision l
    unfolding added_by
    added_short q = sym (yes _ _ q)

    pub added_told : (bytes : List ℕ) (v : ℤ) (a : LateAnswer) (tables' : ReaderTables) (state' : StateTables) (r : ℕ) (l' : List ℕ) →
        (ltb (length code) 11 || ltb (length l) 4) ≡ false → bytes ≡ tabulate 11 (from code 0) → v ≡ count → report_told r l' ≡ report_as a l →
        late_outcome a tables' state' ≡ bag_added h tables state (tally_by grocer holder bytes v issuer bag revision) →
        edit_told r tables' state' l' ≡ added_by h tables state grocer holder code count issuer bag revision l
    unfolding added_by
    added_told bytes v a tables' state' r l' q eb ev e g =
        edit_told_lem _ a tables' state' r l l' e g
        ∙ ap (λ (x : List ℕ). edit_as (bag_added h tables state (tally_by grocer holder x v issuer bag revision)) l) eb
        ∙ ap (λ (x : ℤ). edit_as (bag_added h tables state (tally_by grocer holder (tabulate 11 (from code 0)) x issuer bag revision)) l) ev
        ∙ sym (no _ _ q)
