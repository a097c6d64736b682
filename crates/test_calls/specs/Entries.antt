-- What the entry points of the writer and the reconciliation give: a number for the answer, and the lent words.
use Rattle.std.specs.Prelude.{ℕ, ◌≤◌, Bool, cond, List, [], ◌∷◌, ltb, ℤ, pos, get_or, length}
use Rattle.laws.specs.Checks.{any_of}
use Rattle.laws.specs.Tables.{tabulate, overwrite}
use Rattle.format.specs.Tables.{WriteAnswer, wrote, not_written, WriteOutcome}
use Rattle.model.specs.Reconcile.{TallyRecord, DeskAnswer, owed, refused, reconciled}
use Rattle.desk.specs.Records.{tally_record}
use Rattle.desk.specs.Records.{Tally}

-- The writer's answer as one number: the file's length, which is 1,536 or more, or the refusal's number, which is 20 or less.
unfoldable pub write_number : WriteAnswer → ℕ
write_number (wrote bytes) = bytes
write_number (not_written number) = number

-- A number, and the buffer for the file as it is afterwards.
pub record Written : Type 0 where
  pub answer : ℕ
  pub out : List ℕ

-- The same, as a contract names it.
abbrev pub written : ℕ → List ℕ → Written
written n l = record { answer = n; out = l }

-- What the writer gives, its answer as a number.
unfoldable pub written_as : WriteOutcome → Written
written_as w = written (write_number w.answer) w.out

-- Record i of those whose fields are lent apart.
unfoldable pub lent_tally : (grocer box place : List ℕ) → (count : List ℤ) → (bag revision : List ℕ) → ℕ → Tally
lent_tally gs bs ps cs ss vs i = record {
  grocer = get_or gs i 0;
  tally_box = get_or bs i 0;
  place = get_or ps i 0;
  count = get_or cs i (pos 0);
  bag = get_or ss i 0;
  revision = get_or vs i 0;
}

-- Each field has n words at least.
pub record Fields (n : ℕ) (gs bs ps : List ℕ) (cs : List ℤ) (ss vs : List ℕ) : Type 0 where
  pub grocers : n ≤ length gs
  pub boxes : n ≤ length bs
  pub places : n ≤ length ps
  pub counts : n ≤ length cs
  pub bags : n ≤ length ss
  pub revisions : n ≤ length vs

-- The records whose fields are lent apart, n of them.
unfoldable pub lent_records : ℕ → (grocer box place : List ℕ) → (count : List ℤ) → (bag revision : List ℕ) → List TallyRecord
lent_records n gs bs ps cs ss vs =
    tabulate n (λ i. tally_record (get_or gs i 0) (get_or bs i 0) (get_or ps i 0) (get_or cs i (pos 0)) (get_or ss i 0) (get_or vs i 0))

-- 20: a field that one of the records lacks, or no room for the amount.
unfoldable pub short_fields : (grocer box place : List ℕ) → (count : List ℤ) → (bag revision : List ℕ) → (owed : List ℤ) → Bool
short_fields gs bs ps cs ss vs out =
    any_of (
    ltb (length bs) (length gs) ∷ ltb (length ps) (length gs) ∷ ltb (length cs) (length gs) ∷ ltb (length ss) (length gs)
    ∷ ltb (length vs) (length gs) ∷ ltb (length out) 1 ∷ [])

-- A number, and the words for the amount as they are afterwards.
pub record Told : Type 0 where
  pub answer : ℕ
  pub owed : List ℤ

-- The same, as a contract names it.
abbrev pub told : ℕ → List ℤ → Told
told n l = record { answer = n; owed = l }

-- The desk's answer as a number; the amount is put in front of the lent words.
unfoldable pub told_as : DeskAnswer → List ℤ → Told
told_as (owed amount) l = told 0 (overwrite 1 (λ i. amount) l)
told_as (refused number) l = told number l

-- What the reconciliation gives for fields that are lent apart: 20 where one is short, else what the desk answers for their records.
unfoldable pub told_by : ℕ → ℕ → ℕ → List ℕ → (grocer box place : List ℕ) → (count : List ℤ) → (bag revision : List ℕ) → (owed : List ℤ) → Told
told_by m n g prices gs bs ps cs ss vs out =
    cond (short_fields gs bs ps cs ss vs out) (told 20 out) (told_as (reconciled m n g prices (lent_records (length gs) gs bs ps cs ss vs)) out)
