-- The job in edited copies has the words of the edited job, so the writer refuses both or neither. Assumes nothing.
use Rattle.std.proofs.Common.{Result, Ok, Err}
use Rattle.std.specs.Result.{is_err}
use Rattle.refusals.specs.declared.Refusal.{Refusal}
use Rattle.refusals.specs.Numbers.{number_of, number}
use Rattle.refusals.proofs.Numbers.{number_positive}
use mathlib.Core.Path.{◌≡◌, refl, sym, ap, ◌∙◌}
use mathlib.Core.Bool.{not}
use mathlib.Core.List.{List}
use Prim.Native.Nat.{ℕ, suc, ◌+◌, ◌*◌, ◌<◌, ◌≤◌}
use native.Mathlib.Omega.{arith}
use lib.Dec.{eqb}
use lib.IntN.{pos}
use lib.ListN.{get_or}
use borrow.Author.Tests.{eqb-true, eq-eqb, ne_eqb, eqb-false}
use Rattle.laws.proofs.Bools.{split}
use Rattle.laws.proofs.Tables.{cell_in}
use Rattle.format.specs.Codes.{read_code, code_bytes}
use Rattle.format.specs.Job.{Head, FileJob, Tally}
use Rattle.format.specs.Refusals.{job_refusal}
use Rattle.format.specs.Same.{SameWords}
use Rattle.format.specs.Tables.{FileTables, file_tables, TallyTables, file_job_of}
use Rattle.late_edits.specs.Columns.{edit_entries, edit_tallies}
use Rattle.late_checks.specs.Held.{Holds}
use Rattle.format.proofs.Same.{same_fine, words_back}
use Rattle.late_edits.proofs.Columns.{byte_of, edit_cong}

-- Columns y that hold those of l edited, the code by its bytes.
pub record Columns (p n : ℕ) (x : Tally) (g : ℕ → ℕ) (l y : TallyTables) : Type 0 where
  pub grocer : Holds 1 p n 0 (λ k. x.grocer) l.grocer y.grocer
  pub box : Holds 1 p n 0 (λ k. x.box) l.box y.box
  pub code : Holds 11 p n 0 g l.code y.code
  pub count : Holds 1 p n (pos 0) (λ k. x.count) l.count y.count
  pub issuer : Holds 1 p n 0 (λ k. x.issuer) l.issuer y.issuer
  pub bag : Holds 1 p n 0 (λ k. x.bag) l.bag y.bag
  pub revision : Holds 1 p n 0 (λ k. x.revision) l.revision y.revision

module _ (h : Head) (p n : ℕ) (x : Tally) (g : ℕ → ℕ) (code : x.code ≡ read_code g) (l : FileTables) (y : TallyTables) (few : h.tallies ≤ suc n)
    (c : Columns p n x g l.tallies y) where
  -- The job in the copies, and the edited job.
  abbrev copied : FileJob
  copied = file_job_of h (file_tables l.offers l.grocer_owner y)

  abbrev edited : FileJob
  edited = file_job_of h (file_tables l.offers l.grocer_owner (edit_tallies p n x l.tallies))

  -- A byte of a code.
  byte : (i k : ℕ) → i < h.tallies → k < 11 →
      get_or y.code (i * 11 + k) 0 ≡ get_or (edit_entries 11 p n 0 (λ k. get_or (code_bytes x.code) k 0) l.tallies.code) (i * 11 + k) 0
  byte i k q r =
      c.code.words (i * 11 + k) (cell_in i (suc n) 11 k (omega arith) r)
      ∙ ap (λ (s : List ℕ). get_or s (i * 11 + k) 0) (edit_cong 11 p n 0 _ _ l.tallies.code (λ k m. sym (rw code (byte_of g k m))))

  pub same_words_lem : SameWords copied edited
  unfolding file_job_of edit_tallies
  same_words_lem = record {
    head = refl;
    offer = λ i q. record { price = refl; owner = refl; code = record { size = refl; digit = λ k m. refl }; issuer = refl };
    grocer_owner = λ i q. refl;
    list_price = λ q i m k. refl;
    tally = λ i q. record {
      grocer = c.grocer.words i (omega arith);
      box = c.box.words i (omega arith);
      code = record { size = byte i 0 q (omega arith); digit = λ k m. byte i (1 + k) q (omega arith) };
      count = c.count.words i (omega arith);
      issuer = c.issuer.words i (omega arith);
      bag = c.bag.words i (omega arith);
      revision = c.revision.words i (omega arith);
    };
  }

  -- The writer refuses both or neither.
  pub refused_both : (r : ℕ) → r ≡ job_refusal copied → not (eqb r 0) ≡ not (eqb (job_refusal edited) 0)
  refused_both r e = ap not both
    where
      both : eqb r 0 ≡ eqb (job_refusal edited) 0
      both =
          split (eqb (job_refusal edited) 0)
          (λ b. rw b (eq-eqb r 0 (e ∙ same_fine copied edited same_words_lem (eqb-true (job_refusal edited) 0 b))))
          (λ b. rw b (ne_eqb r 0 (λ z. eqb-false (job_refusal edited) 0 b (same_fine edited copied (words_back copied edited same_words_lem) (sym e ∙ z)))))

-- An answer is an error where its number is not 0.
pub err_is : {A : Type 0} (r : Result A Refusal) → is_err r ≡ not (eqb (number r) 0)
err_is (Ok x) = refl
err_is (Err e) = let some : 0 < number_of e = number_positive e in sym (ap not (ne_eqb (number_of e) 0 (λ z. omega (arith, some, z))))
