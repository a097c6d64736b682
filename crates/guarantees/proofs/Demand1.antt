-- Demand 1 holds. Assumes nothing.
use mathlib.Core.Path.{◌≡◌, refl, sym}
use mathlib.Core.List.{List, [], ◌∷◌}
use mathlib.Core.Logic.{inl, inr}
use mathlib.Core.Bool.{Bool}
use Prim.Native.Nat.{ℕ, zero, suc}
use native.Mathlib.Omega.{arith}
use lib.IntN.{ℤ}
use borrow.Author.Tests.{ne_eqb}
use Rattle.laws.specs.Checks.{first_met}
use Rattle.laws.proofs.Bools.{split}
use Rattle.model.specs.Tables.{JobTables, StateTables, job_of}
use Rattle.model.specs.Local.{book_refusals, job_refusals}
use Rattle.message_tables.specs.Answers.{refused as not_made, messages_answer, tables_given, message_tables}
use Rattle.book.specs.Book.{book_lengths}
use Rattle.model.specs.Step.{Asked, refused as not_done, outcome, stepped, step_refusal, step_tables, refusals}
use Rattle.model.specs.Run.{RunAnswer, refused, reported, run_refusals, ran}
use Rattle.model.specs.Reconcile.{TallyRecord, refused as not_owed, desk_refusals, desk_answer, reconciled}
use Rattle.format.specs.First.{first_of}
use Rattle.late_rules.proofs.Laws.{late_laws}
use Rattle.guarantees.specs.Demand1.{IsFirst, IsFirstOf, Demand1}
use Rattle.model.proofs.Refusal.{refused_number}
use Rattle.format.proofs.Firsts.{below_hit, below_none}
use Rattle.format.proofs.Tables.{read_refused, write_refused}
use Rattle.model.specs.Words.{owner_words}
use Rattle.book.proofs.Booking.{booked_none}
use Rattle.guarantees.proofs.Host as H

first_is : (rs : List (Bool × ℕ)) → IsFirst rs (first_met rs)
unfolding IsFirst first_met
first_is [] = refl
first_is (r ∷ rs) =
    split r.0
    (λ e. inl (e, rw e))
    (λ e. inr (e, rw e (first_is rs)))

first_check_lem : (ns : List ℕ) → IsFirstOf ns (first_of ns)
unfolding IsFirstOf first_of
first_check_lem [] = refl
first_check_lem (zero ∷ ns) = inr (refl, first_check_lem ns)
first_check_lem (suc n ∷ ns) = inl (λ e. omega arith, refl)

step_refused : (f : JobTables) (t : StateTables) (q : Asked) → (first_met (refusals f t q) ≡ 0 → ⊥) → stepped f t q ≡ outcome (not_done (first_met (refusals f t q))) t
unfolding stepped step_tables step_refusal
step_refused f t q n = rw (ne_eqb (first_met (refusals f t q)) 0 n, refused_number (first_met (refusals f t q)) n)

reported_no : (n : ℕ) (r : RunAnswer) → (n ≡ 0 → ⊥) → reported n r ≡ refused n
unfolding reported
reported_no zero r h = absurd (h refl)
reported_no (suc n) r h = refl

run_refused : (f : JobTables) (t : StateTables) (cs p : List ℕ) → (first_met (run_refusals f t) ≡ 0 → ⊥) →
    ran f t cs p ≡ record { answer = refused (first_met (run_refusals f t)); tables = t; picked = p }
unfolding ran
run_refused f t cs p n = rw (ne_eqb (first_met (run_refusals f t)) 0 n, reported_no (first_met (run_refusals f t)) _ n)

desk_no : (n : ℕ) (z : ℤ) → (n ≡ 0 → ⊥) → desk_answer n z ≡ not_owed n
unfolding desk_answer
desk_no zero z h = absurd (h refl)
desk_no (suc n) z h = refl

desk_refused : (m n wanted : ℕ) (prices : List ℕ) (records : List TallyRecord) → (first_met (desk_refusals m n wanted prices records) ≡ 0 → ⊥) →
    reconciled m n wanted prices records ≡ not_owed (first_met (desk_refusals m n wanted prices records))
unfolding reconciled
desk_refused m n wanted prices records h = desk_no (first_met (desk_refusals m n wanted prices records)) _ h

messages_no : (n w : ℕ) → (n ≡ 0 → ⊥) → messages_answer n w ≡ not_made n
unfolding messages_answer
messages_no zero w h = absurd (h refl)
messages_no (suc n) w h = refl

messages_refused : (f : JobTables) (p t : List (List ℕ)) → (first_met (job_refusals f) ≡ 0 → ⊥) → message_tables f p t ≡ tables_given (not_made (first_met (job_refusals f))) p t
unfolding message_tables
messages_refused f p t h = rw (ne_eqb (first_met (job_refusals f)) 0 h, messages_no (first_met (job_refusals f)) (owner_words (job_of f)) h)

pub demand1 : Demand1
demand1 = record {
  first = first_is;
  first_check = first_check_lem;
  first_block = λ n k h l before met. below_hit h k n (h k) l (below_none h k before) refl met;
  no_block = λ n h none. below_none h n none;
  step = step_refused;
  run = run_refused;
  desk = desk_refused;
  reader = read_refused;
  writer = write_refused;
  add = late_laws.not_added;
  withdraw = late_laws.not_withdrawn;
  book = λ f b t h. sym (booked_none f b t (first_met (book_refusals f (book_lengths t) b)) refl h);
  message_tables = messages_refused;
  first_read = H.first_read_lem;
  first_step = H.first_step_lem;
  first_run = H.first_run_lem;
  host_read = H.read_refused;
  host_step = H.step_refused;
  host_run = H.run_refused;
}
