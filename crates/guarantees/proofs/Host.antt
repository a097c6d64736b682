-- A call of the host answers the first condition met, and refused it has changed no lent word. Assumes nothing.
use mathlib.Core.Path.{◌≡◌, refl, sym, ◌∙◌}
use mathlib.Core.Bool.{cond}
use mathlib.Core.List.{List, [], ◌∷◌}
use Prim.Native.Nat.{ℕ, zero, suc}
use lib.Dec.{ltb, eqb}
use lib.ListN.{length}
use native.Mathlib.Omega.{arith}
use borrow.Author.Tests.{ne_eqb, eqb-true}
use Rattle.laws.proofs.Bools.{split}
use Rattle.laws.specs.Checks.{first_met}
use Rattle.model.specs.Tables.{JobTables, StateTables}
use Rattle.model.specs.Step.{Asked, refusals, step_refusal, step_tables, step_answer, stepped}
use Rattle.model.specs.Run.{finished, reported, run_refusals, ran}
use Rattle.format.specs.First.{first_of}
use Rattle.format.specs.Tables.{ReaderTables, read_refusal, read_result}
use Rattle.host.specs.Host.{host_read, read_as, read_by_host, host_run, run_as, ran_by_host, host_step, step_number, stepped_by_host}
use Rattle.guarantees.specs.Demand1.{host_read_checks, host_run_refusals}

-- The reader: where the answer is not 0, the tables and the buffer for sizes are as they were.
pub read_refused : (file : List ℕ) (l : ReaderTables) (s : List ℕ) → ((read_by_host file l s).answer ≡ 0 → ⊥) → read_by_host file l s ≡ host_read (read_by_host file l s).answer l s
unfolding read_by_host read_as read_result
read_refused file l s =
    split (ltb (length s) 6)
    (λ e. rw e (λ n. refl))
    (λ e. rw e (split (eqb (read_refusal file l) 0) (λ q. rw q (λ n. absurd (n refl))) (λ q. rw q (λ n. refl))))

-- A refusal number that is not 0 is the answer, and leaves the tables t, the places k and the report p.
kept : (r w m n : ℕ) (u t : StateTables) (l k p : List ℕ) →
    let o = run_as (reported r (finished w m n)) (cond (eqb r 0) u t) (cond (eqb r 0) l k) p in (o.answer ≡ 0 → ⊥) → o ≡ host_run o.answer t k p
unfolding run_as reported
kept zero w m n u t l k p h = absurd (h refl)
kept (suc r) w m n u t l k p h = rw (ne_eqb (suc r) 0 (λ e. omega (arith, e)))

-- The run: where the answer is not 0, the tables, the buffer for places and the report are as they were.
pub run_refused : (f : JobTables) (t : StateTables) (choices k p : List ℕ) → ((ran_by_host f t choices k p).answer ≡ 0 → ⊥) →
    ran_by_host f t choices k p ≡ host_run (ran_by_host f t choices k p).answer t k p
unfolding ran_by_host ran
run_refused f t choices k p =
    split (ltb (length p) 3)
    (λ e. rw e (λ n. refl))
    (λ e. rw e (kept (first_met (run_refusals f t)) _ _ _ _ t _ k p))

-- The step's answer is the number of the first condition met.
number_is : (n : ℕ) → step_number (step_answer n) ≡ n
unfolding step_number step_answer
number_is zero = refl
number_is (suc n) = refl

pub first_step_lem : (f : JobTables) (t : StateTables) (q : Asked) → (stepped_by_host f t q).answer ≡ first_met (refusals f t q)
unfolding stepped_by_host stepped step_refusal
first_step_lem f t q = number_is (first_met (refusals f t q))

-- Refused, it leaves the tables.
pub step_refused : (f : JobTables) (t : StateTables) (q : Asked) → ((stepped_by_host f t q).answer ≡ 0 → ⊥) → stepped_by_host f t q ≡ host_step (stepped_by_host f t q).answer t
unfolding stepped_by_host stepped step_tables step_refusal
step_refused f t q h = rw (ne_eqb (first_met (refusals f t q)) 0 (λ z. h (number_is (first_met (refusals f t q)) ∙ z)))

-- The last of several checks.
first_last : (n : ℕ) → first_of (n ∷ []) ≡ n
unfolding first_of
first_last zero = refl
first_last (suc n) = refl

pub first_read_lem : (file : List ℕ) (l : ReaderTables) (s : List ℕ) → (read_by_host file l s).answer ≡ first_of (host_read_checks file l s)
unfolding read_by_host read_as read_result host_read_checks first_of
first_read_lem file l s =
    split (ltb (length s) 6)
    (λ e. rw e)
    (λ e. rw e (split (eqb (read_refusal file l) 0)
    (λ q. rw (q, eqb-true (read_refusal file l) 0 q))
    (λ q. rw q (sym (first_last (read_refusal file l))))))

run_number : (r w m n : ℕ) (u : StateTables) (k p : List ℕ) → (run_as (reported r (finished w m n)) u k p).answer ≡ r
unfolding run_as reported
run_number zero w m n u k p = refl
run_number (suc r) w m n u k p = refl

pub first_run_lem : (f : JobTables) (t : StateTables) (choices k p : List ℕ) → (ran_by_host f t choices k p).answer ≡ first_met (host_run_refusals f t p)
unfolding ran_by_host ran host_run_refusals first_met
first_run_lem f t choices k p =
    split (ltb (length p) 3)
    (λ e. rw e)
    (λ e. rw e (run_number (first_met (run_refusals f t)) _ _ _ _ _ p))
