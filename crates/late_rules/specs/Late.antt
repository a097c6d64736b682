-- The two calls of 02 §7: a late bag added, a bag withdrawn. Their refusals in order, and what each gives for every input.
use Rattle.std.specs.Prelude.{List, [], ◌∷◌, ◌++◌, Bool, false, cond, ◌&&◌, ◌||◌, not, ℕ, ◌+◌, ◌*◌, eqb, ltb, leb, ℤ, pos, negsuc, get_or, length}
use Rattle.laws.specs.Below.{all}
use Rattle.laws.specs.Checks.{all_of, first_met}
use Rattle.laws.specs.Limits.{max_tallies}
use Rattle.laws.specs.Lists.{list_words}
use Rattle.recount.specs.Recount.{counted_twice}
use Rattle.model.specs.PackedTotals.{totals_length}
use Rattle.model.specs.Tables.{JobTables, StateTables, counted_of, evening_of, state_lengths, state_short, totals_short}
use Rattle.model.specs.Ranges.{job_in_range, state_in_range, totals_in_range}
use Rattle.model.specs.Run.{RunAnswer, finished, refused as not_run, ran}
use Rattle.format.specs.Job.{Head, Tally}
use Rattle.format.specs.Refusals.{job_refusal}
use Rattle.format.specs.Tables.{ReaderTables, short_tables, file_job_of}
use Rattle.late_rules.specs.Edit.{with_tallies, job_in, added_tables, added_head, withdrawn_tables, withdrawn_head}

-- ---- 30

-- Two amounts are equal.
unfoldable pub same_amount : ℤ → ℤ → Bool
same_amount (pos m) (pos n) = eqb m n
same_amount (pos m) (negsuc n) = false
same_amount (negsuc m) (pos n) = false
same_amount (negsuc m) (negsuc n) = eqb m n

-- The first n words of two tables are equal,
unfoldable pub same_words : ℕ → List ℕ → List ℕ → Bool
same_words n a b = all n (λ i. eqb (get_or a i 0) (get_or b i 0))

-- and the first n amounts.
unfoldable pub same_amounts : ℕ → List ℤ → List ℤ → Bool
same_amounts n a b = all n (λ i. same_amount (get_or a i (pos 0)) (get_or b i (pos 0)))

-- Two states of a job have the same words, as many as the job needs.
unfoldable pub same_state : JobTables → StateTables → StateTables → Bool
same_state f a b =
    all_of (
    same_words (f.boxes * list_words f.lists f.offers) a.known b.known
    ∷ same_words (f.boxes * list_words f.lists f.offers) a.price_transit b.price_transit
    ∷ same_amounts (totals_length (evening_of f)) a.working b.working
    ∷ same_amounts (totals_length (evening_of f)) a.total_transit b.total_transit
    ∷ same_amounts (list_words f.lists f.grocers) a.statement b.statement
    ∷ same_words (6 * f.boxes * f.boxes) a.done b.done
    ∷ same_words 1 a.sent b.sent
    ∷ [])

-- The state is the one that a finished run of the job leaves; with whatever choices it is the same (`FinishedState`). Else 30 is met.
unfoldable pub left_by_run : JobTables → StateTables → Bool
left_by_run f s = same_state f s (ran f s [] []).tables

-- ---- the conditions in order

-- "Condition 20 counts the added tally, up to 1,000": so many tallies must have room.
unfoldable pub room : ℕ → ℕ
room t = cond (ltb t max_tallies) (t + 1) t

-- 20 on all tables but the packed ones: shorter than K, M, N and the number of lists as given and t tallies need.
unfoldable pub late_short : ℕ → Head → ReaderTables → StateTables → Bool
late_short t h l s = short_tables (with_tallies h t) l.job || ltb (length l.tally_offer) t || state_short (job_in h l) (state_lengths s)

-- What both calls look at first, where t tallies must have room: 20, 21 and 9 of the present job; straight after them 20 and 21 of the packed
-- totals (02 §11), which may be short for the edited job alone (short'); and 30. No code is looked at.
unfoldable pub present_rules : ℕ → Bool → Head → ReaderTables → StateTables → List (Bool × ℕ)
present_rules t short' h l s =
    (late_short t h l s, 20)
    ∷ (not (job_in_range (job_in h l) && state_in_range (job_in h l) s), 21)
    ∷ (counted_twice (counted_of (job_in h l)), 9)
    ∷ (totals_short (evening_of (job_in h l)) (state_lengths s) || short', 20)
    ∷ (not (totals_in_range (evening_of (job_in h l)) s), 21)
    ∷ (not (left_by_run (job_in h l) s), 30)
    ∷ []

-- "the writer or a run would refuse the edited job on 4 to 9": the writer goes by codes; of these numbers a run has 9 alone, by places.
unfoldable pub refused_job : Head → ReaderTables → Bool
refused_job h l = not (eqb (job_refusal (file_job_of h l.job)) 0) || counted_twice (counted_of (job_in h l))

-- "the longer of the job's and, if 31 and 32 allow it, the edited job's" (02 §11): the packed tables are shorter than the edited job h l needs.
unfoldable pub edited_short : List (Bool × ℕ) → Head → ReaderTables → StateTables → Bool
edited_short own h l s = eqb (first_met own) 0 && totals_short (evening_of (job_in h l)) (state_lengths s)

module _ (h : Head) (l : ReaderTables) where
  -- 31 "the list holds 1,000 and one is added", and 32: every fault of the added tally x, and of any code.
  unfoldable pub add_faults : Tally → List (Bool × ℕ)
  add_faults x = (leb max_tallies h.tallies, 31) ∷ (refused_job (added_head h) (added_tables h l x), 32) ∷ []

  -- 32 of withdrawing the tally at place p: "no such place", and every fault of a code that stays.
  unfoldable pub withdraw_faults : ℕ → List (Bool × ℕ)
  withdraw_faults p = (not (ltb p h.tallies) || refused_job (withdrawn_head h) (withdrawn_tables h l p), 32) ∷ []

  -- The refusals of adding tally x,
  unfoldable pub add_rules : StateTables → Tally → List (Bool × ℕ)
  add_rules s x = present_rules (room h.tallies) (edited_short (add_faults x) (added_head h) (added_tables h l x) s) h l s ++ add_faults x

  -- and of withdrawing the tally at place p.
  unfoldable pub withdraw_rules : StateTables → ℕ → List (Bool × ℕ)
  withdraw_rules s p =
      present_rules h.tallies (edited_short (withdraw_faults p) (withdrawn_head h) (withdrawn_tables h l p) s) h l s ++ withdraw_faults p

-- ---- what the calls give

-- What both calls answer: T as it is now, with the words, messages and steps of a run of the edited job; or the number of the refusal.
pub data LateAnswer : Type 0 where
  edited : (tallies words messages steps : ℕ) → LateAnswer
  refused : (number : ℕ) → LateAnswer

-- The answer by that of a run of the edited job, which is finished wherever no condition is met (`Edited`).
unfoldable pub late_answer : ℕ → RunAnswer → LateAnswer
late_answer t (finished words messages steps) = edited t words messages steps
late_answer t (not_run number) = refused number

-- The answer, with the job's tables and the state's as they are afterwards.
pub record LateOutcome : Type 0 where
  pub answer : LateAnswer
  pub tables : ReaderTables
  pub state : StateTables

-- What a call gives, as a contract names it.
abbrev pub late_outcome : LateAnswer → ReaderTables → StateTables → LateOutcome
late_outcome a l s = record { answer = a; tables = l; state = s }

-- Where no condition is met the job's tables are the edited ones, and the state is that of a finished run of the edited job;
-- a refusal changes no word.
unfoldable pub late_result : (number : ℕ) (h' : Head) (l' l : ReaderTables) (s : StateTables) → LateOutcome
late_result n h' l' l s =
    let r = ran (job_in h' l') s [] [] in
    cond (eqb n 0) (late_outcome (late_answer h'.tallies r.answer) l' r.tables) (late_outcome (refused n) l s)

-- Adding tally x: THE definition that the contract of `add` cites.
unfoldable pub bag_added : Head → ReaderTables → StateTables → Tally → LateOutcome
bag_added h l s x = late_result (first_met (add_rules h l s x)) (added_head h) (added_tables h l x) l s

-- Withdrawing the tally at place p: THE definition that the contract of `withdraw` cites.
unfoldable pub bag_withdrawn : Head → ReaderTables → StateTables → ℕ → LateOutcome
bag_withdrawn h l s p = late_result (first_met (withdraw_rules h l s p)) (withdrawn_head h) (withdrawn_tables h l p) l s
