-- The conditions of an edit, asked one after the other: those of the present job, those of its state, and the edit's own. Assumes nothing.
use mathlib.Core.Path.{◌≡◌, refl, sym, ap, ◌∙◌}
use mathlib.Core.Bool.{Bool, true, false, cond, ◌&&◌, not}
use mathlib.Core.List.{List, ◌++◌}
use Prim.Native.Nat.{ℕ, ◌≤◌}
use native.Mathlib.Omega.{arith}
use lib.Dec.{eqb, ltb}
use lib.ListN.{length}
use borrow.Author.Tests.{le-ltb, ltb-false}
use Rattle.laws.specs.Checks.{first_met}
use Rattle.laws.specs.Limits.{max_tallies}
use Rattle.laws.proofs.Bools.{split, and_l}
use Rattle.laws.proofs.Checks.{unmet}
use Rattle.recount.specs.Recount.{counted_twice}
use Rattle.model.specs.Handed.{Standing}
use Rattle.model.specs.PackedTotals.{totals_length}
use Rattle.model.specs.Ranges.{job_in_range, state_in_range}
use Rattle.model.specs.Tables.{StateTables, counted_of, evening_of, state_lengths, totals_short}
use Rattle.tables.specs.Lent.{job_held}
use Rattle.tables.specs.declared.Job.{Job}
use Rattle.format.specs.Job.{Head}
use Rattle.format.specs.Tables.{ReaderTables}
use Rattle.late_rules.specs.Edit.{job_in}
use Rattle.late_rules.specs.Late.{room, late_short, present_rules, edited_short}
use Rattle.late_checks.specs.Decided.{PresentIn}
use Rattle.late_checks.specs.Present.{first_rules}
use Rattle.late_finished.specs.Present.{PresentState, shorter, state_rules}
use Rattle.format.proofs.Tables.{long_tables}
use Rattle.late_rules.proofs.Edited.{Whole, whole_is}
use Rattle.late_rules.proofs.Entries.{settles_is, whole-less}
use Rattle.late_rules.proofs.Present.{not_off}
use Rattle.step_refusal.proofs.Extra.{met_first, none_first}

module _ (t : ℕ) (own : List (Bool × ℕ)) (h h' : Head) (l l' : ReaderTables) (s : StateTables) where
  -- The conditions of the edit, whose job is h' l', in their order.
  abbrev rules : List (Bool × ℕ)
  rules = present_rules t (edited_short own h' l' s) h l s ++ own

  -- One of 20, 21 and 9 is met.
  pub first_met_lem : (r : ℕ) → r ≡ first_met (first_rules t h l s) → (r ≡ 0 → ⊥) → r ≡ first_met rules
  unfolding present_rules first_rules
  first_met_lem r e n = e ∙ sym (met_first (first_rules t h l s) _ (λ z. n (e ∙ z)))

  module _ (none : first_met (first_rules t h l s) ≡ 0) (words : ℕ) (told : words ≡ cond (eqb (first_met own) 0) (totals_length (evening_of (job_in h' l'))) 0) where
    no_less : (n : ℕ) → ltb n 0 ≡ false
    no_less n = le-ltb n 0 (omega arith)

    short_at : (b : Bool) (n : ℕ) → shorter (cond b n 0) s.working s.total_transit ≡ (b && shorter n s.working s.total_transit)
    short_at true n = refl
    short_at false n = rw (no_less (length s.working), no_less (length s.total_transit))

    -- The packed tables are short for the edited job.
    short_is : shorter words s.working s.total_transit ≡ edited_short own h' l' s
    unfolding edited_short totals_short state_lengths
    short_is = ap (λ (n : ℕ). shorter n s.working s.total_transit) told ∙ short_at (eqb (first_met own) 0) (totals_length (evening_of (job_in h' l')))

    rest : first_met rules ≡ first_met (state_rules (job_in h l) words s ++ own)
    unfolding present_rules first_rules state_rules
    rest = none_first (first_rules t h l s) _ (omega arith, (omega arith, (omega arith, tt))) none ∙ rw short_is

    -- One of the packed totals' conditions, or 30, is met;
    pub state_met : (r : ℕ) → r ≡ first_met (state_rules (job_in h l) words s) → (r ≡ 0 → ⊥) → r ≡ first_met rules
    state_met r e n = e ∙ sym (met_first (state_rules (job_in h l) words s) own (λ z. n (e ∙ z))) ∙ sym rest

    -- or none: the edit's own decide.
    pub own_met : first_met (state_rules (job_in h l) words s) ≡ 0 → first_met own ≡ first_met rules
    own_met e = sym (rest ∙ none_first (state_rules (job_in h l) words s) own (unfold state_rules in (omega arith, (omega arith, (omega arith, tt)))) e)

-- What is asked of the present job and its state, where none of 20, 21 and 9 is met.
module _ (t : ℕ) (h : Head) (l : ReaderTables) (s : StateTables) (most : h.tallies ≤ t) (none : first_met (first_rules t h l s) ≡ 0) where
  off : (late_short t h l s ≡ false) × (not (job_in_range (job_in h l) && state_in_range (job_in h l) s) ≡ false) × (counted_twice (counted_of (job_in h l)) ≡ false)
  unfolding first_rules
  off = let r = unmet _ refl none in (r.0, r.1.0, r.1.1.0)

  whole : Whole t h l s
  whole = whole_is t h l s off.0

  in_range_lem : job_in_range (job_in h l) ≡ true
  in_range_lem = and_l (job_in_range (job_in h l)) _ (not_off _ off.1)

  pub present_in : PresentIn t h l
  present_in = record { long = long_tables _ _ whole.tables; places = ltb-false _ t whole.places; in_range = in_range_lem }

  pub present_state : (standing : List ℕ) → Standing (job_in h l) standing → PresentState (job_in h l) s standing
  present_state standing st = record { settles = settles_is h l s (whole-less h.tallies t h l s most whole) in_range_lem off.2; long = whole.state; stands = st }

  -- The same of a job that holds these tables.
  pub present_job : (j : Job) → job_held j ≡ job_in h l → (standing : List ℕ) → Standing (job_in h l) standing → PresentState (job_held j) s standing
  present_job j e standing st = rw e (present_state standing st)

pub room_most : (t : ℕ) → t ≤ room t
unfolding room
room_most t = split (ltb t max_tallies) (λ b. rw b (omega arith)) (λ b. rw b (omega arith))
