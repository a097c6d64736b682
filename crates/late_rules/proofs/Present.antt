-- What holds of the present job and state where no condition is met. Assumes nothing.
use mathlib.Core.Path.{◌≡◌, refl, sym, ap, ◌∙◌}
use mathlib.Core.Bool.{Bool, true, false, not}
use mathlib.Core.List.{List, [], ◌∷◌, ◌++◌}
use Prim.Native.Nat.{ℕ, suc, ◌+◌, ◌*◌, ◌<◌, ◌≤◌}
use native.Mathlib.Omega.{arith}
use lib.Dec.{eqb, ltb}
use lib.ListN.{get_or}
use lib.IntN.{pos}
use borrow.Author.Tests.{ltb-true, eqb-true}
use Rattle.laws.specs.Checks.{first_met}
use Rattle.laws.proofs.Checks.{numbered, unmet}
use Rattle.laws.proofs.Bools.{split, and_l, and_r, or_off}
use Rattle.laws.proofs.Tables.{cell_in}
use Rattle.model.specs.Job.{plain_sum}
use Rattle.model.specs.Tables.{counted_of, evening_of, StateTables, state_lengths, totals_short, any_short}
use Rattle.model.specs.Run.{ran}
use Rattle.model.specs.Ranges.{job_in_range, Settles}
use Rattle.format.specs.Job.{Head}
use Rattle.format.specs.Refusals.{job_refusal}
use Rattle.format.specs.Tables.{ReaderTables, file_job_of}
use Rattle.recount.specs.Recount.{counted_twice}
use Rattle.late_rules.specs.Late.{left_by_run, present_rules, refused_job, edited_short}
use Rattle.late_rules.specs.Edit.{job_in}
use Rattle.model.proofs.Step.{under_at, job_in_lem, in_handed}
use Rattle.model.proofs.Demand3.{demand3_run}
use Rattle.late_rules.proofs.Left.{short_not, ran_end, left_end}
use Rattle.late_rules.proofs.Edited.{Whole, whole_is}
use Rattle.late_rules.proofs.Entries.{settles_is, whole-less}

pub not_off : (b : Bool) → not b ≡ false → b ≡ true
not_off true h = refl
not_off false h = sym h

-- Where no condition of a list is met, none of its two parts is.
parted : (rs own : List (Bool × ℕ)) → numbered rs ≡ true → first_met (rs ++ own) ≡ 0 → (first_met rs ≡ 0) × (first_met own ≡ 0)
unfolding first_met
parted [] own p e = (refl, e)
parted (r ∷ rs) own p e =
    split r.0
    (λ q. let met : r.1 ≡ 0 = rw q at e in let some = ltb-true 0 r.1 (and_l (ltb 0 r.1) (numbered rs) p) in absurd (omega arith))
    (λ q. rw q (parted rs own (and_r (ltb 0 r.1) (numbered rs) p) (rw q at e)))

-- What holds of the present job and state where 20, 21, 9 and 30 are not met, with room for t tallies.
pub record Present (t : ℕ) (h : Head) (l : ReaderTables) (s : StateTables) : Type 0 where
  pub whole : Whole t h l s
  pub in_range : job_in_range (job_in h l) ≡ true
  pub once : counted_twice (counted_of (job_in h l)) ≡ false
  pub totals : totals_short (evening_of (job_in h l)) (state_lengths s) ≡ false
  pub left : left_by_run (job_in h l) s ≡ true

pub present_is : (t : ℕ) (b : Bool) (h : Head) (l : ReaderTables) (s : StateTables) → first_met (present_rules t b h l s) ≡ 0 → Present t h l s × (b ≡ false)
unfolding present_rules
present_is t b h l s e =
    let r = unmet _ refl e in
    let n = or_off (totals_short (evening_of (job_in h l)) (state_lengths s)) b r.1.1.1.0 in (
      record {
        whole = whole_is t h l s r.0;
        in_range = and_l (job_in_range (job_in h l)) _ (not_off _ r.1.0);
        once = r.1.1.0;
        totals = n.0;
        left = not_off _ r.1.1.1.1.1.0;
      },
      n.1,
    )

-- The same with the conditions of an edit behind them: none of these is met, and the packed tables have the words that the edited job h' l' needs.
pub record Allowed (t : ℕ) (h : Head) (l : ReaderTables) (s : StateTables) (own : List (Bool × ℕ)) (h' : Head) (l' : ReaderTables) : Type 0 where
  pub now : Present t h l s
  pub none : first_met own ≡ 0
  pub totals : totals_short (evening_of (job_in h' l')) (state_lengths s) ≡ false

pub allowed_is : (t : ℕ) (h : Head) (l : ReaderTables) (s : StateTables) (own : List (Bool × ℕ)) (h' : Head) (l' : ReaderTables) →
    first_met (present_rules t (edited_short own h' l' s) h l s ++ own) ≡ 0 → Allowed t h l s own h' l'
unfolding edited_short
allowed_is t h l s own h' l' e =
    let a = parted (present_rules t (edited_short own h' l' s) h l s) own (unfold present_rules in refl) e in
    let p = present_is t (edited_short own h' l' s) h l s a.0 in
    record { now = p.0; none = a.1; totals = rw a.1 at p.1 }

-- What holds of a job that neither the writer nor a run refuses on 4 to 9.
pub record NotRefused (h : Head) (l : ReaderTables) : Type 0 where
  pub written : job_refusal (file_job_of h l.job) ≡ 0
  pub once : counted_twice (counted_of (job_in h l)) ≡ false

pub not_refused : (h : Head) (l : ReaderTables) → refused_job h l ≡ false → NotRefused h l
unfolding refused_job
not_refused h l e =
    let a = or_off (not (eqb (job_refusal (file_job_of h l.job)) 0)) (counted_twice (counted_of (job_in h l))) e in
    record { written = eqb-true _ 0 (not_off _ a.0); once = a.1 }

-- A run's statement of a grocer on list q is the plain sum.
pub statement_is : (h : Head) (l : ReaderTables) (s : StateTables) → Settles (job_in h l) → any_short (job_in h l) s ≡ false → (g q : ℕ) → g < h.grocers → q < suc h.lists →
    get_or (ran (job_in h l) s [] []).tables.statement (g * suc h.lists + q) (pos 0) ≡ plain_sum (evening_of (job_in h l)) (g * suc h.lists + q)
statement_is h l s z n g q lg lq = (demand3_run (job_in h l) z s [] []).statements n (g * suc h.lists + q) (cell_in g h.grocers (suc h.lists) q lg lq)

module _ (h : Head) (l : ReaderTables) (s : StateTables) where
  -- The present job settles, and its state is that of a finished run.
  module _ (p : Present h.tallies h l s) where
    pub present_settles : Settles (job_in h l)
    present_settles = settles_is h l s p.whole p.in_range p.once

    pub present_lent : any_short (job_in h l) s ≡ false
    present_lent = short_not (job_in h l) present_settles s p.whole.state p.totals

    present_ran : s ≡ (ran (job_in h l) s [] []).tables
    present_ran = left_end (job_in h l) present_settles s present_lent p.left ∙ sym (ran_end (job_in h l) present_settles s present_lent [] [])

    pub present_statement : (g q : ℕ) → g < h.grocers → q < suc h.lists →
        get_or s.statement (g * suc h.lists + q) (pos 0) ≡ plain_sum (evening_of (job_in h l)) (g * suc h.lists + q)
    present_statement g q lg lq =
        ap (λ (t : StateTables). get_or t.statement (g * suc h.lists + q) (pos 0)) present_ran ∙ statement_is h l s present_settles present_lent g q lg lq

    pub present_place : (t : ℕ) → t < h.tallies → get_or l.tally_offer t 0 < h.offers
    present_place t q = under_at h.offers h.tallies l.tally_offer t (job_in_lem (job_in h l) (in_handed (job_in h l) p.in_range)).tally_offer q

  pub fewer : (k : ℕ) → h.tallies ≤ k → Present k h l s → Present h.tallies h l s
  fewer k q p = record { whole = whole-less h.tallies k h l s q p.whole; in_range = p.in_range; once = p.once; totals = p.totals; left = p.left }
