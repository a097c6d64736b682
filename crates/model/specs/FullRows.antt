-- 02 §11: the step and the run on full rows of totals, K × M words by box and grocer for each price list, and that those on packed tables do the same.
use Rattle.std.specs.Prelude.{◌≡◌, List, [], ◌∷◌, ◌++◌, Bool, true, false, cond, ◌&&◌, ◌||◌, not, ℕ, ◌*◌, eqb, ltb, pos, length}
use Rattle.laws.specs.Tables.{cell, recell, lay_over}
use Rattle.laws.specs.Checks.{first_met}
use Rattle.laws.specs.Limits.{max_amount}
use Rattle.recount.specs.Recount.{counted_twice}
use Rattle.model.specs.Job.{Job}
use Rattle.model.specs.Steps.{State, kind_of, fresh, effect}
use Rattle.model.specs.Words.{over, messages_of}
use Rattle.model.specs.PackedTotals.{has_total, pack_totals, unpack_totals}
use Rattle.model.specs.Tables.{JobTables, counted_of, evening_of, StateTables, StateLengths, state_lengths, view, store, lent_short, totals_short}
use Rattle.model.specs.Ranges.{around, job_in_range, state_in_range, totals_in_range}
use Rattle.model.specs.Step.{Asked, step_rules, StepAnswer, step_answer, Outcome, outcome, stepped, fresh_tables}
use Rattle.model.specs.Run.{run, run_state, picked_places, finished, reported, RunOutcome, ran}

module _ (j : Job) where
  -- The state that tables with full rows hold.
  unfoldable pub full_view : StateTables → State
  full_view t = record {
    known = (view j t).known;
    price_transit = (view j t).price_transit;
    working = cell j.boxes j.grocers t.working (pos 0);
    total_transit = cell j.boxes j.grocers t.total_transit (pos 0);
    statement = (view j t).statement;
    done = (view j t).done;
    sent = (view j t).sent;
  }

  -- The tables t with the state s written into them, in full rows.
  unfoldable pub full_store : State → StateTables → StateTables
  full_store s t = record {
    known = (store j s t).known;
    price_transit = (store j s t).price_transit;
    working = recell j.boxes j.grocers s.working t.working;
    total_transit = recell j.boxes j.grocers s.total_transit t.total_transit;
    statement = (store j s t).statement;
    done = (store j s t).done;
    sent = (store j s t).sent;
  }

  -- 20 on full rows.
  unfoldable pub rows_short : StateLengths → Bool
  rows_short n = ltb n.working (j.boxes * j.grocers) || ltb n.total_transit (j.boxes * j.grocers)

  -- Condition 21 is not met by full rows.
  unfoldable pub rows_in_range : StateTables → Bool
  rows_in_range t = around max_amount (j.boxes * j.grocers) t.working && around max_amount (j.boxes * j.grocers) t.total_transit

  -- Packed tables with full rows instead: 0 for all other grocers.
  unfoldable pub unpacked : StateTables → StateTables
  unpacked t = record {
    known = t.known;
    price_transit = t.price_transit;
    working = recell j.boxes j.grocers (unpack_totals j t.working) [];
    total_transit = recell j.boxes j.grocers (unpack_totals j t.total_transit) [];
    statement = t.statement;
    done = t.done;
    sent = t.sent;
  }

  -- Tables u with full rows, packed into the buffers of t.
  unfoldable pub repacked : StateTables → StateTables → StateTables
  repacked u t = record {
    known = u.known;
    price_transit = u.price_transit;
    working = pack_totals j (cell j.boxes j.grocers u.working (pos 0)) t.working;
    total_transit = pack_totals j (cell j.boxes j.grocers u.total_transit (pos 0)) t.total_transit;
    statement = u.statement;
    done = u.done;
    sent = u.sent;
  }

module _ (f : JobTables) (t : StateTables) where
  -- The tables with the effect of the step that is asked for, on full rows.
  unfoldable pub full_moved : Asked → StateTables
  full_moved q = full_store (evening_of f) (effect (evening_of f) (full_view (evening_of f) t) (kind_of q.kind) q.first q.second) t

  -- The refusals of a step on full rows, by number, and the late 21.
  unfoldable pub full_refusals : Asked → List (Bool × ℕ)
  full_refusals q =
      (lent_short f t || rows_short (evening_of f) (state_lengths t), 20)
      ∷ (not (job_in_range f && (state_in_range f t && rows_in_range (evening_of f) t)), 21)
      ∷ (counted_twice (counted_of f), 9)
      ∷ step_rules (evening_of f) (full_view (evening_of f) t).done q
      ++ (not (state_in_range f (full_moved q) && rows_in_range (evening_of f) (full_moved q)), 21)
      ∷ []

  -- The number of the first that is met, or 0.
  unfoldable pub full_refusal : Asked → ℕ
  full_refusal q = first_met (full_refusals q)

  -- The step on full rows.
  unfoldable pub full_stepped : Asked → Outcome
  full_stepped q = outcome (step_answer (full_refusal q)) (cond (eqb (full_refusal q) 0) (full_moved q) t)

-- The run on full rows.
unfoldable pub full_ran : JobTables → StateTables → List ℕ → List ℕ → RunOutcome
full_ran f t cs p =
    let n = first_met ((lent_short f t || rows_short (evening_of f) (state_lengths t), 20) ∷ (not (job_in_range f), 21) ∷ (counted_twice (counted_of f), 9)
    ∷ []) in
    record {
      answer = reported n (finished (run_state (evening_of f) cs).sent (over messages_of (run (evening_of f) cs)) (length (run (evening_of f) cs)));
      tables = cond (eqb n 0) (full_store (evening_of f) (run_state (evening_of f) cs) t) t;
      picked = cond (eqb n 0) (lay_over (picked_places (evening_of f) cs) p) p;
    }

-- "Where buffers are long enough and totals in range": the packed tables are, whatever else the tables hold.
pub record TotalsIn (j : Job) (t : StateTables) : Type 0 where
  pub long : totals_short j (state_lengths t) ≡ false
  pub in_range : totals_in_range j t ≡ true

-- "Each step on the packed tables gives the same answer and, unpacked with 0 for all other grocers, the same words as on full rows":
-- whatever the job's tables f, the state's tables t and the request q.
pub record SameStep (f : JobTables) (t : StateTables) (q : Asked) : Type 0 where
  pub answer : (stepped f t q).answer ≡ (full_stepped f (unpacked (evening_of f) t) q).answer
  pub words : unpacked (evening_of f) (stepped f t q).tables ≡ (full_stepped f (unpacked (evening_of f) t) q).tables
  -- So what it leaves, to the last word, is what the step on full rows leaves, packed: words past the packed length stay.
  pub packed : (stepped f t q).tables ≡ repacked (evening_of f) (full_stepped f (unpacked (evening_of f) t) q).tables t
  -- What it leaves is long enough and in range again.
  pub again : TotalsIn (evening_of f) (stepped f t q).tables

-- The answers of steps, one after the other on whole tables,
unfoldable pub answers_by : (StateTables → Asked → Outcome) → StateTables → List Asked → List StepAnswer
answers_by step t [] = []
answers_by step t (q ∷ qs) = (step t q).answer ∷ answers_by step (step t q).tables qs

-- and the tables that they leave.
unfoldable pub tables_by : (StateTables → Asked → Outcome) → StateTables → List Asked → StateTables
tables_by step t [] = t
tables_by step t (q ∷ qs) = tables_by step (step t q).tables qs

-- The same of every list of steps, accepted and refused ones.
pub record SameRequests (f : JobTables) (t : StateTables) (qs : List Asked) : Type 0 where
  pub answers : answers_by (stepped f) t qs ≡ answers_by (full_stepped f) (unpacked (evening_of f) t) qs
  pub words : unpacked (evening_of f) (tables_by (stepped f) t qs) ≡ tables_by (full_stepped f) (unpacked (evening_of f) t) qs

-- A fresh state is the same in both, and its totals are long enough and in range, whatever the buffers held:
-- so the same is said of every list of steps that begins fresh, one that a trial takes too.
pub record SameFresh (f : JobTables) (t : StateTables) : Type 0 where
  pub words : unpacked (evening_of f) (fresh_tables f t) ≡ full_store (evening_of f) (fresh (evening_of f)) (unpacked (evening_of f) t)
  pub inside : TotalsIn (evening_of f) (fresh_tables f t)

-- The same of a run: of the packed tables it asks that they are long enough, and nothing of their old words.
pub record SameRun (f : JobTables) (t : StateTables) (cs p : List ℕ) : Type 0 where
  pub answer : (ran f t cs p).answer ≡ (full_ran f (unpacked (evening_of f) t) cs p).answer
  pub words : unpacked (evening_of f) (ran f t cs p).tables ≡ (full_ran f (unpacked (evening_of f) t) cs p).tables
  -- It picks the same steps.
  pub picked : (ran f t cs p).picked ≡ (full_ran f (unpacked (evening_of f) t) cs p).picked

-- Full rows u, long enough and in range, may hold other words than 0 for grocers that are not local, which no list of requests leaves there.
-- No step reads or writes them: packed, the tables give the same answer and words. Buffers t are those that they are packed into.
pub record FromRows (f : JobTables) (u t : StateTables) (q : Asked) : Type 0 where
  pub answer : (stepped f (repacked (evening_of f) u t) q).answer ≡ (full_stepped f u q).answer
  pub words : (stepped f (repacked (evening_of f) u t) q).tables ≡ repacked (evening_of f) (full_stepped f u q).tables t
  -- The other words stay as they are.
  pub working : (b g : ℕ) → has_total (evening_of f) b g ≡ false →
      (full_view (evening_of f) (full_stepped f u q).tables).working b g ≡ (full_view (evening_of f) u).working b g
  pub total_transit : (b g : ℕ) → has_total (evening_of f) b g ≡ false →
      (full_view (evening_of f) (full_stepped f u q).tables).total_transit b g ≡ (full_view (evening_of f) u).total_transit b g
