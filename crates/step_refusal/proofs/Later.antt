-- The conditions after those on the tables, on tables that are whole and in range. Assumes nothing.
use mathlib.Core.Path.{◌≡◌, refl, sym, ap, ◌∙◌}
use mathlib.Core.Bool.{Bool, true, false, cond, not, ◌&&◌}
use mathlib.Core.List.{List}
use Prim.Native.Nat.{ℕ, ◌<◌, ◌≤◌}
use native.Mathlib.Omega.{arith}
use lib.Dec.{ltb}
use borrow.Author.Tests.{ltb-true}
use Rattle.laws.specs.Checks.{first_met}
use Rattle.laws.specs.Listed.{Listed}
use Rattle.laws.specs.Lists.{list_words}
use Rattle.laws.proofs.Bools.{split, and_l, and_r}
use Rattle.model.specs.Steps.{kind_of, Steps, fits, ready}
use Rattle.model.specs.Tables.{JobTables, job_of, evening_of, StateTables, view, steps_done}
use Rattle.model.specs.Ranges.{state_in_range, totals_in_range}
use Rattle.model.specs.Step.{Asked, is_kind, boxes_fit, step_rules, moved}
use Rattle.step_rules.specs.Rules.{ReceiversOf, WaitsOf}
use Rattle.step_checks.specs.Request.{rules_by}
use Rattle.step_apply.specs.Apply.{Spots, SpanOf, prices_of, Applies}
use Rattle.step_refusal.specs.Late.{later_rules, Held}
use Rattle.model.proofs.Step.{range}
use Rattle.model.proofs.Whole.{JobWhole, job_whole, StateWhole, state_whole}
use Rattle.model.proofs.EveningJob.{evening_done}
use Rattle.model.proofs.PriceLists.{same_steps_lem}
use Rattle.step_refusal.proofs.Extra.{met_first}
use Rattle.step_checks.proofs.Asked.{rules_are}

-- No condition of 22 to 26 is met: the late one decides.
last_decides : (i x f d r c : Bool) → cond {A = ℕ} (not i) 22 (cond (not x) 23 (cond (not f) 24 (cond d 25 (cond (not r) 26 0)))) ≡ 0 →
    cond {A = ℕ} (not i) 22 (cond (not x) 23 (cond (not f) 24 (cond d 25 (cond (not r) 26 (cond c 21 0))))) ≡ cond c 21 0
last_decides false x f d r c h = absurd (omega arith)
last_decides true false f d r c h = absurd (omega arith)
last_decides true true false d r c h = absurd (omega arith)
last_decides true true true true r c h = absurd (omega arith)
last_decides true true true false false c h = absurd (omega arith)
last_decides true true true false true c h = refl

-- And the kind and its boxes are in order.
in_order : (i x f d r : Bool) → cond {A = ℕ} (not i) 22 (cond (not x) 23 (cond (not f) 24 (cond d 25 (cond (not r) 26 0)))) ≡ 0 → (i ≡ true) × (x ≡ true)
in_order false x f d r h = absurd (omega arith)
in_order true false f d r h = absurd (omega arith)
in_order true true f d r h = (refl, refl)

module _ (f : JobTables) (t : StateTables) (h : Held f t) where
  pub whole : JobWhole f
  whole = job_whole f h.job_long

  pub whole_state : StateWhole f.boxes (list_words f.lists f.grocers) (list_words f.lists f.offers) t
  whole_state = state_whole f t h.state_long

  pub few_boxes : f.boxes ≤ 16
  unfolding job_of
  few_boxes = (range f h.job_in_lem.inside).boxes≤

  -- With the words of receivers or of waits, as the kind's side asks.
  module _ (receivers : List ℕ) (waits : List (List ℕ)) (q : Asked) (hr : q.kind ≤ 3 → ReceiversOf (job_of f) receivers) (hw : 4 ≤ q.kind → WaitsOf (job_of f) waits)
      (r : ℕ) (er : r ≡ first_met (rules_by f.boxes receivers waits (steps_done f.boxes t.done) q)) where
    abbrev steps : Steps
    steps = (view (evening_of f) t).done

    -- What the code's rules give is the model's: the evening's job has the steps of the job.
    rules_job : r ≡ first_met (step_rules (job_of f) steps q)
    unfolding job_of
    rules_job =
        er ∙ ap (λ (d : Steps). first_met (rules_by f.boxes receivers waits d q)) (sym (evening_done f t))
        ∙ rules_are (job_of f) receivers waits (view (evening_of f) t).done q hr hw

    rules_model : r ≡ first_met (step_rules (evening_of f) steps q)
    rules_model = rules_job ∙ ap (λ (w : Steps → Asked → List (Bool × ℕ)). first_met (w steps q)) (sym (same_steps_lem f).rules)

    -- A condition of 22 to 26 is met.
    pub later_met : (r ≡ 0 → ⊥) → r ≡ first_met (later_rules f t q)
    unfolding later_rules
    later_met ne = rules_model ∙ sym (met_first (step_rules (evening_of f) steps q) _ (λ z. ne (rules_model ∙ z)))

    -- None is.
    module _ (z : r ≡ 0) where
      pub kind_boxes : (is_kind q.kind ≡ true) × (boxes_fit (job_of f) (kind_of q.kind) q.first q.second ≡ true)
      unfolding first_met step_rules
      kind_boxes =
          in_order (is_kind q.kind) (boxes_fit (job_of f) (kind_of q.kind) q.first q.second) (fits (job_of f) (kind_of q.kind) q.first q.second)
          (steps (kind_of q.kind) q.first q.second) (ready (job_of f) steps (kind_of q.kind) q.first q.second) (sym rules_job ∙ z)

      -- Both boxes are boxes of the job.
      pub boxes_below : (q.first < f.boxes) × (q.second < f.boxes)
      unfolding boxes_fit job_of
      boxes_below =
          let h = kind_boxes.1 in
          let x = ltb q.first f.boxes in
          let y = ltb q.second f.boxes in
          (ltb-true q.first f.boxes (and_l x _ h), ltb-true q.second f.boxes (and_l y _ (and_r x _ h)))

      -- What is asked of the step that is applied.
      pub applies : (places : List ℕ) (from to : ℕ) (listed : List ℕ) →
          (q.kind ≤ 3 → (q.kind ≡ 2 → ⊥) → Listed f.offers (prices_of (job_of f) q.kind q.first q.second) from to listed) →
          (2 ≤ q.kind → q.kind ≤ 3 → Spots f q.first places) → (4 ≤ q.kind → SpanOf (job_of f) q.kind q.first q.second from to listed) → Applies f t places from to listed q
      applies places from to listed eo ep es = record {
        job_in_lem = h.job_in_lem;
        job_long = h.job_long;
        state_long = h.state_long;
        state_in = h.state_in;
        totals_long = h.totals_long;
        totals_in = h.totals_in;
        offers_are = eo;
        places_are = ep;
        span_is = es;
        kind_in = kind_boxes.0;
        boxes_fit_lem = kind_boxes.1;
      }

      module _ (v : Bool) (ev : v ≡ (state_in_range f (moved f t q) && totals_in_range (evening_of f) (moved f t q))) where
        late_decides : first_met (later_rules f t q) ≡ cond (not v) 21 0
        unfolding first_met later_rules step_rules
        late_decides =
            last_decides (is_kind q.kind) (boxes_fit (evening_of f) (kind_of q.kind) q.first q.second) (fits (evening_of f) (kind_of q.kind) q.first q.second)
            (steps (kind_of q.kind) q.first q.second) (ready (evening_of f) steps (kind_of q.kind) q.first q.second) (not (state_in_range f (moved f t q) && totals_in_range (evening_of f) (moved f t q))) (sym rules_model ∙ z)
            ∙ ap (λ (b : Bool). cond {A = ℕ} (not b) 21 0) (sym ev)

        -- The late 21, and none.
        later_late : not v ≡ true → 21 ≡ first_met (later_rules f t q)
        later_late e = sym (late_decides ∙ rw e)

        later_none : not v ≡ false → 0 ≡ first_met (later_rules f t q)
        later_none e = sym (late_decides ∙ rw e)

        pub verdict : cond v 0 21 ≡ first_met (later_rules f t q)
        verdict = split v (λ y. rw y (later_none (ap not y))) (λ n. rw n (later_late (ap not n)))
