-- The tables on the way of a run hold a state that a list of steps can leave: a step applied to them. Assumes nothing.
use mathlib.Core.Path.{◌≡◌, refl, sym, ap, ap₂, ◌∙◌}
use mathlib.Core.Bool.{Bool, true, false, cond, not}
use mathlib.Core.List.{List}
use Prim.Native.Nat.{ℕ, ◌+◌, ◌<◌, ◌≤◌}
use native.Mathlib.Omega.{arith}
use lib.Dec.{eqb, ltb}
use lib.ListN.{get_or}
use borrow.Author.Tests.{leb-true, ltb-true}
use Rattle.laws.specs.Listed.{Listed}
use Rattle.laws.specs.Checks.{first_met}
use Rattle.laws.proofs.Bools.{and_true, and_l, and_r}
use Rattle.model.specs.Job.{Job}
use Rattle.model.specs.Steps.{kind_of, Steps, State, fits, ready, permitted}
use Rattle.model.specs.Tables.{JobTables, job_of, evening_of, StateTables, view, store, job_lengths, job_short, state_lengths, state_short, totals_short}
use Rattle.model.specs.Ranges.{sizes_in_range, state_in_range, totals_in_range}
use Rattle.model.specs.Handed.{handed_in_range, Handed}
use Rattle.model.specs.Step.{asked, is_kind, boxes_fit, step_rules}
use Rattle.step_apply.specs.Apply.{Applies, Spots, SpanOf, prices_of}
use Rattle.run_steps.specs.All.{head_of, Looked}
use Rattle.model.specs.Boxes.{Sound}
use Rattle.model.proofs.EveningJob.{evening_fits}
use Rattle.model.proofs.Refusal.{rules_zero}
use Rattle.model.proofs.Step.{ok_store, whole-store, totals_store, whole_totals}
use Rattle.model.proofs.Lent.{store-store}
use Rattle.model.proofs.Served.{within, view_is}

-- The job's tables are whole and in range, and the state's hold a state that a list of steps can leave.
pub record OnWay (f : JobTables) (t : StateTables) : Type 0 where
  pub job_in_lem : Handed f
  pub job_long : job_short f (job_lengths f) ≡ false
  pub held : t ≡ store (evening_of f) (view (evening_of f) t) t
  pub sound : Sound (evening_of f) (view (evening_of f) t)

-- A state that a list can leave, written into tables.
module _ (f : JobTables) (ok : Handed f) (long : job_short f (job_lengths f) ≡ false) (t t' : StateTables) (s : State) (o : Sound (evening_of f) s) (e : t' ≡ store (evening_of f) s t) where
  pub stored_view : view (evening_of f) t' ≡ s
  stored_view = ap (view (evening_of f)) e ∙ view_is f ok.inside t s o

  pub stored_way : OnWay f t'
  stored_way = record {
    job_in_lem = ok;
    job_long = long;
    held = e ∙ sym (store-store (evening_of f) s s t) ∙ ap₂ (λ (u : State) (v : StateTables). store (evening_of f) u v) (sym stored_view) (sym e);
    sound = rw stored_view o;
  }

-- A permitted step has boxes that fit its kind.
permitted_fits : (j : Job) (d : Steps) (kind a b : ℕ) → is_kind kind ≡ true → permitted j d (kind_of kind) a b ≡ true → boxes_fit j (kind_of kind) a b ≡ true
unfolding first_met step_rules
permitted_fits j d kind a b k p =
    unmet (boxes_fit j (kind_of kind) a b) (fits j (kind_of kind) a b) (d (kind_of kind) a b) (ready j d (kind_of kind) a b)
    (rw k at (rules_zero j d (asked kind a b) ∙ and_true k p))
  where
    unmet : (x f d r : Bool) → eqb (cond (not x) 23 (cond (not f) 24 (cond d 25 (cond (not r) 26 0)))) 0 ≡ true → x ≡ true
    unmet true f d r h = refl
    unmet false f d r h = h

module _ (f : JobTables) (t : StateTables) (o : OnWay f t) where
  -- The tables are whole and in range.
  way_whole : state_short f (state_lengths t) ≡ false
  way_whole = ap (λ (u : StateTables). state_short f (state_lengths u)) o.held ∙ whole-store f (view (evening_of f) t) t

  way_range : state_in_range f t ≡ true
  way_range = ap (state_in_range f) o.held ∙ ok_store f (view (evening_of f) t) t (within f o.job_in_lem.inside t (view (evening_of f) t) o.sound)

  way_totals : totals_short (evening_of f) (state_lengths t) ≡ false
  way_totals = ap (λ (u : StateTables). totals_short (evening_of f) (state_lengths u)) o.held ∙ whole_totals (evening_of f) (view (evening_of f) t) t

  way_amounts : totals_in_range (evening_of f) t ≡ true
  way_amounts = ap (totals_in_range (evening_of f)) o.held ∙ totals_store (evening_of f) (view (evening_of f) t) t (within f o.job_in_lem.inside t (view (evening_of f) t) o.sound)

  -- A permitted step, asked for by its number.
  module _ (kind a b : ℕ) (k : is_kind kind ≡ true) (p : permitted (evening_of f) (view (evening_of f) t).done (kind_of kind) a b ≡ true) where
    way_fits : boxes_fit (job_of f) (kind_of kind) a b ≡ true
    way_fits = sym (evening_fits f (kind_of kind) a b) ∙ permitted_fits (evening_of f) (view (evening_of f) t).done kind a b k p

    pub way_boxes : (a < f.boxes) × (b < f.boxes)
    unfolding boxes_fit job_of
    way_boxes =
        let rest = and_r (ltb a f.boxes) _ way_fits in
        (ltb-true a f.boxes (and_l (ltb a f.boxes) _ way_fits), ltb-true b f.boxes (and_l (ltb b f.boxes) _ rest))

    applies : (places : List ℕ) (from to : ℕ) (listed : List ℕ) → (kind ≤ 3 → (kind ≡ 2 → ⊥) → Listed f.offers (prices_of (job_of f) kind a b) from to listed) →
        Spots f a places → (4 ≤ kind → SpanOf (job_of f) kind a b from to listed) → Applies f t places from to listed (asked kind a b)
    applies places from to listed offers spots span = record {
      job_in_lem = o.job_in_lem;
      job_long = o.job_long;
      state_long = way_whole;
      state_in = way_range;
      totals_long = way_totals;
      totals_in = way_amounts;
      offers_are = offers;
      places_are = λ _ _. spots;
      span_is = span;
      kind_in = k;
      boxes_fit_lem = way_fits;
    }

    module _ (tlinks places offer_heads offers heads grocers : List ℕ) (look : Looked f tlinks places offer_heads offers heads grocers) where
      -- On the side of prices it goes by the offers listed,
      pub prices_apply : kind ≤ 3 → Applies f t places (get_or offer_heads (head_of kind a b) 0) (get_or offer_heads (head_of kind a b + 1) 0) offers (asked kind a b)
      prices_apply small =
          applies places _ _ offers (look.offers_are kind a b way_boxes.0 way_boxes.1) (look.spots_are a way_boxes.0) (λ many. absurd (omega (arith, small, many)))

      -- and on the side of totals by the spans.
      pub totals_apply : 3 < kind → Applies f t places (get_or heads (head_of kind a b) 0) (get_or heads (head_of kind a b + 1) 0) grocers (asked kind a b)
      totals_apply large =
          applies places _ _ grocers (λ small. absurd (omega (arith, small, large))) (look.spots_are a way_boxes.0) (look.spans_are kind a b way_boxes.0 way_boxes.1)

-- A job in range has boxes.
pub some_box : (f : JobTables) → Handed f → 1 ≤ f.boxes
unfolding handed_in_range sizes_in_range
some_box f ok = leb-true 1 f.boxes (let h = and_l (sizes_in_range f) _ ok.inside in search (and_l, and_r) depth 12)
