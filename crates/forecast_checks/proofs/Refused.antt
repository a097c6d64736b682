-- The number of the first condition met, from the tests that led to it. Assumes nothing.
use mathlib.Core.Path.{◌≡◌, refl, sym, ap, ◌∙◌}
use mathlib.Core.Bool.{Bool, true, false, cond, ◌&&◌, ◌||◌, not, false≢true}
use Prim.Native.Nat.{ℕ, ◌<◌}
use native.Mathlib.Omega.{arith}
use lib.Dec.{eqb, ltb}
use borrow.Author.Tests.{ne_eqb, eqb-true}
use Rattle.laws.specs.Checks.{first_met}
use Rattle.laws.proofs.Bools.{split, or_off, and_l, and_r}
use Rattle.model.specs.Step.{Asked, is_kind}
use Rattle.forecast_rules.specs.Lines.{bad_line}
use Rattle.forecast_rules.specs.Steps.{kind_of, Steps, fits, has_step, permitted}
use Rattle.forecast_rules.specs.Tables.{ForecastTables, forecast_of, StateTables, view, forecast_lengths, state_lengths, forecast_short, state_short, lent_short}
use Rattle.forecast_rules.specs.Ranges.{forecast_in_range, state_in_range, Forecasts}
use Rattle.forecast_rules.specs.Step.{step_rules, moved, refusals, step_refusal, fresh_refusals}
use Rattle.forecast_rules.proofs.Refusal.{rules_zero, rules_then}
use Rattle.forecast_rules.proofs.Machine.{first<, second<}
use Rattle.forecast_checks.specs.Decided.{lent_refusals, table_refusals}

-- 20 and 21 alone: a number that is met is met, whatever comes after.
either : (s r : Bool) (rest : ℕ) → let n = cond {A = ℕ} s 20 (cond (not r) 21 0) in 0 < n → n ≡ cond s 20 (cond (not r) 21 rest)
either true r rest h = refl
either false false rest h = refl
either false true rest h = absurd (omega (arith, h))

-- Where neither is met.
neither : (s r : Bool) → 0 ≡ cond {A = ℕ} s 20 (cond (not r) 21 0) → (s ≡ false) × (r ≡ true)
neither true r h = absurd (omega (arith, h))
neither false false h = absurd (omega (arith, h))
neither false true h = (refl, refl)

-- A number that is met on the tables is met, whatever comes after.
first : (s r b : Bool) (rest : ℕ) → let n = cond {A = ℕ} s 20 (cond (not r) 21 (cond b 34 0)) in (n ≡ 0 → ⊥) → n ≡ cond s 20 (cond (not r) 21 (cond b 34 rest))
first true r b rest h = refl
first false false b rest h = refl
first false true true rest h = refl
first false true false rest h = absurd (h refl)

none : (s r b : Bool) → cond {A = ℕ} s 20 (cond (not r) 21 (cond b 34 0)) ≡ 0 → (s ≡ false) × ((r ≡ true) × (b ≡ false))
none true r b h = absurd (false≢true (ap (λ (n : ℕ). eqb n 0) h))
none false false b h = absurd (false≢true (ap (λ (n : ℕ). eqb n 0) h))
none false true true h = absurd (false≢true (ap (λ (n : ℕ). eqb n 0) h))
none false true false h = (refl, (refl, refl))

-- Where nothing is met, nothing is met on the tables.
alone : (s r b : Bool) (rest : ℕ) → cond s 20 (cond (not r) 21 (cond b 34 rest)) ≡ 0 → cond {A = ℕ} s 20 (cond (not r) 21 (cond b 34 0)) ≡ 0
alone true r b rest h = h
alone false false b rest h = h
alone false true true rest h = h
alone false true false rest h = refl

module _ (f : ForecastTables) (t : StateTables) where
  -- 20 from its two tests.
  pub short_told : (x y v : Bool) → x ≡ forecast_short f (forecast_lengths f) → y ≡ state_short f (state_lengths t) → (x || y) ≡ v → lent_short f t ≡ v
  unfolding lent_short
  short_told x y v ex ey e = rw (sym ex, sym ey) e

  pub whole-told : lent_short f t ≡ false → (forecast_short f (forecast_lengths f) ≡ false) × (state_short f (state_lengths t) ≡ false)
  unfolding lent_short
  whole-told h = or_off (forecast_short f (forecast_lengths f)) (state_short f (state_lengths t)) h

  -- 20 and 21 on the tables of the forecast.
  pub lent_short_lem : lent_short f t ≡ true → 20 ≡ first_met (lent_refusals f t)
  unfolding first_met lent_refusals
  lent_short_lem h = rw h

  pub lent_told : (v : Bool) → lent_short f t ≡ false → forecast_in_range f ≡ v → cond v 0 21 ≡ first_met (lent_refusals f t)
  unfolding first_met lent_refusals
  lent_told true h r = rw (h, r)
  lent_told false h r = rw (h, r)

  pub lent_none : 0 ≡ first_met (lent_refusals f t) → (lent_short f t ≡ false) × (forecast_in_range f ≡ true)
  unfolding first_met lent_refusals
  lent_none h = neither (lent_short f t) (forecast_in_range f) h

  -- The call for a fresh state.
  pub fresh_lent : (n : ℕ) → n ≡ first_met (lent_refusals f t) → 0 < n → n ≡ first_met (fresh_refusals f t)
  unfolding first_met lent_refusals fresh_refusals
  fresh_lent n e h = e ∙ either (lent_short f t) (forecast_in_range f) _ (rw e at h)

  pub fresh_lines : 0 ≡ first_met (lent_refusals f t) → (n : ℕ) → n ≡ cond (bad_line (forecast_of f)) 34 0 → n ≡ first_met (fresh_refusals f t)
  unfolding first_met fresh_refusals
  fresh_lines h n e = let d = lent_none h in e ∙ rw (d.0, d.1)

  pub fresh_none : first_met (fresh_refusals f t) ≡ 0 → (lent_short f t ≡ false) × ((forecast_in_range f ≡ true) × (bad_line (forecast_of f) ≡ false))
  unfolding first_met fresh_refusals
  fresh_none h = none (lent_short f t) (forecast_in_range f) (bad_line (forecast_of f)) h

  -- The tables of a step.
  pub table_lent : (n : ℕ) → n ≡ first_met (lent_refusals f t) → 0 < n → n ≡ first_met (table_refusals f t)
  unfolding first_met lent_refusals table_refusals
  table_lent n e h = e ∙ both (lent_short f t) (forecast_in_range f) (state_in_range f t) _ (rw e at h)
    where
      both : (s r w : Bool) (rest : ℕ) → let n = cond {A = ℕ} s 20 (cond (not r) 21 0) in 0 < n → n ≡ cond s 20 (cond (not (r && w)) 21 rest)
      both true r w rest h = refl
      both false false w rest h = refl
      both false true w rest h = absurd (omega (arith, h))

  module _ (h : 0 ≡ first_met (lent_refusals f t)) where
    pub state_whole_lem : state_short f (state_lengths t) ≡ false
    state_whole_lem = (whole-told (lent_none h).0).1

    pub table_state : state_in_range f t ≡ false → 21 ≡ first_met (table_refusals f t)
    unfolding first_met table_refusals
    table_state r = let d = lent_none h in rw (d.0, d.1, r)

    pub table_lines : state_in_range f t ≡ true → (n : ℕ) → n ≡ cond (bad_line (forecast_of f)) 34 0 → n ≡ first_met (table_refusals f t)
    unfolding first_met table_refusals
    table_lines r n e = let d = lent_none h in e ∙ rw (d.0, d.1, r)

  -- No condition on the tables is met.
  pub record Entered : Type 0 where
    pub whole : forecast_short f (forecast_lengths f) ≡ false
    pub long : state_short f (state_lengths t) ≡ false
    pub inside : forecast_in_range f ≡ true
    pub state : state_in_range f t ≡ true
    pub lines : bad_line (forecast_of f) ≡ false

  three : first_met (table_refusals f t) ≡ 0 → (lent_short f t ≡ false) × (((forecast_in_range f && state_in_range f t) ≡ true) × (bad_line (forecast_of f) ≡ false))
  unfolding first_met table_refusals
  three h = none (lent_short f t) (forecast_in_range f && state_in_range f t) (bad_line (forecast_of f)) h

  pub entered : first_met (table_refusals f t) ≡ 0 → Entered
  entered h =
      let d = three h in
      let w = whole-told d.0 in
      record {
        whole = w.0;
        long = w.1;
        inside = and_l (forecast_in_range f) (state_in_range f t) d.1.0;
        state = and_r (forecast_in_range f) (state_in_range f t) d.1.0;
        lines = d.1.1;
      }

  pub forecasts : Entered → Forecasts f
  forecasts e = record { whole = e.whole; in_range = e.inside; lines = e.lines }

  -- The step.
  module _ (q : Asked) where
    pub step_tables_lem : (n : ℕ) → n ≡ first_met (table_refusals f t) → (n ≡ 0 → ⊥) → n ≡ step_refusal f t q
    unfolding first_met table_refusals step_refusal refusals
    step_tables_lem n e h = e ∙ first (lent_short f t) (forecast_in_range f && state_in_range f t) (bad_line (forecast_of f)) _ (λ z. h (e ∙ z))

    rest : first_met (table_refusals f t) ≡ 0 →
        step_refusal f t q ≡ cond (eqb (first_met (step_rules (forecast_of f) (view (forecast_of f) t).done q)) 0) (cond (not (state_in_range f (moved f t q))) 21 0)
        (first_met (step_rules (forecast_of f) (view (forecast_of f) t).done q))
    unfolding first_met step_refusal refusals
    rest h = let d = three h in rw (d.0, d.1.0, d.1.1) (rules_then (forecast_of f) (view (forecast_of f) t).done q (not (state_in_range f (moved f t q))))

    -- An accepted step: no condition is met.
    pub accepted_tables : step_refusal f t q ≡ 0 → first_met (table_refusals f t) ≡ 0
    unfolding first_met table_refusals step_refusal refusals
    accepted_tables h = alone (lent_short f t) (forecast_in_range f && state_in_range f t) (bad_line (forecast_of f)) _ h

    pub accepted_rules : step_refusal f t q ≡ 0 → 0 ≡ first_met (step_rules (forecast_of f) (view (forecast_of f) t).done q)
    accepted_rules h =
        let m = first_met (step_rules (forecast_of f) (view (forecast_of f) t).done q) in
        split (eqb m 0) (λ e. sym (eqb-true m 0 e)) (λ e. sym (rw e at (sym (rest (accepted_tables h)) ∙ h)))

    module _ (h : first_met (table_refusals f t) ≡ 0) (n : ℕ) (e : n ≡ first_met (step_rules (forecast_of f) (view (forecast_of f) t).done q)) where
      pub step_rules_lem : (n ≡ 0 → ⊥) → n ≡ step_refusal f t q
      step_rules_lem ne = sym (rest h ∙ rw (sym e, ne_eqb n 0 ne))

      pub step_late : n ≡ 0 → (v : Bool) → v ≡ state_in_range f (moved f t q) → cond v 0 21 ≡ step_refusal f t q
      step_late z v ev = sym (rest h ∙ rw (sym e, z, sym ev) (turned v))
        where
          turned : (v : Bool) → cond {A = ℕ} (not v) 21 0 ≡ cond v 0 21
          turned true = refl
          turned false = refl

    -- What a request that none of 22 to 26 refuses asks for: a kind, with boxes of the forecast, and of kind 6 one box.
    pub record AskedIn : Type 0 where
      pub kind : is_kind q.kind ≡ true
      pub first< : q.first < f.boxes
      pub second< : q.second < f.boxes
      pub one : q.kind ≡ 6 → q.second ≡ q.first

    has : (d : Steps) → permitted (forecast_of f) d (kind_of q.kind) q.first q.second ≡ true → has_step (forecast_of f) (kind_of q.kind) q.first q.second ≡ true
    unfolding permitted
    has d h = and_l (has_step (forecast_of f) (kind_of q.kind) q.first q.second) _ h

    fitting : has_step (forecast_of f) (kind_of q.kind) q.first q.second ≡ true → fits (forecast_of f) (kind_of q.kind) q.first q.second ≡ true
    unfolding has_step
    fitting h = and_r (ltb q.second (forecast_of f).job.boxes) _ (and_r (ltb q.first (forecast_of f).job.boxes) _ h)

    same_box : (k : ℕ) → k ≡ 6 → fits (forecast_of f) (kind_of k) q.first q.second ≡ true → q.second ≡ q.first
    unfolding fits kind_of
    same_box k e h = sym (eqb-true q.first q.second (at_six (rw e at h)))
      where
        at_six : fits (forecast_of f) (kind_of 6) q.first q.second ≡ true → eqb q.first q.second ≡ true
        at_six y = y

    pub asked_in : (n : ℕ) → n ≡ first_met (step_rules (forecast_of f) (view (forecast_of f) t).done q) → n ≡ 0 → AskedIn
    unfolding forecast_of
    asked_in n e z =
        let d = (view (forecast_of f) t).done in
        let k = kind_of q.kind in
        let p : (is_kind q.kind && permitted (forecast_of f) d k q.first q.second) ≡ true = sym (rules_zero (forecast_of f) d q) ∙ ap (λ (x : ℕ). eqb x 0) (sym e ∙ z) in
        let h : has_step (forecast_of f) k q.first q.second ≡ true = has d (and_r (is_kind q.kind) _ p) in
        record { kind = and_l (is_kind q.kind) _ p; first< = first< (forecast_of f) k q.first q.second h; second< = second< (forecast_of f) k q.first q.second h; one = λ x. same_box q.kind x (fitting h) }
