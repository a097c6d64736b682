-- The step and the run on packed tables do what they do on full rows. Assumes nothing.
use mathlib.Core.Path.{◌≡◌, refl, sym, ap, ap₂, ◌∙◌}
use mathlib.Core.Bool.{Bool, true, false, cond, ◌&&◌, ◌||◌, not}
use mathlib.Core.List.{List, [], ◌∷◌}
use Prim.Native.Nat.{ℕ, zero, suc, ◌+◌, ◌*◌, ◌/◌, ◌%◌, ◌<◌, ◌≤◌}
use native.Mathlib.Omega.{arith}
use lib.Dec.{eqb, ltb, leb}
use lib.IntN.{ℤ, pos, nat_abs}
use lib.ListN.{get_or}
use borrow.Author.Tests.{eqb-true, ne_eqb, le-ltb, le-leb, ltb-true}
use Rattle.laws.specs.Checks.{first_met}
use Rattle.laws.specs.Limits.{max_amount}
use Rattle.laws.specs.Tables.{cell, recell}
use Rattle.laws.proofs.Bools.{split, clash, no_true, and_true, and_l, and_r, and_one, or_false, cond_same}
use Rattle.laws.proofs.Below.{all_cong}
use Rattle.laws.proofs.Tables.{cell_recell, recell_cong, over-over, long_overwrite, get_d_overwrite, cell_in}
use Rattle.recount.specs.Recount.{counted_twice}
use Rattle.model.specs.Job.{Job}
use Rattle.model.specs.Steps.{State, fresh, kind_of, effect}
use Rattle.model.specs.PackedTotals.{has_total, totals_length, total_rows, pack_totals, unpack_totals}
use Rattle.model.specs.Tables.{JobTables, counted_of, evening_of, StateTables, view, store, state_lengths, state_short, lent_short, totals_short}
use Rattle.model.specs.Ranges.{around, job_in_range, state_in_range, totals_in_range}
use Rattle.model.specs.Step.{Asked, step_rules, moved, refusals, step_refusal, step_tables, step_answer, stepped, fresh_tables}
use Rattle.model.specs.Run.{run_state, run_refusals, ran}
use Rattle.model.specs.FullRows.{full_view, full_store, rows_short, rows_in_range, unpacked, repacked, full_moved, full_refusals, full_refusal}
use Rattle.model.specs.FullRows.{full_stepped, full_ran, TotalsIn, SameStep, answers_by, tables_by, SameRequests, SameFresh, SameRun}
use Rattle.model.specs.FullRows.{FromRows}
use Rattle.model.proofs.Core.{state_eq}
use Rattle.model.proofs.Range.{InRange}
use Rattle.model.proofs.Step.{evening_range, in_handed, around-over, around_at, whole_totals}
use Rattle.model.proofs.PackedTotals.{total_inside, unpack_pack, unpack_out, pack_over, pack_cong, pack_pack, pack_long, pack_unpack, rows_each, around_rows}
use Rattle.model.proofs.LocalTotals.{at_local, effect_local, working_stays, transit_stays, form_local}
use Rattle.model.proofs.Lent.{totals_long}
use Rattle.model.proofs.Served.{rules_then}
use Rattle.model.proofs.Demand3.{run_all}

-- The rest of a list of conditions, where the first is not met.
none_met : (c : Bool) (n m : ℕ) → (n ≡ 0 → ⊥) → cond c n m ≡ 0 → m ≡ 0
none_met true n m h e = absurd (h e)
none_met false n m h e = e

not_met : (c : Bool) (n : ℕ) → (n ≡ 0 → ⊥) → cond c n 0 ≡ 0 → c ≡ false
not_met true n h e = absurd (h e)
not_met false n h e = refl

not_not : (c : Bool) → not c ≡ false → c ≡ true
not_not true e = refl
not_not false e = sym e

module _ (j : Job) where
  -- Unpacked totals have nothing outside the job's bounds.
  clip_unpack : (l : List ℤ) (b g : ℕ) → cond (ltb b j.boxes && ltb g j.grocers) (unpack_totals j l b g) (pos 0) ≡ unpack_totals j l b g
  clip_unpack l b g =
      split (ltb b j.boxes && ltb g j.grocers)
      (λ e. rw e)
      (λ e. rw e (sym (unpack_out j l b g (no_true (has_total j b g) (λ h. clash (total_inside j b g h) e)))))

  -- Full rows of unpacked totals read as these.
  rows_read : (l : List ℤ) (b g : ℕ) → cell j.boxes j.grocers (recell j.boxes j.grocers (unpack_totals j l) []) (pos 0) b g ≡ unpack_totals j l b g
  rows_read l b g = cell_recell j.boxes j.grocers (unpack_totals j l) [] (pos 0) b g ∙ clip_unpack l b g

  -- The state that unpacked tables hold is the one that the packed ones hold.
  view_full : (t : StateTables) → full_view j (unpacked j t) ≡ view j t
  unfolding full_view unpacked view
  view_full t =
      state_eq (full_view j (unpacked j t)) (view j t)
      (λ b o. refl) (λ b o. refl) (rows_read t.working) (rows_read t.total_transit) (λ g. refl) refl refl

  -- It has nothing outside the job's bounds, nor at grocers that are not local.
  view_inside : (t : StateTables) (b g : ℕ) → (ltb b j.boxes && ltb g j.grocers) ≡ false → (view j t).working b g ≡ pos 0
  unfolding view
  view_inside t b g e = sym (clip_unpack t.working b g) ∙ rw e

  view_local : (t : StateTables) → at_local j (view j t) ≡ view j t
  unfolding at_local view
  view_local t =
      state_eq (at_local j (view j t)) (view j t)
      (λ b o. refl) (λ b o. refl) (kept t.working) (kept t.total_transit) (λ g. refl) refl refl
    where
      kept : (l : List ℤ) (b g : ℕ) → cond (has_total j b g) (unpack_totals j l b g) (pos 0) ≡ unpack_totals j l b g
      kept l b g = split (has_total j b g) (λ e. rw e) (λ e. rw e (sym (unpack_out j l b g e)))

  -- A table written twice.
  recell_twice : (w v : ℕ → ℕ → ℤ) (l : List ℤ) → recell j.boxes j.grocers w (recell j.boxes j.grocers v l) ≡ recell j.boxes j.grocers w l
  unfolding recell
  recell_twice w v l = over-over (j.boxes * j.grocers) (λ i. w (i / j.grocers) (i % j.grocers)) (λ i. v (i / j.grocers) (i % j.grocers)) l

  -- A state of local totals alone, written packed and then unpacked, is written in full rows.
  unpack_store : (s : State) (t : StateTables) → at_local j s ≡ s → unpacked j (store j s t) ≡ full_store j s (unpacked j t)
  unfolding unpacked store full_store at_local
  unpack_store s t e = λ i. record {
    known = (store j s t).known;
    price_transit = (store j s t).price_transit;
    working = (recell_cong j.boxes j.grocers (unpack_totals j (pack_totals j s.working t.working)) s.working []
        (λ b g lb lg. unpack_pack j s.working t.working b g ∙ ap (λ (r : State). r.working b g) e)
        ∙ sym (recell_twice s.working (unpack_totals j t.working) [])) i;
    total_transit = (recell_cong j.boxes j.grocers (unpack_totals j (pack_totals j s.total_transit t.total_transit)) s.total_transit []
        (λ b g lb lg. unpack_pack j s.total_transit t.total_transit b g ∙ ap (λ (r : State). r.total_transit b g) e)
        ∙ sym (recell_twice s.total_transit (unpack_totals j t.total_transit) [])) i;
    statement = (store j s t).statement;
    done = (store j s t).done;
    sent = (store j s t).sent;
  }

  -- Packed totals are in range just where the full rows are,
  totals_rows : (t : StateTables) → totals_in_range j t ≡ rows_in_range j (unpacked j t)
  unfolding totals_in_range rows_in_range unpacked
  totals_rows t = ap₂ ◌&&◌ (around_rows j t.working max_amount) (around_rows j t.total_transit max_amount)

  -- and full rows are long enough.
  rows_whole : (t : StateTables) → rows_short j (state_lengths (unpacked j t)) ≡ false
  unfolding rows_short state_lengths unpacked recell
  rows_whole t = rw (
    le-ltb _ _ (long_overwrite (j.boxes * j.grocers) (λ i. unpack_totals j t.working (i / j.grocers) (i % j.grocers)) []),
    le-ltb _ _ (long_overwrite (j.boxes * j.grocers) (λ i. unpack_totals j t.total_transit (i / j.grocers) (i % j.grocers)) []),
  )

-- The other tables are looked at as before.
module _ (f : JobTables) (j : Job) (t : StateTables) where
  else_same : state_in_range f (unpacked j t) ≡ state_in_range f t
  unfolding state_in_range unpacked
  else_same = refl

  lent_same : lent_short f (unpacked j t) ≡ lent_short f t
  unfolding lent_short state_short state_lengths unpacked
  lent_same = refl

-- Where the job is in range.
module _ (f : JobTables) (ok : job_in_range f ≡ true) where
  in_range_lem : InRange (evening_of f)
  in_range_lem = evening_range f (in_handed f ok)

  module _ (t : StateTables) (q : Asked) where
    moved_local : at_local (evening_of f) (effect (evening_of f) (view (evening_of f) t) (kind_of q.kind) q.first q.second)
        ≡ effect (evening_of f) (view (evening_of f) t) (kind_of q.kind) q.first q.second
    moved_local =
        sym (effect_local (evening_of f) in_range_lem (view (evening_of f) t) (view_inside (evening_of f) t) (kind_of q.kind) q.first q.second)
        ∙ ap (λ (s : State). effect (evening_of f) s (kind_of q.kind) q.first q.second) (view_local (evening_of f) t)

    -- What the step leaves, unpacked.
    moved_same : unpacked (evening_of f) (moved f t q) ≡ full_moved f (unpacked (evening_of f) t) q
    unfolding moved full_moved
    moved_same =
        unpack_store (evening_of f) (effect (evening_of f) (view (evening_of f) t) (kind_of q.kind) q.first q.second) t moved_local
        ∙ ap (λ (s : State). full_store (evening_of f) (effect (evening_of f) s (kind_of q.kind) q.first q.second) (unpacked (evening_of f) t)) (sym (view_full (evening_of f) t))

    late_same : (state_in_range f (full_moved f (unpacked (evening_of f) t) q) && rows_in_range (evening_of f) (full_moved f (unpacked (evening_of f) t) q))
        ≡ (state_in_range f (moved f t q) && totals_in_range (evening_of f) (moved f t q))
    late_same =
        ap (λ (v : StateTables). state_in_range f v && rows_in_range (evening_of f) v) (sym moved_same)
        ∙ ap₂ ◌&&◌ (else_same f (evening_of f) (moved f t q)) (sym (totals_rows (evening_of f) (moved f t q)))

-- The number of the refusal.
module _ (f : JobTables) (t : StateTables) (q : Asked) (x : TotalsIn (evening_of f) t) where
  rows_ok : rows_in_range (evening_of f) (unpacked (evening_of f) t) ≡ true
  rows_ok = sym (totals_rows (evening_of f) t) ∙ x.in_range

  number_in_lem : job_in_range f ≡ true → step_refusal f t q ≡ full_refusal f (unpacked (evening_of f) t) q
  unfolding step_refusal refusals full_refusal full_refusals first_met
  number_in_lem ok =
      rw (
        x.long,
        x.in_range,
        lent_same f (evening_of f) t,
        rows_whole (evening_of f) t,
        or_false (lent_short f t),
        else_same f (evening_of f) t,
        rows_ok,
        and_one (state_in_range f t),
        view_full (evening_of f) t,
        late_same f ok t q,
      )

  number_out : job_in_range f ≡ false → (step_refusal f t q ≡ cond (lent_short f t) 20 21) × (full_refusal f (unpacked (evening_of f) t) q ≡ cond (lent_short f t) 20 21)
  unfolding step_refusal refusals full_refusal full_refusals first_met
  number_out e = (rw e, rw (e, lent_same f (evening_of f) t, rows_whole (evening_of f) t, or_false (lent_short f t)))

  number_same : step_refusal f t q ≡ full_refusal f (unpacked (evening_of f) t) q
  number_same = split (job_in_range f) (λ e. number_in_lem e) (λ e. (number_out e).0 ∙ sym (number_out e).1)

  -- An accepted step had a job in range,
  zero_in : step_refusal f t q ≡ 0 → job_in_range f ≡ true
  zero_in e = split (job_in_range f) (λ o. o) (λ o. absurd (refused (lent_short f t) (sym (number_out o).0 ∙ e)))
    where
      refused : (c : Bool) → cond {A = ℕ} c 20 21 ≡ 0 → ⊥
      refused true e = omega arith
      refused false e = omega arith

  -- and leaves totals in range.
  zero_late : step_refusal f t q ≡ 0 → totals_in_range (evening_of f) (moved f t q) ≡ true
  unfolding step_refusal refusals first_met
  zero_late e =
      let a = none_met (lent_short f t) 20 _ (λ z. omega arith) e in
      let b = none_met (not (job_in_range f && state_in_range f t)) 21 _ (λ z. omega arith) a in
      let c = none_met (counted_twice (counted_of f)) 9 _ (λ z. omega arith) b in
      let d = none_met (totals_short (evening_of f) (state_lengths t)) 20 _ (λ z. omega arith) c in
      let r = none_met (not (totals_in_range (evening_of f) t)) 21 _ (λ z. omega arith) d in
      let late = not (state_in_range f (moved f t q) && totals_in_range (evening_of f) (moved f t q)) in
      let rules = first_met (step_rules (evening_of f) (view (evening_of f) t).done q) in
      let w : cond (eqb rules 0) (cond late 21 0) rules ≡ 0 = sym (rules_then (evening_of f) (view (evening_of f) t).done q late) ∙ r in
      and_r (state_in_range f (moved f t q)) _ (not_not _ (last rules late w))
    where
      last : (n : ℕ) (c : Bool) → cond (eqb n 0) (cond c 21 0) n ≡ 0 → c ≡ false
      last zero c e = not_met c 21 (λ z. omega arith) e
      last (suc n) c e = let z : suc n ≡ 0 = rw (ne_eqb (suc n) 0 (λ z. omega arith)) at e in absurd (omega arith)

  words_same : unpacked (evening_of f) (step_tables f t q) ≡ cond (eqb (full_refusal f (unpacked (evening_of f) t) q) 0) (full_moved f (unpacked (evening_of f) t) q) (unpacked (evening_of f) t)
  unfolding step_tables
  words_same =
      split (eqb (step_refusal f t q) 0)
      (λ e. rw (← number_same, e) (moved_same f (zero_in (eqb-true (step_refusal f t q) 0 e)) t q))
      (λ e. rw (← number_same, e))

  again_in : TotalsIn (evening_of f) (step_tables f t q)
  unfolding step_tables moved
  again_in =
      split (eqb (step_refusal f t q) 0)
      (λ e. rw e (record {
        long = whole_totals (evening_of f) (effect (evening_of f) (view (evening_of f) t) (kind_of q.kind) q.first q.second) t;
        in_range = zero_late (eqb-true (step_refusal f t q) 0 e);
      }))
      (λ e. rw e x)

-- What is unpacked is packed again into the same buffers.
module _ (j : Job) where
  back_read : (l l' : List ℤ) → pack_totals j (cell j.boxes j.grocers (recell j.boxes j.grocers (unpack_totals j l) []) (pos 0)) l' ≡ pack_totals j (unpack_totals j l) l'
  back_read l l' = pack_cong j (cell j.boxes j.grocers (recell j.boxes j.grocers (unpack_totals j l) []) (pos 0)) (unpack_totals j l) l' (λ b g h. rows_read j l b g)

  repack_same : (t : StateTables) → totals_short j (state_lengths t) ≡ false → repacked j (unpacked j t) t ≡ t
  unfolding repacked unpacked state_lengths
  repack_same t h = λ i. record {
    known = t.known;
    price_transit = t.price_transit;
    working = (back_read t.working t.working ∙ pack_unpack j t.working (totals_long j (state_lengths t) h).working) i;
    total_transit = (back_read t.total_transit t.total_transit ∙ pack_unpack j t.total_transit (totals_long j (state_lengths t) h).total_transit) i;
    statement = t.statement;
    done = t.done;
    sent = t.sent;
  }

  again : (w : ℕ → ℕ → ℤ) (l : List ℤ) → pack_totals j (unpack_totals j (pack_totals j w l)) l ≡ pack_totals j w l
  again w l = pack_cong j (unpack_totals j (pack_totals j w l)) w l (λ b g h. unpack_pack j w l b g ∙ rw h)

  repack_store : (s : State) (t : StateTables) → repacked j (unpacked j (store j s t)) t ≡ store j s t
  unfolding repacked unpacked store
  repack_store s t = λ i. record {
    known = (store j s t).known;
    price_transit = (store j s t).price_transit;
    working = (back_read (pack_totals j s.working t.working) t.working ∙ again s.working t.working) i;
    total_transit = (back_read (pack_totals j s.total_transit t.total_transit) t.total_transit ∙ again s.total_transit t.total_transit) i;
    statement = (store j s t).statement;
    done = (store j s t).done;
    sent = (store j s t).sent;
  }

module _ (f : JobTables) where
  repack_step : (t : StateTables) (q : Asked) → totals_short (evening_of f) (state_lengths t) ≡ false → repacked (evening_of f) (unpacked (evening_of f) (step_tables f t q)) t ≡ step_tables f t q
  unfolding step_tables moved
  repack_step t q h =
      split (eqb (step_refusal f t q) 0)
      (λ e. rw e (repack_store (evening_of f) (effect (evening_of f) (view (evening_of f) t) (kind_of q.kind) q.first q.second) t))
      (λ e. rw e (repack_same (evening_of f) t h))

  -- Each step on packed tables is the step on full rows.
  pub same_step : (t : StateTables) (q : Asked) → TotalsIn (evening_of f) t → SameStep f t q
  unfolding stepped full_stepped
  same_step t q x = record {
    answer = ap step_answer (number_same f t q x);
    words = words_same f t q x;
    packed = sym (repack_step t q x.long) ∙ ap (λ (v : StateTables). repacked (evening_of f) v t) (words_same f t q x);
    again = again_in f t q x;
  }

  answers_same : (t : StateTables) (qs : List Asked) → TotalsIn (evening_of f) t → answers_by (stepped f) t qs ≡ answers_by (full_stepped f) (unpacked (evening_of f) t) qs
  unfolding answers_by
  answers_same t [] x = refl
  answers_same t (q ∷ qs) x =
      ap₂ ◌∷◌ (same_step t q x).answer
      (answers_same (stepped f t q).tables qs (same_step t q x).again ∙ ap (λ (v : StateTables). answers_by (full_stepped f) v qs) (same_step t q x).words)

  tables_same : (t : StateTables) (qs : List Asked) → TotalsIn (evening_of f) t → unpacked (evening_of f) (tables_by (stepped f) t qs) ≡ tables_by (full_stepped f) (unpacked (evening_of f) t) qs
  unfolding tables_by
  tables_same t [] x = refl
  tables_same t (q ∷ qs) x =
      tables_same (stepped f t q).tables qs (same_step t q x).again ∙ ap (λ (v : StateTables). tables_by (full_stepped f) v qs) (same_step t q x).words

  -- So is every list of steps.
  pub same_requests : (t : StateTables) (qs : List Asked) → TotalsIn (evening_of f) t → SameRequests f t qs
  same_requests t qs x = record { answers = answers_same t qs x; words = tables_same t qs x }

-- A fresh state.
module _ (j : Job) (t : StateTables) where
  fresh_local : at_local j (fresh j) ≡ fresh j
  unfolding at_local fresh
  fresh_local =
      state_eq (at_local j (fresh j)) (fresh j) (λ b o. refl) (λ b o. refl) (λ b g. cond_same (has_total j b g) (pos 0)) (λ b g. cond_same (has_total j b g) (pos 0)) (λ g. refl) refl refl

  zeros_in : (l : List ℤ) → around max_amount (totals_length j) (pack_totals j (λ b g. pos 0) l) ≡ true
  zeros_in l =
      rw (pack_over j (λ b g. pos 0) l)
      (around-over max_amount (totals_length j) (λ i. get_or (total_rows j j.boxes (λ b g. pos 0)) i (pos 0)) l
      (rows_each j (λ b g. pos 0) (λ (z : ℤ). nat_abs z ≤ max_amount) (omega arith) (λ b g. omega arith)))

  fresh_in : totals_in_range j (store j (fresh j) t) ≡ true
  unfolding totals_in_range store fresh
  fresh_in = and_true (zeros_in t.working) (zeros_in t.total_transit)

pub same_fresh : (f : JobTables) (t : StateTables) → SameFresh f t
unfolding fresh_tables
same_fresh f t = record {
  words = unpack_store (evening_of f) (fresh (evening_of f)) t (fresh_local (evening_of f) t);
  inside = record { long = whole_totals (evening_of f) (fresh (evening_of f)) t; in_range = fresh_in (evening_of f) t };
}

-- The run.
module _ (f : JobTables) (t : StateTables) (cs p : List ℕ) (x : totals_short (evening_of f) (state_lengths t) ≡ false) where
  run_met : first_met (run_refusals f t)
      ≡ first_met ((lent_short f (unpacked (evening_of f) t) || rows_short (evening_of f) (state_lengths (unpacked (evening_of f) t)), 20) ∷ (not (job_in_range f), 21) ∷ (counted_twice (counted_of f), 9) ∷ [])
  unfolding run_refusals first_met
  run_met = rw (x, lent_same f (evening_of f) t, rows_whole (evening_of f) t, or_false (lent_short f t))

  run_in : first_met (run_refusals f t) ≡ 0 → job_in_range f ≡ true
  unfolding run_refusals first_met
  run_in e =
      let a = none_met (lent_short f t) 20 _ (λ z. omega arith) e in
      split (job_in_range f) (λ o. o) (λ o. absurd (refused (rw o at a)))
    where
      refused : ◌≡◌ {A = ℕ} 21 0 → ⊥
      refused z = omega arith

  run_local : job_in_range f ≡ true → at_local (evening_of f) (run_state (evening_of f) cs) ≡ run_state (evening_of f) cs
  run_local ok =
      ap (at_local (evening_of f)) (run_all f (in_handed f ok) cs)
      ∙ form_local (evening_of f) (evening_range f (in_handed f ok)) _
      ∙ sym (run_all f (in_handed f ok) cs)

  -- A run on packed tables is the run on full rows.
  pub same_run : SameRun f t cs p
  unfolding ran full_ran
  same_run = record {
    answer = rw run_met;
    words =
        split (eqb (first_met (run_refusals f t)) 0)
        (λ e. rw (← run_met, e) (unpack_store (evening_of f) (run_state (evening_of f) cs) t (run_local (run_in (eqb-true (first_met (run_refusals f t)) 0 e)))))
        (λ e. rw (← run_met, e));
    picked = rw run_met;
  }

-- ---- From full rows that may hold other words than 0 for grocers that are not local

module _ (j : Job) where
  -- A word of full rows in range.
  cell_range : (m : ℕ) (l : List ℤ) → around m (j.boxes * j.grocers) l ≡ true → (b g : ℕ) → nat_abs (cell j.boxes j.grocers l (pos 0) b g) ≤ m
  unfolding cell
  cell_range m l h b g =
      split (ltb b j.boxes && ltb g j.grocers)
      (λ e. rw e (around_at m (j.boxes * j.grocers) l (b * j.grocers + g) h
      (cell_in b j.boxes j.grocers g (ltb-true b j.boxes (and_l (ltb b j.boxes) _ e)) (ltb-true g j.grocers (and_r (ltb b j.boxes) _ e)))))
      (λ e. rw e (omega arith))

  cell_out : (l : List ℤ) (b g : ℕ) → (ltb b j.boxes && ltb g j.grocers) ≡ false → cell j.boxes j.grocers l (pos 0) b g ≡ pos 0
  unfolding cell
  cell_out l b g e = rw e

  around-each : (m : ℕ) (w v : ℕ → ℕ → ℤ) (l l' : List ℤ) →
      ((i : ℕ) → i < j.boxes * j.grocers → leb (nat_abs (w (i / j.grocers) (i % j.grocers))) m ≡ leb (nat_abs (v (i / j.grocers) (i % j.grocers))) m) →
      around m (j.boxes * j.grocers) (recell j.boxes j.grocers w l) ≡ around m (j.boxes * j.grocers) (recell j.boxes j.grocers v l')
  unfolding around recell
  around-each m w v l l' h =
      all_cong (j.boxes * j.grocers) _ _ (λ i k.
      rw (
        get_d_overwrite (j.boxes * j.grocers) (λ i. w (i / j.grocers) (i % j.grocers)) l i (pos 0) k,
        get_d_overwrite (j.boxes * j.grocers) (λ i. v (i / j.grocers) (i % j.grocers)) l' i (pos 0) k,
      ) (h i k))

  -- Full rows w, in range at grocers that are not local, are in range just where they are when packed.
  around_packed : (m : ℕ) (w v : ℕ → ℕ → ℤ) (l l' : List ℤ) → ((b g : ℕ) → has_total j b g ≡ true → v b g ≡ w b g) → ((b g : ℕ) → has_total j b g ≡ false → nat_abs (w b g) ≤ m) →
      around m (totals_length j) (pack_totals j v l') ≡ around m (j.boxes * j.grocers) (recell j.boxes j.grocers w l)
  around_packed m w v l l' same out =
      around_rows j (pack_totals j v l') m
      ∙ around-each m (unpack_totals j (pack_totals j v l')) w [] l (λ i k. word_same (i / j.grocers) (i % j.grocers))
    where
      word_same : (b g : ℕ) → leb (nat_abs (unpack_totals j (pack_totals j v l') b g)) m ≡ leb (nat_abs (w b g)) m
      word_same b g =
          rw (unpack_pack j v l' b g)
          (split (has_total j b g)
          (λ e. rw (e, same b g e))
          (λ e. rw (e, le-leb (nat_abs (w b g)) m (out b g e)) (le-leb 0 m (omega arith))))

module _ (f : JobTables) (u t : StateTables) (q : Asked) (long : rows_short (evening_of f) (state_lengths u) ≡ false) (inside : rows_in_range (evening_of f) u ≡ true) where
  working_range : (b g : ℕ) → nat_abs (cell (evening_of f).boxes (evening_of f).grocers u.working (pos 0) b g) ≤ max_amount
  unfolding rows_in_range
  working_range = cell_range (evening_of f) max_amount u.working (and_l (around max_amount ((evening_of f).boxes * (evening_of f).grocers) u.working) _ inside)

  transit_range : (b g : ℕ) → nat_abs (cell (evening_of f).boxes (evening_of f).grocers u.total_transit (pos 0) b g) ≤ max_amount
  unfolding rows_in_range
  transit_range = cell_range (evening_of f) max_amount u.total_transit (and_r (around max_amount ((evening_of f).boxes * (evening_of f).grocers) u.working) _ inside)

  full_inside : (b g : ℕ) → (ltb b (evening_of f).boxes && ltb g (evening_of f).grocers) ≡ false → (full_view (evening_of f) u).working b g ≡ pos 0
  unfolding full_view
  full_inside b g e = cell_out (evening_of f) u.working b g e

  -- What the packed tables hold.
  read_packed : view (evening_of f) (repacked (evening_of f) u t) ≡ at_local (evening_of f) (full_view (evening_of f) u)
  unfolding view repacked full_view at_local
  read_packed =
      state_eq (view (evening_of f) (repacked (evening_of f) u t)) (at_local (evening_of f) (full_view (evening_of f) u))
      (λ b o. refl) (λ b o. refl)
      (unpack_pack (evening_of f) (cell (evening_of f).boxes (evening_of f).grocers u.working (pos 0)) t.working)
      (unpack_pack (evening_of f) (cell (evening_of f).boxes (evening_of f).grocers u.total_transit (pos 0)) t.total_transit)
      (λ g. refl) refl refl

  done_packed : (view (evening_of f) (repacked (evening_of f) u t)).done ≡ (full_view (evening_of f) u).done
  unfolding view repacked full_view
  done_packed = refl

  packed_long : totals_short (evening_of f) (state_lengths (repacked (evening_of f) u t)) ≡ false
  unfolding totals_short state_lengths repacked
  packed_long =
      rw (
        le-ltb _ _ (pack_long (evening_of f) (cell (evening_of f).boxes (evening_of f).grocers u.working (pos 0)) t.working),
        le-ltb _ _ (pack_long (evening_of f) (cell (evening_of f).boxes (evening_of f).grocers u.total_transit (pos 0)) t.total_transit),
      )

  packed_in : totals_in_range (evening_of f) (repacked (evening_of f) u t) ≡ true
  unfolding totals_in_range repacked
  packed_in = and_true (one u.working t.working working_range) (one u.total_transit t.total_transit transit_range)
    where
      one : (l l' : List ℤ) → ((b g : ℕ) → nat_abs (cell (evening_of f).boxes (evening_of f).grocers l (pos 0) b g) ≤ max_amount) →
          around max_amount (totals_length (evening_of f)) (pack_totals (evening_of f) (cell (evening_of f).boxes (evening_of f).grocers l (pos 0)) l') ≡ true
      one l l' h =
          rw (pack_over (evening_of f) (cell (evening_of f).boxes (evening_of f).grocers l (pos 0)) l')
          (around-over max_amount (totals_length (evening_of f)) (λ i. get_or (total_rows (evening_of f) (evening_of f).boxes (cell (evening_of f).boxes (evening_of f).grocers l (pos 0))) i (pos 0)) l'
          (rows_each (evening_of f) (cell (evening_of f).boxes (evening_of f).grocers l (pos 0)) (λ (z : ℤ). nat_abs z ≤ max_amount) (omega arith) h))

  lent_packed : lent_short f (repacked (evening_of f) u t) ≡ lent_short f u
  unfolding lent_short state_short state_lengths repacked
  lent_packed = refl

  else_packed : (v : StateTables) → state_in_range f (repacked (evening_of f) v t) ≡ state_in_range f v
  unfolding state_in_range repacked
  else_packed v = refl

  -- What the step leaves, where the job is in range.
  module _ (ok : job_in_range f ≡ true) where
    abbrev end : State
    end = effect (evening_of f) (full_view (evening_of f) u) (kind_of q.kind) q.first q.second

    end_packed : effect (evening_of f) (view (evening_of f) (repacked (evening_of f) u t)) (kind_of q.kind) q.first q.second ≡ at_local (evening_of f) end
    end_packed =
        ap (λ (s : State). effect (evening_of f) s (kind_of q.kind) q.first q.second) read_packed
        ∙ effect_local (evening_of f) (in_range_lem f ok) (full_view (evening_of f) u) full_inside (kind_of q.kind) q.first q.second

    one_packed : (w : ℕ → ℕ → ℤ) (l l' : List ℤ) (v : ℕ → ℕ → ℤ) →
        pack_totals (evening_of f) (λ b g. cond (has_total (evening_of f) b g) (w b g) (pos 0)) (pack_totals (evening_of f) v l')
        ≡ pack_totals (evening_of f) (cell (evening_of f).boxes (evening_of f).grocers (recell (evening_of f).boxes (evening_of f).grocers w l) (pos 0)) l'
    one_packed w l l' v =
        pack_pack (evening_of f) (λ b g. cond (has_total (evening_of f) b g) (w b g) (pos 0)) v l'
        ∙ pack_cong (evening_of f) (λ b g. cond (has_total (evening_of f) b g) (w b g) (pos 0)) (cell (evening_of f).boxes (evening_of f).grocers (recell (evening_of f).boxes (evening_of f).grocers w l) (pos 0)) l'
        (λ b g h. rw (h, cell_recell (evening_of f).boxes (evening_of f).grocers w l (pos 0) b g, total_inside (evening_of f) b g h))

    store_packed : store (evening_of f) (at_local (evening_of f) end) (repacked (evening_of f) u t) ≡ repacked (evening_of f) (full_store (evening_of f) end u) t
    unfolding store at_local repacked full_store
    store_packed = λ i. record {
      known = (store (evening_of f) end u).known;
      price_transit = (store (evening_of f) end u).price_transit;
      working = one_packed end.working u.working t.working (cell (evening_of f).boxes (evening_of f).grocers u.working (pos 0)) i;
      total_transit = one_packed end.total_transit u.total_transit t.total_transit (cell (evening_of f).boxes (evening_of f).grocers u.total_transit (pos 0)) i;
      statement = (store (evening_of f) end u).statement;
      done = (store (evening_of f) end u).done;
      sent = (store (evening_of f) end u).sent;
    }

    moved_packed : moved f (repacked (evening_of f) u t) q ≡ repacked (evening_of f) (full_moved f u q) t
    unfolding moved full_moved
    moved_packed = ap (λ (s : State). store (evening_of f) s (repacked (evening_of f) u t)) end_packed ∙ store_packed

    -- Other words of full rows stay.
    working_end : (b g : ℕ) → has_total (evening_of f) b g ≡ false → end.working b g ≡ (full_view (evening_of f) u).working b g
    working_end b g h = working_stays (evening_of f) (in_range_lem f ok) (full_view (evening_of f) u) full_inside (kind_of q.kind) q.first q.second b g h

    transit_end : (b g : ℕ) → has_total (evening_of f) b g ≡ false → end.total_transit b g ≡ (full_view (evening_of f) u).total_transit b g
    transit_end b g h = transit_stays (evening_of f) (in_range_lem f ok) (full_view (evening_of f) u) full_inside (kind_of q.kind) q.first q.second b g h

    range_packed : totals_in_range (evening_of f) (repacked (evening_of f) (full_moved f u q) t) ≡ rows_in_range (evening_of f) (full_moved f u q)
    unfolding totals_in_range rows_in_range repacked full_moved full_store full_view
    range_packed =
        ap₂ ◌&&◌
        (around_packed (evening_of f) max_amount end.working (cell (evening_of f).boxes (evening_of f).grocers (recell (evening_of f).boxes (evening_of f).grocers end.working u.working) (pos 0)) u.working t.working
        (λ b g h. rw (cell_recell (evening_of f).boxes (evening_of f).grocers end.working u.working (pos 0) b g, total_inside (evening_of f) b g h))
        (λ b g h. rw (working_end b g h) (working_range b g)))
        (around_packed (evening_of f) max_amount end.total_transit (cell (evening_of f).boxes (evening_of f).grocers (recell (evening_of f).boxes (evening_of f).grocers end.total_transit u.total_transit) (pos 0))
        u.total_transit t.total_transit
        (λ b g h. rw (cell_recell (evening_of f).boxes (evening_of f).grocers end.total_transit u.total_transit (pos 0) b g, total_inside (evening_of f) b g h))
        (λ b g h. rw (transit_end b g h) (transit_range b g)))

    late_packed : (state_in_range f (moved f (repacked (evening_of f) u t) q) && totals_in_range (evening_of f) (moved f (repacked (evening_of f) u t) q))
        ≡ (state_in_range f (full_moved f u q) && rows_in_range (evening_of f) (full_moved f u q))
    late_packed =
        ap (λ (v : StateTables). state_in_range f v && totals_in_range (evening_of f) v) moved_packed
        ∙ ap₂ ◌&&◌ (else_packed (full_moved f u q)) range_packed

    number_packed : step_refusal f (repacked (evening_of f) u t) q ≡ full_refusal f u q
    unfolding step_refusal refusals full_refusal full_refusals first_met
    number_packed =
        rw (
          packed_long,
          packed_in,
          lent_packed,
          else_packed u,
          done_packed,
          late_packed,
          long,
          or_false (lent_short f u),
          inside,
          and_one (state_in_range f u),
        )

    -- Words that the step leaves at grocers that are not local.
    left_working : (b g : ℕ) → has_total (evening_of f) b g ≡ false → (full_view (evening_of f) (full_moved f u q)).working b g ≡ (full_view (evening_of f) u).working b g
    unfolding full_view full_moved full_store
    left_working b g h =
        cell_recell (evening_of f).boxes (evening_of f).grocers end.working u.working (pos 0) b g
        ∙ split (ltb b (evening_of f).boxes && ltb g (evening_of f).grocers)
        (λ e. rw e (working_end b g h))
        (λ e. rw e (sym (cell_out (evening_of f) u.working b g e)))

    left_transit : (b g : ℕ) → has_total (evening_of f) b g ≡ false → (full_view (evening_of f) (full_moved f u q)).total_transit b g ≡ (full_view (evening_of f) u).total_transit b g
    unfolding full_view full_moved full_store
    left_transit b g h =
        cell_recell (evening_of f).boxes (evening_of f).grocers end.total_transit u.total_transit (pos 0) b g
        ∙ split (ltb b (evening_of f).boxes && ltb g (evening_of f).grocers)
        (λ e. rw e (transit_end b g h))
        (λ e. rw e (sym (cell_out (evening_of f) u.total_transit b g e)))

  -- Where the job is not in range both are refused.
  number_off : job_in_range f ≡ false → (step_refusal f (repacked (evening_of f) u t) q ≡ cond (lent_short f u) 20 21) × (full_refusal f u q ≡ cond (lent_short f u) 20 21)
  unfolding step_refusal refusals full_refusal full_refusals first_met
  number_off e = (rw (e, lent_packed), rw (e, long, or_false (lent_short f u)))

  number_all : step_refusal f (repacked (evening_of f) u t) q ≡ full_refusal f u q
  number_all = split (job_in_range f) (λ e. number_packed e) (λ e. (number_off e).0 ∙ sym (number_off e).1)

  full_zero : full_refusal f u q ≡ 0 → job_in_range f ≡ true
  full_zero e = split (job_in_range f) (λ o. o) (λ o. absurd (refused (lent_short f u) (sym (number_off o).1 ∙ e)))
    where
      refused : (c : Bool) → cond {A = ℕ} c 20 21 ≡ 0 → ⊥
      refused true e = omega arith
      refused false e = omega arith

  -- Full rows, packed, give the same.
  pub from_rows : FromRows f u t q
  unfolding stepped full_stepped step_tables
  from_rows = record {
    answer = ap step_answer number_all;
    words = rw number_all (split (eqb (full_refusal f u q) 0)
        (λ e. rw e (moved_packed (full_zero (eqb-true (full_refusal f u q) 0 e))))
        (λ e. rw e));
    working = λ b g h. split (eqb (full_refusal f u q) 0)
        (λ e. rw e (left_working (full_zero (eqb-true (full_refusal f u q) 0 e)) b g h))
        (λ e. rw e);
    total_transit = λ b g h. split (eqb (full_refusal f u q) 0)
        (λ e. rw e (left_transit (full_zero (eqb-true (full_refusal f u q) 0 e)) b g h))
        (λ e. rw e);
  }
