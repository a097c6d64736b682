-- A request in a list that begins fresh: its answer and the tables it leaves, in terms of the state. Assumes nothing.
use mathlib.Core.Path.{◌≡◌, refl, sym, ap, ◌∙◌}
use mathlib.Core.Bool.{Bool, true, false, cond, ◌&&◌, not}
use mathlib.Core.List.{List, [], ◌∷◌}
use Prim.Native.Nat.{ℕ, zero, suc, ◌*◌, ◌/◌, ◌%◌, ◌<◌, ◌≤◌}
use native.Mathlib.Nat.{le_refl}
use native.Mathlib.Omega.{arith}
use lib.Dec.{eqb, leb}
use lib.ListN.{get_or}
use lib.Ieee.{Float}
use borrow.Author.Tests.{eqb-true, le-ltb, leb-true, not-false}
use Rattle.laws.specs.Tables.{overwrite, recell}
use Rattle.laws.specs.Limits.{max_boxes, max_grocers, max_offers, max_tallies}
use Rattle.laws.specs.Checks.{first_met}
use Rattle.laws.proofs.Bools.{or_off, split, and_true, and_l, and_r}
use Rattle.laws.proofs.Below.{all_of_lem, any_none}
use Rattle.laws.proofs.Checks.{each_of, any_each}
use Rattle.laws.proofs.Tables.{get_d_overwrite, long_overwrite, word_in_lem}
use Rattle.model.specs.Tables.{marks_of}
use Rattle.model.specs.Ranges.{under}
use Rattle.model.specs.Step.{Asked, is_kind, step_answer}
use Rattle.forecast_rules.specs.Doubles.{zero+, is_value, is_sum}
use Rattle.forecast_rules.specs.Lines.{Forecast, value_in, offer_value, line_outside, values_differ, bad_line}
use Rattle.forecast_rules.specs.Steps.{kind_of, State, permitted, effect}
use Rattle.forecast_rules.specs.Boxes.{Sound}
use Rattle.forecast_rules.specs.Tables.{ForecastTables, forecast_of, StateTables, view, store, to_marks, ForecastLengths, StateLengths, forecast_lengths, state_lengths, forecast_short, state_short, lent_short}
use Rattle.forecast_rules.specs.Ranges.{each, forecast_in_range, state_in_range, Forecasts}
use Rattle.forecast_rules.specs.Step.{step_rules, moved, refusals, step_refusal, step_tables, stepped}
use Rattle.forecast_rules.specs.Requests.{Request, lent_forecast, lent_state, lends_short, answer_to, serve}
use Rattle.forecast_rules.specs.Evening.{refusal_of}
use Rattle.model.proofs.Range.{InRange}
use Rattle.model.proofs.Step.{under_at, up_over, marks_bits}
use Rattle.forecast_rules.proofs.Machine.{permit}
use Rattle.forecast_rules.proofs.Reach.{sound_effect}
use Rattle.forecast_rules.proofs.Finish.{sent_most}
use Rattle.forecast_rules.proofs.Ranges.{Good}
use Rattle.forecast_rules.proofs.InRange.{Fits, closed_fits}
use Rattle.forecast_rules.proofs.Tables.{view_store, held_form}
use Rattle.forecast_rules.proofs.Lent.{forecast_long, state_long, lent_forecast_short, lent_forecast_lem, lent_forecast_range, lent_state_short, lent_view, lent_store, lent_state_range, lent_back, store-store}
use Rattle.forecast_rules.proofs.Refusal.{rules_zero, rules_then}

-- The sizes and words of tables in range, one by one.
pub record WordsIn (f : ForecastTables) : Type 0 where
  pub boxes≤ : f.boxes ≤ 16
  pub grocers≤ : f.grocers ≤ 255
  pub offers≤ : f.offers ≤ 500
  pub lines≤ : f.lines ≤ 1000
  pub offer_owner : under f.boxes f.offers f.offer_owner ≡ true
  pub grocer_owner : under f.boxes f.grocers f.grocer_owner ≡ true
  pub line_grocer : under f.grocers f.lines f.line_grocer ≡ true
  pub line_offer : under f.offers f.lines f.line_offer ≡ true
  pub line_box : under f.boxes f.lines f.line_box ≡ true

pub words_in : (f : ForecastTables) → forecast_in_range f ≡ true → WordsIn f
unfolding forecast_in_range
words_in f ok =
    let e = each_of (
    (leb 1 f.boxes && leb f.boxes max_boxes)
    ∷ (leb 1 f.grocers && leb f.grocers max_grocers)
    ∷ (leb 1 f.offers && leb f.offers max_offers)
    ∷ leb f.lines max_tallies
    ∷ under f.boxes f.offers f.offer_owner
    ∷ under f.boxes f.grocers f.grocer_owner
    ∷ under f.grocers f.lines f.line_grocer
    ∷ under f.offers f.lines f.line_offer
    ∷ under f.boxes f.lines f.line_box
    ∷ []) ok in
    record {
      boxes≤ = leb-true f.boxes max_boxes (and_r (leb 1 f.boxes) _ e.0);
      grocers≤ = leb-true f.grocers max_grocers (and_r (leb 1 f.grocers) _ e.1.0);
      offers≤ = leb-true f.offers max_offers (and_r (leb 1 f.offers) _ e.1.1.0);
      lines≤ = leb-true f.lines max_tallies e.1.1.1.0;
      offer_owner = e.1.1.1.1.0;
      grocer_owner = e.1.1.1.1.1.0;
      line_grocer = e.1.1.1.1.1.1.0;
      line_offer = e.1.1.1.1.1.1.1.0;
      line_box = e.1.1.1.1.1.1.1.1.0;
    }

-- A forecast whose tables are in range is one that the theory takes.
module _ (f : ForecastTables) (z : Forecasts f) where
  words : WordsIn f
  words = words_in f z.in_range

  pub range : InRange (forecast_of f).job
  unfolding forecast_of
  range = record {
    owner< = λ o l. rw (word_in_lem f.offers f.offer_owner 0 o l) (under_at f.boxes f.offers f.offer_owner o words.offer_owner l);
    grocerOwner< = λ g l. rw (word_in_lem f.grocers f.grocer_owner 0 g l) (under_at f.boxes f.grocers f.grocer_owner g words.grocer_owner l);
    grocer< = λ i l. rw (word_in_lem f.lines f.line_grocer 0 i l) (under_at f.grocers f.lines f.line_grocer i words.line_grocer l);
    offer< = λ i l. rw (word_in_lem f.lines f.line_offer 0 i l) (under_at f.offers f.lines f.line_offer i words.line_offer l);
    no_price = λ o l. refl;
    boxes≤ = words.boxes≤;
  }

  lines_ok : line_outside (forecast_of f) ≡ false
  unfolding bad_line
  lines_ok = (or_off (line_outside (forecast_of f)) (values_differ (forecast_of f)) z.lines).0

  both_ok : (i : ℕ) → i < f.lines → (is_value ((forecast_of f).rate i) && is_value ((forecast_of f).value i)) ≡ true
  unfolding line_outside forecast_of
  both_ok i l =
      not-false (is_value ((forecast_of f).rate i) && is_value ((forecast_of f).value i))
      (any_none f.lines (λ i. not (is_value ((forecast_of f).rate i) && is_value ((forecast_of f).value i))) i l lines_ok)

  pub good : Good (forecast_of f)
  unfolding forecast_of
  good = record {
    few = words.lines≤;
    rates = λ i l. and_l (is_value ((forecast_of f).rate i)) (is_value ((forecast_of f).value i)) (both_ok i l);
    values = λ i l. and_r (is_value ((forecast_of f).rate i)) (is_value ((forecast_of f).value i)) (both_ok i l);
  }

  -- An offer outside the table has no lines.
  none_in : (n o : ℕ) → n ≤ f.lines → f.offers ≤ o → value_in (forecast_of f) n o ≡ zero+
  unfolding value_in forecast_of
  none_in zero o l h = refl
  none_in (suc n) o l h =
      split (eqb ((forecast_of f).job.tally_offer n) o)
      (λ e. absurd (let p : (forecast_of f).job.tally_offer n < f.offers = range.offer< n (omega arith) in
      let q : (forecast_of f).job.tally_offer n ≡ o = eqb-true ((forecast_of f).job.tally_offer n) o e in omega arith))
      (λ e. rw e (none_in n o (omega arith) h))

  no_value_lem : (o : ℕ) → f.offers ≤ o → offer_value (forecast_of f) o ≡ zero+
  unfolding offer_value forecast_of
  no_value_lem o h = none_in f.lines o (le_refl f.lines) h

  -- A state that a list leaves is in range, and what is written of it is read again.
  pub state_fits : (s : State) → Sound (forecast_of f) s → Fits s
  state_fits s o = rw o.form (closed_fits (forecast_of f) good s.done)

  few_sent : (s : State) → Sound (forecast_of f) s → s.sent ≤ 1_000_000
  unfolding forecast_of
  few_sent s o = rw o.form (omega (arith, sent_most (forecast_of f) range s.done, words.offers≤, words.grocers≤))

  pub view_is : (t : StateTables) (s : State) → Sound (forecast_of f) s → view (forecast_of f) (store (forecast_of f) s t) ≡ s
  unfolding forecast_of
  view_is t s o = view_store (forecast_of f) s t ∙ held_form (forecast_of f) range no_value_lem s o

pub each_over : (p : Float → Bool) (n : ℕ) (g : ℕ → Float) (l : List Float) → ((i : ℕ) → p (g i) ≡ true) → each p n (overwrite n g l) ≡ true
unfolding each
each_over p n g l h = all_of_lem n (λ i. p (get_or (overwrite n g l) i zero+)) (λ i k. rw (get_d_overwrite n g l i zero+ k) (h i))

-- What a state within its ranges is written to is in range,
pub ok_store : (f : ForecastTables) (s : State) (t : StateTables) → Fits s → s.sent ≤ 1_000_000 → state_in_range f (store (forecast_of f) s t) ≡ true
unfolding state_in_range store recell to_marks forecast_of
ok_store f s t w e =
    and_true (and_true (and_true (and_true (and_true (and_true (and_true
    (each_over is_value (f.boxes * f.offers) (λ i. s.known (i / f.offers) (i % f.offers)) t.known (λ i. w.known (i / f.offers) (i % f.offers)))
    (each_over is_value (f.boxes * f.offers) (λ i. s.value_transit (i / f.offers) (i % f.offers)) t.value_transit (λ i. w.value_transit (i / f.offers) (i % f.offers))))
    (each_over is_sum (f.boxes * f.grocers) (λ i. s.part (i / f.grocers) (i % f.grocers)) t.part (λ i. w.part (i / f.grocers) (i % f.grocers))))
    (each_over is_sum (f.boxes * f.grocers) (λ i. s.part_transit (i / f.grocers) (i % f.grocers)) t.part_transit (λ i. w.part_transit (i / f.grocers) (i % f.grocers))))
    (each_over is_sum (f.boxes * f.grocers) (λ i. s.held (i / f.grocers) (i % f.grocers)) t.held (λ i. w.held (i / f.grocers) (i % f.grocers))))
    (each_over is_sum f.grocers s.forecast t.forecast w.forecast))
    (marks_bits f.boxes _ t.done))
    (up_over 1_000_000 1 (λ i. s.sent) t.sent (λ i. e))

-- and whole.
whole-store : (f : ForecastTables) (s : State) (t : StateTables) → state_short f (state_lengths (store (forecast_of f) s t)) ≡ false
unfolding state_short state_lengths store recell to_marks marks_of forecast_of
whole-store f s t =
    any_each (_ ∷ _ ∷ _ ∷ _ ∷ _ ∷ _ ∷ _ ∷ _ ∷ []) (
      le-ltb _ _ (long_overwrite (f.boxes * f.offers) _ t.known),
      (
        le-ltb _ _ (long_overwrite (f.boxes * f.offers) _ t.value_transit),
        (
          le-ltb _ _ (long_overwrite (f.boxes * f.grocers) _ t.part),
          (
            le-ltb _ _ (long_overwrite (f.boxes * f.grocers) _ t.part_transit),
            (
              le-ltb _ _ (long_overwrite (f.boxes * f.grocers) _ t.held),
              (
                le-ltb _ _ (long_overwrite f.grocers _ t.forecast),
                (
                  le-ltb _ _ (long_overwrite (6 * f.boxes * f.boxes) _ t.done),
                  (le-ltb _ _ (long_overwrite 1 _ t.sent), tt),
                ),
              ),
            ),
          ),
        ),
      ),
    )

-- The step that is asked for is one, and it is permitted.
unfoldable pub allowed : Forecast → State → Asked → Bool
allowed f s q = is_kind q.kind && permitted f s.done (kind_of q.kind) q.first q.second

-- A step on tables u that hold the state s of the forecast j, where nothing is short and all is in range.
module _ (f : ForecastTables) (u : StateTables) (j : Forecast) (s : State) (q : Asked)
    (is : forecast_of f ≡ j) (holds : view j u ≡ s) (short : lent_short f u ≡ false) (inside : (forecast_in_range f && state_in_range f u) ≡ true) (fine : bad_line (forecast_of f) ≡ false)
    (late : allowed j s q ≡ true → state_in_range f (store j (effect j s (kind_of q.kind) q.first q.second) u) ≡ true) where
  moved_is : moved f u q ≡ store j (effect j s (kind_of q.kind) q.first q.second) u
  unfolding moved
  moved_is = rw (is, holds)

  zero_is : eqb (first_met (step_rules j s.done q)) 0 ≡ allowed j s q
  unfolding allowed
  zero_is = rules_zero j s.done q

  pub answer_is : step_refusal f u q ≡ first_met (step_rules j s.done q)
  unfolding step_refusal refusals first_met
  answer_is =
      rw (short, inside, fine, is, holds, moved_is)
      (rules_then j s.done q (not (state_in_range f (store j (effect j s (kind_of q.kind) q.first q.second) u)))
      ∙ split (allowed j s q)
      (λ e. rw (zero_is, e, late e) (sym (eqb-true (first_met (step_rules j s.done q)) 0 (zero_is ∙ e))))
      (λ e. rw (zero_is, e)))

  pub after_is : step_tables f u q ≡ cond (allowed j s q) (store j (effect j s (kind_of q.kind) q.first q.second) u) u
  unfolding step_tables
  after_is = rw (answer_is, zero_is, moved_is)

-- A forecast of which an evening is asked, and the buffers of its state.
module _ (f : ForecastTables) (z : Forecasts f) (t : StateTables) where
  sound_allowed : (s : State) (q : Asked) → Sound (forecast_of f) s → allowed (forecast_of f) s q ≡ true →
      Sound (forecast_of f) (effect (forecast_of f) s (kind_of q.kind) q.first q.second)
  unfolding allowed
  sound_allowed s q o e =
      sound_effect (forecast_of f) (range f z) s (kind_of q.kind) q.first q.second o
      (permit (forecast_of f) s.done (kind_of q.kind) q.first q.second (and_r (is_kind q.kind) _ e))

  same_sizes : (n m : ForecastLengths) → forecast_short (lent_forecast f n) m ≡ forecast_short f m
  unfolding forecast_short lent_forecast
  same_sizes n m = refl

  same_sizes' : (n : ForecastLengths) (m : StateLengths) → state_short (lent_forecast f n) m ≡ state_short f m
  unfolding state_short lent_forecast
  same_sizes' n m = refl

  -- The lent tables are short just where the request lends short.
  short_is : (s : State) (r : Request) → lent_short (lent_forecast f r.forecast) (lent_state (store (forecast_of f) s t) r.state) ≡ lends_short f r
  unfolding lent_short lends_short
  short_is s r =
      rw (
        same_sizes r.forecast (forecast_lengths (lent_forecast f r.forecast)),
        same_sizes' r.forecast (state_lengths (lent_state (store (forecast_of f) s t) r.state)),
        lent_forecast_short f r.forecast z.whole,
        lent_state_short f (store (forecast_of f) s t) r.state (whole-store f s t),
      )

  -- A request that lends short.
  module _ (s : State) (r : Request) (y : lends_short f r ≡ true) where
    short_answer : step_refusal (lent_forecast f r.forecast) (lent_state (store (forecast_of f) s t) r.state) r.asked ≡ 20
    unfolding step_refusal refusals first_met
    short_answer = rw (short_is s r, y)

    short_after : step_tables (lent_forecast f r.forecast) (lent_state (store (forecast_of f) s t) r.state) r.asked ≡ lent_state (store (forecast_of f) s t) r.state
    unfolding step_tables
    short_after = rw short_answer

  -- A request that lends enough.
  module _ (s : State) (o : Sound (forecast_of f) s) (r : Request) (y : lends_short f r ≡ false) where
    no_short : lent_short (lent_forecast f r.forecast) (lent_state (store (forecast_of f) s t) r.state) ≡ false
    no_short = short_is s r ∙ y

    forecast_enough : forecast_short f r.forecast ≡ false
    unfolding lends_short
    forecast_enough = (or_off (forecast_short f r.forecast) (state_short f r.state) y).0

    state_enough : state_short f r.state ≡ false
    unfolding lends_short
    state_enough = (or_off (forecast_short f r.forecast) (state_short f r.state) y).1

    forecast_is : forecast_of (lent_forecast f r.forecast) ≡ forecast_of f
    forecast_is = lent_forecast_lem f r.forecast (forecast_long f r.forecast forecast_enough)

    range_is : forecast_in_range (lent_forecast f r.forecast) ≡ true
    range_is = lent_forecast_range f r.forecast (forecast_long f r.forecast forecast_enough) ∙ z.in_range

    fine_is : bad_line (forecast_of (lent_forecast f r.forecast)) ≡ false
    fine_is = ap bad_line forecast_is ∙ z.lines

    lent_is : view (forecast_of f) (lent_state (store (forecast_of f) s t) r.state) ≡ s
    unfolding forecast_of
    lent_is = lent_view (forecast_of f) (store (forecast_of f) s t) r.state (state_long f r.state state_enough) ∙ view_is f z t s o

    states_is : state_in_range (lent_forecast f r.forecast) (lent_state (store (forecast_of f) s t) r.state) ≡ true
    states_is =
        lent_state_range f r.forecast (store (forecast_of f) s t) r.state (state_long f r.state state_enough)
        ∙ ok_store f s t (state_fits f z s o) (few_sent f z s o)

    same_range : (u : StateTables) → state_in_range (lent_forecast f r.forecast) u ≡ state_in_range f u
    unfolding state_in_range lent_forecast
    same_range u = refl

    late_is : allowed (forecast_of f) s r.asked ≡ true →
        state_in_range (lent_forecast f r.forecast) (store (forecast_of f) (effect (forecast_of f) s (kind_of r.asked.kind) r.asked.first r.asked.second) (lent_state (store (forecast_of f) s t) r.state)) ≡ true
    late_is e = same_range _ ∙ ok_store f _ _ (state_fits f z _ (sound_allowed s r.asked o e)) (few_sent f z _ (sound_allowed s r.asked o e))

    whole_answer : step_refusal (lent_forecast f r.forecast) (lent_state (store (forecast_of f) s t) r.state) r.asked ≡ first_met (step_rules (forecast_of f) s.done r.asked)
    whole_answer =
        answer_is (lent_forecast f r.forecast) (lent_state (store (forecast_of f) s t) r.state) (forecast_of f) s r.asked forecast_is lent_is no_short (and_true range_is states_is) fine_is late_is

    whole-after : step_tables (lent_forecast f r.forecast) (lent_state (store (forecast_of f) s t) r.state) r.asked
        ≡ cond (allowed (forecast_of f) s r.asked) (store (forecast_of f) (effect (forecast_of f) s (kind_of r.asked.kind) r.asked.first r.asked.second) (lent_state (store (forecast_of f) s t) r.state))
        (lent_state (store (forecast_of f) s t) r.state)
    whole-after =
        after_is (lent_forecast f r.forecast) (lent_state (store (forecast_of f) s t) r.state) (forecast_of f) s r.asked forecast_is lent_is no_short (and_true range_is states_is) fine_is late_is

  -- What a request does to the state.
  unfoldable pub next : State → Request → State
  next s r = cond (not (lends_short f r) && allowed (forecast_of f) s r.asked) (effect (forecast_of f) s (kind_of r.asked.kind) r.asked.first r.asked.second) s

  pub one_answer : (s : State) → Sound (forecast_of f) s → (r : Request) → answer_to f (store (forecast_of f) s t) r ≡ step_answer (refusal_of f s.done r)
  unfolding answer_to stepped refusal_of
  one_answer s o r =
      ap step_answer (split (lends_short f r)
      (λ e. short_answer s r e ∙ rw e)
      (λ e. whole_answer s o r e ∙ rw e))

  pub one_serve : (s : State) → Sound (forecast_of f) s → (r : Request) → serve f (store (forecast_of f) s t) r ≡ store (forecast_of f) (next s r) t
  unfolding serve stepped next forecast_of
  one_serve s o r =
      split (lends_short f r)
      (λ e. rw (short_after s r e, e) (lent_back (store (forecast_of f) s t) r.state))
      (λ e. rw (whole-after s o r e, e) (split (allowed (forecast_of f) s r.asked)
      (λ a. rw a (lent_store (forecast_of f) (store (forecast_of f) s t) r.state (state_long f r.state (state_enough s o r e)) _ ∙ store-store (forecast_of f) _ s t))
      (λ a. rw a (lent_back (store (forecast_of f) s t) r.state))))

  pub one_sound : (s : State) → Sound (forecast_of f) s → (r : Request) → Sound (forecast_of f) (next s r)
  unfolding next
  one_sound s o r =
      split (not (lends_short f r) && allowed (forecast_of f) s r.asked)
      (λ e. rw e (sound_allowed s r.asked o (and_r (not (lends_short f r)) _ e)))
      (λ e. rw e o)

  -- The tables of a state that a list leaves are in range.
  pub store_in : (s : State) → Sound (forecast_of f) s → state_in_range f (store (forecast_of f) s t) ≡ true
  store_in s o = ok_store f s t (state_fits f z s o) (few_sent f z s o)
