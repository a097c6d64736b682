-- Parts of tables that are lent: long enough, they hold what the whole holds, and what is written into them is written into the whole. Assumes nothing.
use mathlib.Core.Path.{◌≡◌}
use mathlib.Core.Bool.{Bool, false, cond}
use mathlib.Core.List.{List, [], ◌∷◌}
use Prim.Native.Nat.{ℕ, ◌*◌, ◌/◌, ◌%◌, ◌≤◌}
use native.Mathlib.Omega.{arith}
use lib.ListN.{get_or, take, take-append-drop}
use lib.Seq.{get_or-take}
use lib.Dec.{ltb}
use lib.IntN.{pos}
use lib.Ieee.{Float}
use borrow.Author.Tests.{ltb-false}
use Rattle.laws.specs.Tables.{recell}
use Rattle.laws.proofs.Below.{all_cong}
use Rattle.laws.proofs.Checks.{none_of}
use Rattle.laws.proofs.Tables.{over-over, word_take, cell_take, overwrite_take, long_take}
use Rattle.model.specs.Tables.{marks_of}
use Rattle.forecast_rules.specs.Doubles.{zero+, is_value, is_sum}
use Rattle.forecast_rules.specs.Lines.{Forecast}
use Rattle.forecast_rules.specs.Steps.{kind_of, kind_number, State}
use Rattle.forecast_rules.specs.Tables.{ForecastTables, forecast_of, StateTables, from_marks, to_marks, view, store, ForecastLengths, StateLengths, forecast_lengths, state_lengths, forecast_short, state_short}
use Rattle.forecast_rules.specs.Ranges.{each, forecast_in_range, state_in_range}
use Rattle.forecast_rules.specs.Requests.{lent_forecast, lent_state, returned}
use Rattle.model.proofs.Step.{up_take, under-take}
use Rattle.model.proofs.Lent.{marks_take}
use Rattle.forecast_rules.proofs.Core.{state_eq}
use Rattle.model.specs.Steps as Money

-- The words of a part that is long enough pass where those of the whole do.
each_take : (p : Float → Bool) (n k : ℕ) (l : List Float) → n ≤ k → each p n (take k l) ≡ each p n l
unfolding each
each_take p n k l h = all_cong n (λ i. p (get_or (take k l) i zero+)) (λ i. p (get_or l i zero+)) (λ i q. rw (get_or-take k l i zero+ (omega arith)))

-- Lent lengths that are long enough, one by one.
pub record ForecastLong (m o l : ℕ) (n : ForecastLengths) : Type 0 where
  pub offer_owner : o ≤ n.offer_owner
  pub grocer_owner : m ≤ n.grocer_owner
  pub line_grocer : l ≤ n.line_grocer
  pub line_offer : l ≤ n.line_offer
  pub line_box : l ≤ n.line_box
  pub line_rate : l ≤ n.line_rate
  pub line_value : l ≤ n.line_value

pub forecast_long : (f : ForecastTables) (n : ForecastLengths) → forecast_short f n ≡ false → ForecastLong f.grocers f.offers f.lines n
unfolding forecast_short
forecast_long f n h =
    let e = none_of (
    ltb n.offer_owner f.offers
    ∷ ltb n.grocer_owner f.grocers
    ∷ ltb n.line_grocer f.lines
    ∷ ltb n.line_offer f.lines
    ∷ ltb n.line_box f.lines
    ∷ ltb n.line_rate f.lines
    ∷ ltb n.line_value f.lines
    ∷ []) h in
    record {
      offer_owner = ltb-false _ _ e.0;
      grocer_owner = ltb-false _ _ e.1.0;
      line_grocer = ltb-false _ _ e.1.1.0;
      line_offer = ltb-false _ _ e.1.1.1.0;
      line_box = ltb-false _ _ e.1.1.1.1.0;
      line_rate = ltb-false _ _ e.1.1.1.1.1.0;
      line_value = ltb-false _ _ e.1.1.1.1.1.1.0;
    }

pub record StateLong (k m o : ℕ) (n : StateLengths) : Type 0 where
  pub known : k * o ≤ n.known
  pub value_transit : k * o ≤ n.value_transit
  pub part : k * m ≤ n.part
  pub part_transit : k * m ≤ n.part_transit
  pub held : k * m ≤ n.held
  pub forecast : m ≤ n.forecast
  pub done : 6 * k * k ≤ n.done
  pub sent : 1 ≤ n.sent

pub state_long : (f : ForecastTables) (n : StateLengths) → state_short f n ≡ false → StateLong f.boxes f.grocers f.offers n
unfolding state_short
state_long f n h =
    let e = none_of (
    ltb n.known (f.boxes * f.offers)
    ∷ ltb n.value_transit (f.boxes * f.offers)
    ∷ ltb n.part (f.boxes * f.grocers)
    ∷ ltb n.part_transit (f.boxes * f.grocers)
    ∷ ltb n.held (f.boxes * f.grocers)
    ∷ ltb n.forecast f.grocers
    ∷ ltb n.done (6 * f.boxes * f.boxes)
    ∷ ltb n.sent 1
    ∷ []) h in
    record {
      known = ltb-false _ _ e.0;
      value_transit = ltb-false _ _ e.1.0;
      part = ltb-false _ _ e.1.1.0;
      part_transit = ltb-false _ _ e.1.1.1.0;
      held = ltb-false _ _ e.1.1.1.1.0;
      forecast = ltb-false _ _ e.1.1.1.1.1.0;
      done = ltb-false _ _ e.1.1.1.1.1.1.0;
      sent = ltb-false _ _ e.1.1.1.1.1.1.1.0;
    }

-- Lent tables are short just where the lent lengths are.
pub lent_forecast_short : (f : ForecastTables) (n : ForecastLengths) → forecast_short f (forecast_lengths f) ≡ false →
    forecast_short f (forecast_lengths (lent_forecast f n)) ≡ forecast_short f n
unfolding forecast_short forecast_lengths lent_forecast
lent_forecast_short f n h =
    let l = forecast_long f (forecast_lengths f) h in
    rw (
      long_take f.offers n.offer_owner f.offer_owner l.offer_owner,
      long_take f.grocers n.grocer_owner f.grocer_owner l.grocer_owner,
      long_take f.lines n.line_grocer f.line_grocer l.line_grocer,
      long_take f.lines n.line_offer f.line_offer l.line_offer,
      long_take f.lines n.line_box f.line_box l.line_box,
      long_take f.lines n.line_rate f.line_rate l.line_rate,
      long_take f.lines n.line_value f.line_value l.line_value,
    )

pub lent_state_short : (f : ForecastTables) (t : StateTables) (n : StateLengths) → state_short f (state_lengths t) ≡ false →
    state_short f (state_lengths (lent_state t n)) ≡ state_short f n
unfolding state_short state_lengths lent_state
lent_state_short f t n h =
    let l = state_long f (state_lengths t) h in
    rw (
      long_take (f.boxes * f.offers) n.known t.known l.known,
      long_take (f.boxes * f.offers) n.value_transit t.value_transit l.value_transit,
      long_take (f.boxes * f.grocers) n.part t.part l.part,
      long_take (f.boxes * f.grocers) n.part_transit t.part_transit l.part_transit,
      long_take (f.boxes * f.grocers) n.held t.held l.held,
      long_take f.grocers n.forecast t.forecast l.forecast,
      long_take (6 * f.boxes * f.boxes) n.done t.done l.done,
      long_take 1 n.sent t.sent l.sent,
    )

-- What lent tables of a forecast hold, where they are long enough.
module _ (f : ForecastTables) (n : ForecastLengths) (l : ForecastLong f.grocers f.offers f.lines n) where
  pub lent_forecast_lem : forecast_of (lent_forecast f n) ≡ forecast_of f
  unfolding forecast_of lent_forecast
  lent_forecast_lem = λ i. record {
    job = record {
      boxes = f.boxes;
      grocers = f.grocers;
      offers = f.offers;
      tallies = f.lines;
      price = λ o. 0;
      offer_owner = λ o. word_take f.offers n.offer_owner f.offer_owner 0 o l.offer_owner i;
      grocer_owner = λ g. word_take f.grocers n.grocer_owner f.grocer_owner 0 g l.grocer_owner i;
      tally_grocer = λ x. word_take f.lines n.line_grocer f.line_grocer 0 x l.line_grocer i;
      tally_box = λ x. word_take f.lines n.line_box f.line_box 0 x l.line_box i;
      tally_offer = λ x. word_take f.lines n.line_offer f.line_offer 0 x l.line_offer i;
      tally_count = λ x. pos 0;
    };
    rate = λ x. word_take f.lines n.line_rate f.line_rate zero+ x l.line_rate i;
    value = λ x. word_take f.lines n.line_value f.line_value zero+ x l.line_value i;
  }

  pub lent_forecast_range : forecast_in_range (lent_forecast f n) ≡ forecast_in_range f
  unfolding forecast_in_range lent_forecast
  lent_forecast_range =
      rw (
        under-take f.boxes f.offers n.offer_owner f.offer_owner l.offer_owner,
        under-take f.boxes f.grocers n.grocer_owner f.grocer_owner l.grocer_owner,
        under-take f.grocers f.lines n.line_grocer f.line_grocer l.line_grocer,
        under-take f.offers f.lines n.line_offer f.line_offer l.line_offer,
        under-take f.boxes f.lines n.line_box f.line_box l.line_box,
      )

-- What lent tables of a state hold, where they are long enough.
module _ (f : Forecast) (t : StateTables) (n : StateLengths) (l : StateLong f.job.boxes f.job.grocers f.job.offers n) where
  pub lent_view : view f (lent_state t n) ≡ view f t
  unfolding view lent_state from_marks
  lent_view =
      state_eq (view f (lent_state t n)) (view f t)
      (λ b o. cell_take f.job.boxes f.job.offers n.known t.known zero+ b o l.known)
      (λ b o. cell_take f.job.boxes f.job.offers n.value_transit t.value_transit zero+ b o l.value_transit)
      (λ b g. cell_take f.job.boxes f.job.grocers n.part t.part zero+ b g l.part)
      (λ b g. cell_take f.job.boxes f.job.grocers n.part_transit t.part_transit zero+ b g l.part_transit)
      (λ b g. cell_take f.job.boxes f.job.grocers n.held t.held zero+ b g l.held)
      (λ g. word_take f.job.grocers n.forecast t.forecast zero+ g l.forecast)
      (λ i k a b. marks_take f.job.boxes n.done t.done (Money.kind_of (kind_number k)) a b l.done i)
      (word_take 1 n.sent t.sent 0 0 l.sent)

  -- A state that is written into the lent part is written into the whole.
  pub lent_store : (s : State) → returned t n (store f s (lent_state t n)) ≡ store f s t
  unfolding returned store lent_state recell to_marks marks_of
  lent_store s = λ i. record {
    known = overwrite_take (f.job.boxes * f.job.offers) n.known (λ k. s.known (k / f.job.offers) (k % f.job.offers)) t.known l.known i;
    value_transit = overwrite_take (f.job.boxes * f.job.offers) n.value_transit (λ k. s.value_transit (k / f.job.offers) (k % f.job.offers)) t.value_transit l.value_transit i;
    part = overwrite_take (f.job.boxes * f.job.grocers) n.part (λ k. s.part (k / f.job.grocers) (k % f.job.grocers)) t.part l.part i;
    part_transit = overwrite_take (f.job.boxes * f.job.grocers) n.part_transit (λ k. s.part_transit (k / f.job.grocers) (k % f.job.grocers)) t.part_transit l.part_transit i;
    held = overwrite_take (f.job.boxes * f.job.grocers) n.held (λ k. s.held (k / f.job.grocers) (k % f.job.grocers)) t.held l.held i;
    forecast = overwrite_take f.job.grocers n.forecast s.forecast t.forecast l.forecast i;
    done = overwrite_take (6 * f.job.boxes * f.job.boxes) n.done (λ k. cond (Money.at_place f.job.boxes (λ q a b. s.done (kind_of (Money.kind_number q)) a b) k) 1 0) t.done l.done i;
    sent = overwrite_take 1 n.sent (λ k. s.sent) t.sent l.sent i;
  }

-- The ranges of lent tables are those of the whole.
pub lent_state_range : (f : ForecastTables) (n' : ForecastLengths) (t : StateTables) (n : StateLengths) → StateLong f.boxes f.grocers f.offers n →
    state_in_range (lent_forecast f n') (lent_state t n) ≡ state_in_range f t
unfolding state_in_range lent_forecast lent_state
lent_state_range f n' t n l =
    rw (
      each_take is_value (f.boxes * f.offers) n.known t.known l.known,
      each_take is_value (f.boxes * f.offers) n.value_transit t.value_transit l.value_transit,
      each_take is_sum (f.boxes * f.grocers) n.part t.part l.part,
      each_take is_sum (f.boxes * f.grocers) n.part_transit t.part_transit l.part_transit,
      each_take is_sum (f.boxes * f.grocers) n.held t.held l.held,
      each_take is_sum f.grocers n.forecast t.forecast l.forecast,
      up_take 1 (6 * f.boxes * f.boxes) n.done t.done l.done,
      up_take 1_000_000 1 n.sent t.sent l.sent,
    )

-- Tables that come back as they were lent are as they were.
pub lent_back : (t : StateTables) (n : StateLengths) → returned t n (lent_state t n) ≡ t
unfolding returned lent_state
lent_back t n = λ i. record {
  known = take-append-drop n.known t.known i;
  value_transit = take-append-drop n.value_transit t.value_transit i;
  part = take-append-drop n.part t.part i;
  part_transit = take-append-drop n.part_transit t.part_transit i;
  held = take-append-drop n.held t.held i;
  forecast = take-append-drop n.forecast t.forecast i;
  done = take-append-drop n.done t.done i;
  sent = take-append-drop n.sent t.sent i;
}

-- A state written twice is the one written last.
pub store-store : (f : Forecast) (s r : State) (t : StateTables) → store f s (store f r t) ≡ store f s t
unfolding store recell to_marks marks_of
store-store f s r t = λ i. record {
  known = over-over (f.job.boxes * f.job.offers) (λ k. s.known (k / f.job.offers) (k % f.job.offers)) (λ k. r.known (k / f.job.offers) (k % f.job.offers)) t.known i;
  value_transit = over-over (f.job.boxes * f.job.offers) (λ k. s.value_transit (k / f.job.offers) (k % f.job.offers)) (λ k. r.value_transit (k / f.job.offers) (k % f.job.offers)) t.value_transit i;
  part = over-over (f.job.boxes * f.job.grocers) (λ k. s.part (k / f.job.grocers) (k % f.job.grocers)) (λ k. r.part (k / f.job.grocers) (k % f.job.grocers)) t.part i;
  part_transit = over-over (f.job.boxes * f.job.grocers) (λ k. s.part_transit (k / f.job.grocers) (k % f.job.grocers)) (λ k. r.part_transit (k / f.job.grocers) (k % f.job.grocers)) t.part_transit i;
  held = over-over (f.job.boxes * f.job.grocers) (λ k. s.held (k / f.job.grocers) (k % f.job.grocers)) (λ k. r.held (k / f.job.grocers) (k % f.job.grocers)) t.held i;
  forecast = over-over f.job.grocers s.forecast r.forecast t.forecast i;
  done = over-over (6 * f.job.boxes * f.job.boxes) (λ k. cond (Money.at_place f.job.boxes (λ q a b. s.done (kind_of (Money.kind_number q)) a b) k) 1 0) (λ k. cond (Money.at_place f.job.boxes (λ q a b. r.done (kind_of
      (Money.kind_number q)) a b) k) 1 0) t.done i;
  sent = over-over 1 (λ k. s.sent) (λ k. r.sent) t.sent i;
}
