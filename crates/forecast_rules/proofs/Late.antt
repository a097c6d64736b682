-- What a step on tables in range leaves is in range, but for the words sent and the sums of step 6: the late 21. Assumes nothing.
use mathlib.Core.Path.{◌≡◌, ap, ◌∙◌}
use mathlib.Core.Bool.{Bool, true, cond, ◌&&◌, not}
use mathlib.Core.List.{List, [], ◌∷◌}
use Prim.Native.Nat.{ℕ, ◌+◌, ◌*◌, ◌/◌, ◌%◌, ◌≤◌}
use native.Mathlib.Omega.{arith}
use lib.Dec.{eqb, ltb, leb}
use lib.ListN.{get_or}
use lib.Ieee.{Float}
use borrow.Author.Tests.{ltb-true}
use Rattle.laws.specs.Below.{all}
use Rattle.laws.specs.Limits.{max_sent}
use Rattle.laws.specs.Tables.{overwrite, recell, word, cell}
use Rattle.laws.proofs.Below.{all_at, all_of_lem, all_cong}
use Rattle.laws.proofs.Bools.{split, and_l, and_r, and_one, cond_either}
use Rattle.laws.proofs.Checks.{Each, each_of}
use Rattle.laws.proofs.Tables.{cell_in, get_d_overwrite}
use Rattle.model.specs.Ranges.{up_to}
use Rattle.model.specs.Job.{price_word, total_word}
use Rattle.model.proofs.Step.{marks_bits, up_at}
use Rattle.forecast_rules.specs.Doubles.{zero+, is_value, is_sum}
use Rattle.forecast_rules.specs.Lines.{Forecast, part_at}
use Rattle.forecast_rules.specs.Steps.{Kind, send_values, receive_values, add_lines, send_parts, receive_parts, sum_own, State, summed, effect}
use Rattle.forecast_rules.specs.Tables.{ForecastTables, forecast_of, StateTables, view, store, to_marks}
use Rattle.forecast_rules.specs.Ranges.{each, state_in_range}
use Rattle.forecast_rules.proofs.Ranges.{Good, any_in}
use Rattle.forecast_rules.proofs.InRange.{Fits, zero_value, zero_sum}
use Rattle.forecast_rules.proofs.Served.{each_over}

-- A word of a table in range, and +0.0 outside of it, passes the test of the table.
cell_fits : (p : Float → Bool) (k m : ℕ) (l : List Float) → p zero+ ≡ true → each p (k * m) l ≡ true → (b o : ℕ) → p (cell k m l zero+ b o) ≡ true
unfolding cell each
cell_fits p k m l z h b o =
    split (ltb b k && ltb o m)
    (λ e. rw e (all_at (k * m) (λ i. p (get_or l i zero+)) (b * m + o) (cell_in b k m o (ltb-true b k (and_l (ltb b k) (ltb o m) e)) (ltb-true o m (and_r (ltb b k) (ltb o m) e))) h))
    (λ e. rw e z)

word_fits : (p : Float → Bool) (m : ℕ) (l : List Float) → p zero+ ≡ true → each p m l ≡ true → (g : ℕ) → p (word m l zero+ g) ≡ true
unfolding word each
word_fits p m l z h g = split (ltb g m) (λ e. rw e (all_at m (λ i. p (get_or l i zero+)) g (ltb-true g m e) h)) (λ e. rw e z)

-- The tests of a state, one by one.
abbrev tests : ForecastTables → StateTables → List Bool
tests f t =
    each is_value (f.boxes * f.offers) t.known
    ∷ each is_value (f.boxes * f.offers) t.value_transit
    ∷ each is_sum (f.boxes * f.grocers) t.part
    ∷ each is_sum (f.boxes * f.grocers) t.part_transit
    ∷ each is_sum (f.boxes * f.grocers) t.held
    ∷ each is_sum f.grocers t.forecast
    ∷ up_to 1 (6 * f.boxes * f.boxes) t.done
    ∷ up_to max_sent 1 t.sent
    ∷ []

passed : (f : ForecastTables) (t : StateTables) → state_in_range f t ≡ true → Each true (tests f t)
unfolding state_in_range
passed f t ok = each_of (tests f t) ok

-- The state that tables in range hold is within its ranges.
pub view_fits : (f : ForecastTables) (t : StateTables) → state_in_range f t ≡ true → Fits (view (forecast_of f) t)
unfolding view forecast_of
view_fits f t ok =
    let e = passed f t ok in
    record {
      known = cell_fits is_value f.boxes f.offers t.known zero_value e.0;
      value_transit = cell_fits is_value f.boxes f.offers t.value_transit zero_value e.1.0;
      part = cell_fits is_sum f.boxes f.grocers t.part zero_sum e.1.1.0;
      part_transit = cell_fits is_sum f.boxes f.grocers t.part_transit zero_sum e.1.1.1.0;
      held = cell_fits is_sum f.boxes f.grocers t.held zero_sum e.1.1.1.1.0;
      forecast = word_fits is_sum f.grocers t.forecast zero_sum e.1.1.1.1.1.0;
    }

pub few_marks : (f : ForecastTables) (t : StateTables) → state_in_range f t ≡ true → up_to 1 (6 * f.boxes * f.boxes) t.done ≡ true
few_marks f t ok = (passed f t ok).1.1.1.1.1.1.0

pub few_sent : (f : ForecastTables) (t : StateTables) → state_in_range f t ≡ true → get_or t.sent 0 0 ≤ max_sent
few_sent f t ok = up_at max_sent 1 t.sent 0 (passed f t ok).1.1.1.1.1.1.1.0 (omega arith)

-- The tables of rows are within their ranges.
record Rows (s : State) : Type 0 where
  known : (b o : ℕ) → is_value (s.known b o) ≡ true
  value_transit : (b o : ℕ) → is_value (s.value_transit b o) ≡ true
  part : (b g : ℕ) → is_sum (s.part b g) ≡ true
  part_transit : (b g : ℕ) → is_sum (s.part_transit b g) ≡ true
  held : (b g : ℕ) → is_sum (s.held b g) ≡ true

-- No step takes a row out of its range, in whatever state: of step 3 since a box has at most 1,000 lines.
module _ (f : Forecast) (y : Good f) (s : State) (w : Fits s) where
  value : (t : Bool) (x z : Float) → is_value x ≡ true → is_value z ≡ true → is_value (cond t x z) ≡ true
  value t x z h k = cond_either (λ x. is_value x ≡ true) t x z h k

  total : (t : Bool) (x z : Float) → is_sum x ≡ true → is_sum z ≡ true → is_sum (cond t x z) ≡ true
  total t x z h k = cond_either (λ x. is_sum x ≡ true) t x z h k

  rows : (q : Kind) (a b : ℕ) → Rows (effect f s q a b)
  unfolding effect
  rows send_values a b = record {
    known = w.known;
    value_transit = λ c o. value (eqb c b && price_word f.job a b o) (s.known a o) (s.value_transit c o) (w.known a o) (w.value_transit c o);
    part = w.part;
    part_transit = w.part_transit;
    held = w.held;
  }
  rows receive_values a b = record {
    known = λ c o. value (eqb c a && price_word f.job b a o) (s.value_transit a o) (s.known c o) (w.value_transit a o) (w.known c o);
    value_transit = λ c o. value (eqb c a && price_word f.job b a o) zero+ (s.value_transit c o) zero_value (w.value_transit c o);
    part = w.part;
    part_transit = w.part_transit;
    held = w.held;
  }
  rows add_lines a b = record {
    known = w.known;
    value_transit = w.value_transit;
    part = λ c g. total (eqb c a) (part_at f (s.known a) a g) (s.part c g) (any_in f y (s.known a) (w.known a) a g) (w.part c g);
    part_transit = w.part_transit;
    held = w.held;
  }
  rows send_parts a b = record {
    known = w.known;
    value_transit = w.value_transit;
    part = λ c g. total (eqb c a && total_word f.job a b g) zero+ (s.part c g) zero_sum (w.part c g);
    part_transit = λ c g. total (eqb c a && total_word f.job a b g) (s.part a g) (s.part_transit c g) (w.part a g) (w.part_transit c g);
    held = w.held;
  }
  rows receive_parts a b = record {
    known = w.known;
    value_transit = w.value_transit;
    part = w.part;
    part_transit = λ c g. total (eqb c b && total_word f.job b a g) zero+ (s.part_transit c g) zero_sum (w.part_transit c g);
    held = λ c g. total (eqb c b && total_word f.job b a g) (s.part_transit b g) (s.held c g) (w.part_transit b g) (w.held c g);
  }
  rows sum_own a b = record {
    known = w.known;
    value_transit = w.value_transit;
    part = λ c g. total (eqb c a && summed f a g c) zero+ (s.part c g) zero_sum (w.part c g);
    part_transit = w.part_transit;
    held = λ c g. total (not (eqb c a) && summed f a g c) zero+ (s.held c g) zero_sum (w.held c g);
  }

-- A state whose rows are within their ranges: the sums and the words sent are left to be tested.
rows_left : (f : ForecastTables) (s : State) (t : StateTables) → Rows s →
    state_in_range f (store (forecast_of f) s t) ≡ (all f.grocers (λ g. is_sum (s.forecast g)) && leb s.sent max_sent)
unfolding state_in_range store recell to_marks forecast_of each up_to all
rows_left f s t w =
    rw (
      each_over is_value (f.boxes * f.offers) (λ i. s.known (i / f.offers) (i % f.offers)) t.known (λ i. w.known (i / f.offers) (i % f.offers)),
      each_over is_value (f.boxes * f.offers) (λ i. s.value_transit (i / f.offers) (i % f.offers)) t.value_transit (λ i. w.value_transit (i / f.offers) (i % f.offers)),
      each_over is_sum (f.boxes * f.grocers) (λ i. s.part (i / f.grocers) (i % f.grocers)) t.part (λ i. w.part (i / f.grocers) (i % f.grocers)),
      each_over is_sum (f.boxes * f.grocers) (λ i. s.part_transit (i / f.grocers) (i % f.grocers)) t.part_transit (λ i. w.part_transit (i / f.grocers) (i % f.grocers)),
      each_over is_sum (f.boxes * f.grocers) (λ i. s.held (i / f.grocers) (i % f.grocers)) t.held (λ i. w.held (i / f.grocers) (i % f.grocers)),
      marks_bits f.boxes _ t.done,
      all_cong f.grocers (λ i. is_sum (get_or (overwrite f.grocers s.forecast t.forecast) i zero+)) (λ g. is_sum (s.forecast g))
          (λ i l. ap is_sum (get_d_overwrite f.grocers s.forecast t.forecast i zero+ l)),
      get_d_overwrite 1 (λ i. s.sent) t.sent 0 0 (omega arith),
      and_one (all f.grocers (λ g. is_sum (s.forecast g))),
    )

-- What a step leaves on tables in range: for 1 to 5 the words sent are left to be tested, for 6 the sums.
module _ (f : ForecastTables) (y : Good (forecast_of f)) (t : StateTables) (ok : state_in_range f t ≡ true) where
  abbrev s : State
  s = view (forecast_of f) t

  fits : Fits s
  fits = view_fits f t ok

  pub late_sent : (q : Kind) (a b : ℕ) → (effect (forecast_of f) s q a b).forecast ≡ s.forecast →
      state_in_range f (store (forecast_of f) (effect (forecast_of f) s q a b) t) ≡ leb (effect (forecast_of f) s q a b).sent max_sent
  late_sent q a b e =
      rows_left f (effect (forecast_of f) s q a b) t (rows (forecast_of f) y s fits q a b)
      ∙ rw (e, all_of_lem f.grocers (λ g. is_sum (s.forecast g)) (λ g l. fits.forecast g))

  pub late_sums : (a b : ℕ) → leb s.sent max_sent ≡ true →
      state_in_range f (store (forecast_of f) (effect (forecast_of f) s sum_own a b) t) ≡ all f.grocers (λ g. is_sum ((effect (forecast_of f) s sum_own a b).forecast g))
  unfolding effect
  late_sums a b e =
      rows_left f (effect (forecast_of f) s sum_own a b) t (rows (forecast_of f) y s fits sum_own a b)
      ∙ rw e (and_one (all f.grocers (λ g. is_sum ((effect (forecast_of f) s sum_own a b).forecast g))))
