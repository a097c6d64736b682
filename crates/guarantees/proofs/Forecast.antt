-- The forecast in doubles. Assumes nothing.
use mathlib.Core.Path.{◌≡◌, refl, sym, ap, ◌∙◌}
use mathlib.Core.Bool.{true, false, cond, ◌||◌}
use mathlib.Core.List.{List}
use Prim.Native.Nat.{ℕ, zero, suc, ◌<◌, ◌≤◌}
use native.Mathlib.Nat.{le_refl}
use native.Mathlib.Omega.{arith}
use lib.Dec.{eqb}
use lib.ListN.{get_or}
use lib.Ieee.{Float, binary64, to_bits}
use Rattle.laws.specs.Checks.{first_met}
use Rattle.laws.specs.Tables.{word}
use Rattle.laws.proofs.Bools.{eqb_same}
use Rattle.laws.proofs.Tables.{word_in_lem}
use Rattle.model.specs.Job.{shares}
use Rattle.model.specs.Step.{Asked, accepted, step_answer, is_accepted}
use Rattle.model.proofs.Refusal.{accepted_zero}
use Rattle.forecast_rules.specs.Doubles.{zero+}
use Rattle.forecast_rules.specs.Lines.{Forecast, value_in, offer_value, part_sum, forecast_sum, bad_line}
use Rattle.forecast_rules.specs.Steps.{effect}
use Rattle.forecast_rules.specs.Tables.{ForecastTables, forecast_of, StateTables, forecast_lengths, state_lengths, forecast_short, state_short, lent_short, view}
use Rattle.forecast_rules.specs.Ranges.{forecast_in_range, state_in_range, Forecasts}
use Rattle.forecast_rules.specs.Step.{refusals, step_refusal, step_tables, fresh_refusals, fresh_tables, outcome, stepped, freshened}
use Rattle.forecast_rules.specs.Requests.{Request, tables_after, done_in}
use Rattle.forecast_rules.specs.Evening.{AllDone}
use Rattle.forecast_rules.proofs.Sums.{add_up_none}
use Rattle.forecast_rules.proofs.Ranges.{forecast_in}
use Rattle.forecast_rules.proofs.Served.{good}
use Rattle.forecast_rules.proofs.Evening.{evening}
use Rattle.guarantees.specs.Forecast.{ForecastHolds}

-- A fresh state, where its call meets no condition.
fresh_is : (f : ForecastTables) → Forecasts f → (t : StateTables) → state_short f (state_lengths t) ≡ false → freshened f t ≡ outcome accepted (fresh_tables f t)
unfolding freshened fresh_refusals lent_short first_met step_answer
fresh_is f z t h = rw (z.whole, h, z.in_range, z.lines)

-- The bits of the definition.
these_bits_lem : (f : ForecastTables) (z : Forecasts f) (t : StateTables) (rs : List Request) → AllDone (forecast_of f) (done_in f t rs) → (g : ℕ) → g < f.grocers →
    to_bits binary64 (get_or (tables_after f t rs).forecast g zero+) ≡ to_bits binary64 (forecast_sum (forecast_of f) g)
unfolding view forecast_of
these_bits_lem f z t rs h g l =
    ap (to_bits binary64) (sym (word_in_lem f.grocers (tables_after f t rs).forecast zero+ g l) ∙ ((evening f z t rs).finish h).sums g l)

-- Nothing is added.
no_lines_lem : (f : Forecast) (g : ℕ) → ((b : ℕ) → b < f.job.boxes → shares f.job g b ≡ false) → forecast_sum f g ≡ zero+
unfolding forecast_sum
no_lines_lem f g h = add_up_none f.job.boxes (shares f.job g) (λ b. part_sum f b g) h

none_in : (f : Forecast) (o n : ℕ) → n ≤ f.job.tallies → ((i : ℕ) → i < f.job.tallies → eqb (f.job.tally_offer i) o ≡ false) → value_in f n o ≡ zero+
unfolding value_in
none_in f o zero l h = refl
none_in f o (suc n) l h = rw (h n (omega arith), none_in f o n (omega arith) h)

no_value_lem : (f : Forecast) (o : ℕ) → ((i : ℕ) → i < f.job.tallies → eqb (f.job.tally_offer i) o ≡ false) → offer_value f o ≡ zero+
unfolding offer_value
no_value_lem f o h = none_in f o f.job.tallies (le_refl f.job.tallies) h

-- 34.
thirty_four_lem : (f : ForecastTables) (t : StateTables) (q : Asked) → lent_short f t ≡ false → forecast_in_range f ≡ true → state_in_range f t ≡ true → bad_line (forecast_of f) ≡ true → step_refusal f t q ≡ 34
unfolding step_refusal refusals first_met
thirty_four_lem f t q s r w b = rw (s, r, w, b)

-- A refusal keeps every word.
refused_step_lem : (f : ForecastTables) (t : StateTables) (q : Asked) → is_accepted (stepped f t q).answer ≡ false → (stepped f t q).tables ≡ t
unfolding stepped step_tables
refused_step_lem f t q h = rw (sym (accepted_zero (step_refusal f t q)) ∙ h)

refused_fresh_lem : (f : ForecastTables) (t : StateTables) → is_accepted (freshened f t).answer ≡ false → (freshened f t).tables ≡ t
unfolding freshened
refused_fresh_lem f t h = rw (sym (accepted_zero (first_met (fresh_refusals f t))) ∙ h)

pub forecast_holds : ForecastHolds
unfolding effect
forecast_holds = record {
  refused_step = refused_step_lem;
  refused_fresh = refused_fresh_lem;
  evening = evening;
  fresh = fresh_is;
  accepts = λ f z t rs. (evening f z t rs).accepts;
  goes_on = λ f z t rs. (evening f z t rs).goes_on;
  same_bits = λ f z t u rs ps h k. (evening f z t rs).same_state h u ps k;
  these_bits = these_bits_lem;
  in_range = λ f z t rs. (evening f z t rs).in_range;
  sum_in_range = λ f z. forecast_in (forecast_of f) (good f z);
  no_lines = no_lines_lem;
  no_value = no_value_lem;
  sent_part = λ f s a b g h. rw (eqb_same a, h);
  taken_value = λ f s a b o h. rw (eqb_same a, h);
  taken_part = λ f s a b g h. rw (eqb_same b, h);
  summed_own = λ f s a g h. rw (eqb_same a, h);
  summed_held = λ f s a c g e h. rw (e, h);
  held_by_sender = λ f s a b g h. rw (eqb_same b, h);
  thirty_four = thirty_four_lem;
}
