-- The forecast in doubles (02 §13): its sentences, each as a statement about the definitions that the two calls' contracts cite.
use Rattle.std.specs.Prelude.{◌≡◌, true, false, cond, List, ℕ, ◌*◌, ◌<◌, eqb, get_or}
use Rattle.std.specs.Float.{binary64}
use Rattle.std.specs.Float.Ieee.{to_bits}
use Rattle.model.specs.Job.{shares, price_word, total_word}
use Rattle.model.specs.Step.{Asked, accepted, is_accepted}
use Rattle.forecast_rules.specs.Doubles.{zero+, is_sum}
use Rattle.forecast_rules.specs.Lines.{Forecast, offer_value, forecast_sum, bad_line}
use Rattle.forecast_rules.specs.Steps.{Kind, receive_values, send_parts, receive_parts, sum_own, State, has_step, permitted, summed, effect}
use Rattle.forecast_rules.specs.Tables.{ForecastTables, forecast_of, StateTables, state_lengths, state_short, lent_short, view}
use Rattle.forecast_rules.specs.Ranges.{forecast_in_range, state_in_range, Forecasts}
use Rattle.forecast_rules.specs.Step.{step_refusal, fresh_tables, outcome, stepped, freshened}
use Rattle.forecast_rules.specs.Requests.{Request, answer_to, tables_after, done_in}
use Rattle.forecast_rules.specs.Evening.{SomeStep, AllDone, permitted_request, Evening}

-- What holds of both calls for every input; and of every forecast whose tables are whole, in range and without 34 (`Forecasts`), and of every
-- list of requests, each with whatever lent lengths, from a fresh state in whatever buffers.
pub record ForecastHolds : Type 0 where
  -- A refused call has changed no lent word, whatever the tables and whatever was asked: the step's, and the one for a fresh state.
  pub refused_step : (f : ForecastTables) (t : StateTables) (q : Asked) → is_accepted (stepped f t q).answer ≡ false → (stepped f t q).tables ≡ t
  pub refused_fresh : (f : ForecastTables) (t : StateTables) → is_accepted (freshened f t).answer ≡ false → (freshened f t).tables ≡ t
  -- All that is proved of a list of requests, in one record.
  pub evening : (f : ForecastTables) → Forecasts f → (buffers : StateTables) (requests : List Request) → Evening f buffers requests
  -- "From a fresh state (own values known, all else 0)": the call gives it in buffers long enough, whatever they held.
  pub fresh : (f : ForecastTables) → Forecasts f → (buffers : StateTables) → state_short f (state_lengths buffers) ≡ false →
      freshened f buffers ≡ outcome accepted (fresh_tables f buffers)
  -- A request is accepted exactly where it is permitted,
  pub accepts : (f : ForecastTables) → Forecasts f → (buffers : StateTables) (requests : List Request) (r : Request) →
      is_accepted (answer_to f (tables_after f buffers requests) r) ≡ permitted_request f (done_in f buffers requests) r
  -- "some step is permitted until all are done",
  pub goes_on : (f : ForecastTables) → Forecasts f → (buffers : StateTables) (requests : List Request) (k : Kind) (a b : ℕ) →
      has_step (forecast_of f) k a b ≡ true → done_in f buffers requests k a b ≡ false → SomeStep (permitted (forecast_of f) (done_in f buffers requests))
  -- "and every permitted order must end in the same bits", of every table,
  pub same_bits : (f : ForecastTables) → Forecasts f → (buffers others : StateTables) (requests again : List Request) →
      AllDone (forecast_of f) (done_in f buffers requests) → AllDone (forecast_of f) (done_in f others again) →
      view (forecast_of f) (tables_after f others again) ≡ view (forecast_of f) (tables_after f buffers requests)
  -- "those of this definition".
  pub these_bits : (f : ForecastTables) → Forecasts f → (buffers : StateTables) (requests : List Request) →
      AllDone (forecast_of f) (done_in f buffers requests) → (g : ℕ) → g < f.grocers →
      to_bits binary64 (get_or (tables_after f buffers requests).forecast g zero+) ≡ to_bits binary64 (forecast_sum (forecast_of f) g)
  -- "sums are finite within ±10^15": no list of requests leaves a sum that is not, in any table,
  pub in_range : (f : ForecastTables) → Forecasts f → (buffers : StateTables) (requests : List Request) → state_in_range f (tables_after f buffers requests)
      ≡ true
  -- nor is the definition's.
  pub sum_in_range : (f : ForecastTables) → Forecasts f → (g : ℕ) → is_sum (forecast_sum (forecast_of f) g) ≡ true
  -- "A grocer without lines gets +0.0."
  pub no_lines : (f : Forecast) (g : ℕ) → ((b : ℕ) → b < f.job.boxes → shares f.job g b ≡ false) → forecast_sum f g ≡ zero+
  -- "An offer without lines has the value +0.0."
  pub no_value : (f : Forecast) (o : ℕ) → ((i : ℕ) → i < f.job.tallies → eqb (f.job.tally_offer i) o ≡ false) → offer_value f o ≡ zero+
  -- "A sent part sum, a word taken from transit and a part summed in 6 become +0.0."
  pub sent_part : (f : Forecast) (s : State) (a b g : ℕ) → total_word f.job a b g ≡ true → (effect f s send_parts a b).part a g ≡ zero+
  pub taken_value : (f : Forecast) (s : State) (a b o : ℕ) → price_word f.job b a o ≡ true → (effect f s receive_values a b).value_transit a o ≡ zero+
  pub taken_part : (f : Forecast) (s : State) (a b g : ℕ) → total_word f.job b a g ≡ true → (effect f s receive_parts a b).part_transit b g ≡ zero+
  pub summed_own : (f : Forecast) (s : State) (a g : ℕ) → summed f a g a ≡ true → (effect f s sum_own a a).part a g ≡ zero+
  pub summed_held : (f : Forecast) (s : State) (a c g : ℕ) → eqb c a ≡ false → summed f a g c ≡ true → (effect f s sum_own a a).held c g ≡ zero+
  -- "Received part sums are held by sender until 6."
  pub held_by_sender : (f : Forecast) (s : State) (a b g : ℕ) → total_word f.job b a g ≡ true → (effect f s receive_parts a b).held b g ≡ s.part_transit b g
  -- "34 …, straight after 21": whatever is asked for, where 20 and 21 are not met.
  pub thirty_four : (f : ForecastTables) (t : StateTables) (q : Asked) → lent_short f t ≡ false → forecast_in_range f ≡ true → state_in_range f t ≡ true →
      bad_line (forecast_of f) ≡ true → step_refusal f t q ≡ 34
