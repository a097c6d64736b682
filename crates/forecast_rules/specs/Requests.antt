-- Lists of step requests of a forecast: the first is lent a fresh state, each later one the state as the one before left it.
use Rattle.std.specs.Prelude.{List, [], ◌∷◌, ◌++◌, Bool, cond, ◌||◌, take, drop}
use Rattle.model.specs.Step.{Asked, StepAnswer, is_accepted}
use Rattle.forecast_rules.specs.Steps.{Step, Steps, done_by}
use Rattle.forecast_rules.specs.Tables.{ForecastTables, StateTables, ForecastLengths, StateLengths, forecast_short, state_short}
use Rattle.forecast_rules.specs.Step.{step_of, stepped, fresh_tables}

-- A request: what it asks for, and how many words it lends of each of the fifteen tables.
pub record Request : Type 0 where
  pub asked : Asked
  pub forecast : ForecastLengths
  pub state : StateLengths

-- The forecast's tables as a request lends them: the first words of each.
unfoldable pub lent_forecast : ForecastTables → ForecastLengths → ForecastTables
lent_forecast f n = record {
  boxes = f.boxes;
  grocers = f.grocers;
  offers = f.offers;
  lines = f.lines;
  offer_owner = take n.offer_owner f.offer_owner;
  grocer_owner = take n.grocer_owner f.grocer_owner;
  line_grocer = take n.line_grocer f.line_grocer;
  line_offer = take n.line_offer f.line_offer;
  line_box = take n.line_box f.line_box;
  line_rate = take n.line_rate f.line_rate;
  line_value = take n.line_value f.line_value;
}

-- The state's tables likewise.
unfoldable pub lent_state : StateTables → StateLengths → StateTables
lent_state t n = record {
  known = take n.known t.known;
  value_transit = take n.value_transit t.value_transit;
  part = take n.part t.part;
  part_transit = take n.part_transit t.part_transit;
  held = take n.held t.held;
  forecast = take n.forecast t.forecast;
  done = take n.done t.done;
  sent = take n.sent t.sent;
}

-- The host's tables after a call: the lent words as the call left them, and behind them the words that were not lent.
unfoldable pub returned : StateTables → StateLengths → StateTables → StateTables
returned t n lent = record {
  known = lent.known ++ drop n.known t.known;
  value_transit = lent.value_transit ++ drop n.value_transit t.value_transit;
  part = lent.part ++ drop n.part t.part;
  part_transit = lent.part_transit ++ drop n.part_transit t.part_transit;
  held = lent.held ++ drop n.held t.held;
  forecast = lent.forecast ++ drop n.forecast t.forecast;
  done = lent.done ++ drop n.done t.done;
  sent = lent.sent ++ drop n.sent t.sent;
}

-- A buffer is lent shorter than its table: condition 20.
unfoldable pub lends_short : ForecastTables → Request → Bool
lends_short f r = forecast_short f r.forecast || state_short f r.state

module _ (f : ForecastTables) where
  -- The answer to a request: the step's, on the tables as lent.
  unfoldable pub answer_to : StateTables → Request → StepAnswer
  answer_to t r = (stepped (lent_forecast f r.forecast) (lent_state t r.state) r.asked).answer

  -- The host's tables after a request: the step's, put back.
  unfoldable pub serve : StateTables → Request → StateTables
  serve t r = returned t r.state (stepped (lent_forecast f r.forecast) (lent_state t r.state) r.asked).tables

  -- The host's tables after a list of requests.
  unfoldable pub serve_all : StateTables → List Request → StateTables
  serve_all t [] = t
  serve_all t (r ∷ rs) = serve_all (serve t r) rs

  -- The steps of the requests that were accepted, in order.
  unfoldable pub accepted_from : StateTables → List Request → List Step
  accepted_from t [] = []
  accepted_from t (r ∷ rs) =
      cond (is_accepted (answer_to t r)) (step_of r.asked ∷ accepted_from (serve t r) rs) (accepted_from (serve t r) rs)

  -- The answers to the requests of a list, in order.
  unfoldable pub answers_from : StateTables → List Request → List StepAnswer
  answers_from t [] = []
  answers_from t (r ∷ rs) = answer_to t r ∷ answers_from (serve t r) rs

  -- The tables that a list of requests leaves, from a fresh state of the forecast in the buffers t.
  unfoldable pub tables_after : StateTables → List Request → StateTables
  tables_after t rs = serve_all (fresh_tables f t) rs

  -- The answers to the list.
  unfoldable pub answers_in : StateTables → List Request → List StepAnswer
  answers_in t rs = answers_from (fresh_tables f t) rs

  -- The steps accepted in a list.
  unfoldable pub accepted_in : StateTables → List Request → List Step
  accepted_in t rs = accepted_from (fresh_tables f t) rs

  -- A step is done once a request for it in the list was accepted.
  unfoldable pub done_in : StateTables → List Request → Steps
  done_in t rs = done_by (accepted_in t rs)
