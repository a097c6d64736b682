-- Lists of step requests: each lends a part of the host's tables, and the next one finds the whole state.
use Rattle.std.specs.Prelude.{List, [], ◌∷◌, ◌++◌, Bool, cond, ◌||◌, take, drop}
use Rattle.model.specs.Steps.{Step, Steps, done_by}
use Rattle.model.specs.Tables.{JobTables, evening_of, StateTables, JobLengths, StateLengths, job_short, bags_short, state_short, totals_short}
use Rattle.model.specs.Step.{Asked, step_of, StepAnswer, is_accepted, stepped, fresh_tables}

-- A request: what it asks for, and how many words it lends of each of the sixteen tables.
pub record Request : Type 0 where
  pub asked : Asked
  pub job : JobLengths
  pub state : StateLengths

-- The job's tables as a request lends them: the first words of each.
unfoldable pub lent_job : JobTables → JobLengths → JobTables
lent_job f n = record {
  boxes = f.boxes;
  grocers = f.grocers;
  offers = f.offers;
  tallies = f.tallies;
  lists = f.lists;
  price = take n.price f.price;
  offer_owner = take n.offer_owner f.offer_owner;
  grocer_owner = take n.grocer_owner f.grocer_owner;
  tally_grocer = take n.tally_grocer f.tally_grocer;
  tally_box = take n.tally_box f.tally_box;
  tally_offer = take n.tally_offer f.tally_offer;
  tally_count = take n.tally_count f.tally_count;
  tally_bag = take n.tally_bag f.tally_bag;
  tally_revision = take n.tally_revision f.tally_revision;
}

-- The state's tables likewise.
unfoldable pub lent_state : StateTables → StateLengths → StateTables
lent_state t n = record {
  known = take n.known t.known;
  price_transit = take n.price_transit t.price_transit;
  working = take n.working t.working;
  total_transit = take n.total_transit t.total_transit;
  statement = take n.statement t.statement;
  done = take n.done t.done;
  sent = take n.sent t.sent;
}

-- The host's tables after a call: the lent words as the call left them, and behind them the words that were not lent.
unfoldable pub returned : StateTables → StateLengths → StateTables → StateTables
returned t n lent = record {
  known = lent.known ++ drop n.known t.known;
  price_transit = lent.price_transit ++ drop n.price_transit t.price_transit;
  working = lent.working ++ drop n.working t.working;
  total_transit = lent.total_transit ++ drop n.total_transit t.total_transit;
  statement = lent.statement ++ drop n.statement t.statement;
  done = lent.done ++ drop n.done t.done;
  sent = lent.sent ++ drop n.sent t.sent;
}

-- A buffer is lent shorter than its table: condition 20.
unfoldable pub lends_short : JobTables → Request → Bool
lends_short f r = job_short f r.job || bags_short f r.job || state_short f r.state || totals_short (evening_of f) r.state

module _ (f : JobTables) where
  -- The answer to a request: the step's, on the tables as lent.
  unfoldable pub answer_to : StateTables → Request → StepAnswer
  answer_to t r = (stepped (lent_job f r.job) (lent_state t r.state) r.asked).answer

  -- The host's tables after a request: the step's, put back.
  unfoldable pub serve : StateTables → Request → StateTables
  serve t r = returned t r.state (stepped (lent_job f r.job) (lent_state t r.state) r.asked).tables

  -- The host's tables after a list of requests: each later one finds the state as the one before left it.
  unfoldable pub serve_all : StateTables → List Request → StateTables
  serve_all t [] = t
  serve_all t (r ∷ rs) = serve_all (serve t r) rs

  -- The steps of the requests that were accepted, in order.
  unfoldable pub accepted_from : StateTables → List Request → List Step
  accepted_from t [] = []
  accepted_from t (r ∷ rs) =
      cond (is_accepted (answer_to t r)) (step_of r.asked ∷ accepted_from (serve t r) rs) (accepted_from (serve t r) rs)

  -- The answers to the requests of a list, in order.
  unfoldable pub answers_from : StateTables → List Request → List StepAnswer
  answers_from t [] = []
  answers_from t (r ∷ rs) = answer_to t r ∷ answers_from (serve t r) rs

  -- The tables that a list of requests leaves. The first is lent a fresh state of the job, whatever the buffers t held before.
  unfoldable pub tables_after : StateTables → List Request → StateTables
  tables_after t rs = serve_all (fresh_tables f t) rs

  -- The answers to the list.
  unfoldable pub answers_in : StateTables → List Request → List StepAnswer
  answers_in t rs = answers_from (fresh_tables f t) rs

  -- The steps accepted in a list.
  unfoldable pub accepted_in : StateTables → List Request → List Step
  accepted_in t rs = accepted_from (fresh_tables f t) rs

  -- A step, a kind with its boxes, is done once a request for it in the list was accepted.
  unfoldable pub done_in : StateTables → List Request → Steps
  done_in t rs = done_by (accepted_in t rs)
