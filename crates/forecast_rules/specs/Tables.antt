-- The tables of a forecast as they are lent, what they hold, and how long each must be.
use Rattle.std.specs.Prelude.{List, [], ◌∷◌, Bool, ◌||◌, ℕ, ◌*◌, length, ltb, pos, Float}
use Rattle.laws.specs.Tables.{overwrite, word, cell, recell}
use Rattle.laws.specs.Checks.{any_of}
use Rattle.model.specs.Tables.{steps_done, marks_of}
use Rattle.forecast_rules.specs.Doubles.{zero+}
use Rattle.forecast_rules.specs.Lines.{Forecast}
use Rattle.forecast_rules.specs.Steps.{kind_number, kind_of, Steps, State}
use Rattle.model.specs.Steps as Money

-- The forecast's tables: K, M, N and the number of lines as given, and seven lent slices. A forecast is lent no tallies.
pub record ForecastTables : Type 0 where
  pub boxes : ℕ
  pub grocers : ℕ
  pub offers : ℕ
  pub lines : ℕ
  pub offer_owner : List ℕ  -- N words
  pub grocer_owner : List ℕ  -- M
  pub line_grocer : List ℕ  -- one for each line, as those below
  pub line_offer : List ℕ
  pub line_box : List ℕ
  pub line_rate : List Float
  pub line_value : List Float

-- The forecast's tables, as a contract names them.
abbrev pub forecast_tables : ℕ → ℕ → ℕ → ℕ → List ℕ → List ℕ → List ℕ → List ℕ → List ℕ → List Float → List Float → ForecastTables
forecast_tables k m n l offer_owner grocer_owner line_grocer line_offer line_box line_rate line_value = record {
  boxes = k;
  grocers = m;
  offers = n;
  lines = l;
  offer_owner = offer_owner;
  grocer_owner = grocer_owner;
  line_grocer = line_grocer;
  line_offer = line_offer;
  line_box = line_box;
  line_rate = line_rate;
  line_value = line_value;
}

-- The forecast that the tables hold. Words past the needed length are not read.
unfoldable pub forecast_of : ForecastTables → Forecast
forecast_of f = record {
  job = record {
    boxes = f.boxes;
    grocers = f.grocers;
    offers = f.offers;
    tallies = f.lines;
    price = λ o. 0;
    offer_owner = word f.offers f.offer_owner 0;
    grocer_owner = word f.grocers f.grocer_owner 0;
    tally_grocer = word f.lines f.line_grocer 0;
    tally_box = word f.lines f.line_box 0;
    tally_offer = word f.lines f.line_offer 0;
    tally_count = λ i. pos 0;
  };
  rate = word f.lines f.line_rate zero+;
  value = word f.lines f.line_value zero+;
}

-- The state's tables: eight lent slices.
pub record StateTables : Type 0 where
  pub known : List Float  -- K × N words, by box
  pub value_transit : List Float  -- K × N, by receiving box
  pub part : List Float  -- K × M, by box
  pub part_transit : List Float  -- K × M, by sending box
  pub held : List Float  -- K × M, by sending box
  pub forecast : List Float  -- M
  pub done : List ℕ  -- 6 × K × K marks, by kind, first box and second box
  pub sent : List ℕ  -- 1

-- The state's tables, as a contract names them.
abbrev pub state_tables : List Float → List Float → List Float → List Float → List Float → List Float → List ℕ → List ℕ → StateTables
state_tables known value_transit part part_transit held forecast done sent = record {
  known = known;
  value_transit = value_transit;
  part = part;
  part_transit = part_transit;
  held = held;
  forecast = forecast;
  done = done;
  sent = sent;
}

-- Marks work as for money: a step's mark stands where money has that of the step with the same numbers. The steps that marks say are done,
unfoldable pub from_marks : ℕ → List ℕ → Steps
from_marks k marks = λ q a b. steps_done k marks (Money.kind_of (kind_number q)) a b

-- and the steps of d marked, and all others not.
unfoldable pub to_marks : ℕ → Steps → List ℕ → List ℕ
to_marks k d marks = marks_of k (λ q a b. d (kind_of (Money.kind_number q)) a b) marks

module _ (f : Forecast) where
  -- The state that the tables hold.
  unfoldable pub view : StateTables → State
  view t = record {
    known = cell f.job.boxes f.job.offers t.known zero+;
    value_transit = cell f.job.boxes f.job.offers t.value_transit zero+;
    part = cell f.job.boxes f.job.grocers t.part zero+;
    part_transit = cell f.job.boxes f.job.grocers t.part_transit zero+;
    held = cell f.job.boxes f.job.grocers t.held zero+;
    forecast = word f.job.grocers t.forecast zero+;
    done = from_marks f.job.boxes t.done;
    sent = word 1 t.sent 0 0;
  }

  -- The tables t with the state s written into them. Words past the needed length are not touched.
  unfoldable pub store : State → StateTables → StateTables
  store s t = record {
    known = recell f.job.boxes f.job.offers s.known t.known;
    value_transit = recell f.job.boxes f.job.offers s.value_transit t.value_transit;
    part = recell f.job.boxes f.job.grocers s.part t.part;
    part_transit = recell f.job.boxes f.job.grocers s.part_transit t.part_transit;
    held = recell f.job.boxes f.job.grocers s.held t.held;
    forecast = overwrite f.job.grocers s.forecast t.forecast;
    done = to_marks f.job.boxes s.done t.done;
    sent = overwrite 1 (λ i. s.sent) t.sent;
  }

-- How many words of each of the forecast's tables are lent.
pub record ForecastLengths : Type 0 where
  pub offer_owner : ℕ
  pub grocer_owner : ℕ
  pub line_grocer : ℕ
  pub line_offer : ℕ
  pub line_box : ℕ
  pub line_rate : ℕ
  pub line_value : ℕ

-- How many words of each of the state's tables are lent.
pub record StateLengths : Type 0 where
  pub known : ℕ
  pub value_transit : ℕ
  pub part : ℕ
  pub part_transit : ℕ
  pub held : ℕ
  pub forecast : ℕ
  pub done : ℕ
  pub sent : ℕ

-- The lengths of the forecast's tables as they are lent.
unfoldable pub forecast_lengths : ForecastTables → ForecastLengths
forecast_lengths f = record {
  offer_owner = length f.offer_owner;
  grocer_owner = length f.grocer_owner;
  line_grocer = length f.line_grocer;
  line_offer = length f.line_offer;
  line_box = length f.line_box;
  line_rate = length f.line_rate;
  line_value = length f.line_value;
}

-- The lengths of the state's tables as they are lent.
unfoldable pub state_lengths : StateTables → StateLengths
state_lengths t = record {
  known = length t.known;
  value_transit = length t.value_transit;
  part = length t.part;
  part_transit = length t.part_transit;
  held = length t.held;
  forecast = length t.forecast;
  done = length t.done;
  sent = length t.sent;
}

-- 20 on the forecast's tables: a lent buffer shorter than M, N and the number of lines as given need.
unfoldable pub forecast_short : ForecastTables → ForecastLengths → Bool
forecast_short f n =
    any_of (
    ltb n.offer_owner f.offers
    ∷ ltb n.grocer_owner f.grocers
    ∷ ltb n.line_grocer f.lines
    ∷ ltb n.line_offer f.lines
    ∷ ltb n.line_box f.lines
    ∷ ltb n.line_rate f.lines
    ∷ ltb n.line_value f.lines
    ∷ [])

-- 20 on the state's tables: a lent buffer shorter than K, M and N as given need.
unfoldable pub state_short : ForecastTables → StateLengths → Bool
state_short f n =
    any_of (
    ltb n.known (f.boxes * f.offers)
    ∷ ltb n.value_transit (f.boxes * f.offers)
    ∷ ltb n.part (f.boxes * f.grocers)
    ∷ ltb n.part_transit (f.boxes * f.grocers)
    ∷ ltb n.held (f.boxes * f.grocers)
    ∷ ltb n.forecast f.grocers
    ∷ ltb n.done (6 * f.boxes * f.boxes)
    ∷ ltb n.sent 1
    ∷ [])

-- 20: one of the fifteen tables is lent short.
unfoldable pub lent_short : ForecastTables → StateTables → Bool
lent_short f t = forecast_short f (forecast_lengths f) || state_short f (state_lengths t)
