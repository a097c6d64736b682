-- 02 §12, "What a box can learn of prices": nothing of an offer that it neither owns nor holds a standing tally of.
use Rattle.std.specs.Prelude.{◌≡◌, Bool, true, false, cond, ◌&&◌, List, [], ◌∷◌, map, ℕ, suc, ◌+◌, ◌*◌, ◌<◌, eqb, ℤ, pos, get_or}
use Rattle.laws.specs.Below.{ascending}
use Rattle.recount.specs.Recount.{stands}
use Rattle.model.specs.Job.{Job, price_word, total_word}
use Rattle.model.specs.Steps.{Kind, send_prices, multiply_own, receive_prices, send_totals, add_own, receive_totals, Step, State}
use Rattle.model.specs.Words.{words_of}
use Rattle.model.specs.PackedTotals.{has_total, total_place}
use Rattle.model.specs.Tables.{JobTables, StateTables, counted_of, evening_of, view}
use Rattle.model.specs.Step.{step_of, is_accepted, fresh_tables}
use Rattle.model.specs.Requests.{Request, answer_to, serve, tables_after, answers_in, accepted_in, done_in}

-- "Let two accepted jobs differ only in prices, on any list, of offers that box b neither owns nor holds a standing tally of."
-- Words past the needed length may differ too.
pub record OtherPrices (b : ℕ) (f f' : JobTables) : Type 0 where
  -- K, M, N, T and the number of additional lists are equal,
  pub boxes : f'.boxes ≡ f.boxes
  pub grocers : f'.grocers ≡ f.grocers
  pub offers : f'.offers ≡ f.offers
  pub tallies : f'.tallies ≡ f.tallies
  pub lists : f'.lists ≡ f.lists
  -- and so is every word that is no price.
  pub offer_owner : (o : ℕ) → o < f.offers → get_or f'.offer_owner o 0 ≡ get_or f.offer_owner o 0
  pub grocer_owner : (g : ℕ) → g < f.grocers → get_or f'.grocer_owner g 0 ≡ get_or f.grocer_owner g 0
  pub tally_grocer : (t : ℕ) → t < f.tallies → get_or f'.tally_grocer t 0 ≡ get_or f.tally_grocer t 0
  pub tally_box : (t : ℕ) → t < f.tallies → get_or f'.tally_box t 0 ≡ get_or f.tally_box t 0
  pub tally_offer : (t : ℕ) → t < f.tallies → get_or f'.tally_offer t 0 ≡ get_or f.tally_offer t 0
  pub tally_count : (t : ℕ) → t < f.tallies → get_or f'.tally_count t (pos 0) ≡ get_or f.tally_count t (pos 0)
  pub tally_bag : (t : ℕ) → t < f.tallies → get_or f'.tally_bag t 0 ≡ get_or f.tally_bag t 0
  pub tally_revision : (t : ℕ) → t < f.tallies → get_or f'.tally_revision t 0 ≡ get_or f.tally_revision t 0
  -- The price of an offer that box b owns is equal on every list q,
  pub own_price : (q o : ℕ) → q < suc f.lists → o < f.offers → get_or f.offer_owner o 0 ≡ b →
      get_or f'.price (q * f.offers + o) 0 ≡ get_or f.price (q * f.offers + o) 0
  -- and so is that of the offer of a standing tally that it holds.
  pub held_price : (q t : ℕ) → q < suc f.lists → t < f.tallies → stands (counted_of f) t ≡ true → get_or f.tally_box t 0 ≡ b →
      get_or f'.price (q * f.offers + get_or f.tally_offer t 0) 0 ≡ get_or f.price (q * f.offers + get_or f.tally_offer t 0) 0

-- A message: the step that sends it, and its words, ascending, an entry's lists side by side.
pub record Message : Type 0 where
  pub step : Step
  pub prices : List ℕ
  pub totals : List ℤ

-- A message of the job j as it leaves its box: s is the state right after the step that sends it.
module _ (j : Job) (s : State) where
  -- The prices of a step 1, in transit to the second box: those of the first box's offers that the second needs.
  unfoldable pub prices_of : Kind → ℕ → ℕ → List ℕ
  prices_of send_prices a b = map (s.price_transit b) (ascending j.offers (price_word j a b))
  prices_of multiply_own a b = []
  prices_of receive_prices a b = []
  prices_of send_totals a b = []
  prices_of add_own a b = []
  prices_of receive_totals a b = []

  -- The totals of a step 4, in transit from the first box: those of the second box's grocers for which the first holds a tally.
  unfoldable pub totals_of : Kind → ℕ → ℕ → List ℤ
  totals_of send_prices a b = []
  totals_of multiply_own a b = []
  totals_of receive_prices a b = []
  totals_of send_totals a b = map (s.total_transit a) (ascending j.grocers (total_word j a b))
  totals_of add_own a b = []
  totals_of receive_totals a b = []

  -- The message of a step.
  unfoldable pub message_of : Step → Message
  message_of x = record { step = x; prices = prices_of x.kind x.first x.second; totals = totals_of x.kind x.first x.second }

-- Steps 1 and 4 send a message.
unfoldable pub sends : Kind → Bool
sends send_prices = true
sends multiply_own = false
sends receive_prices = false
sends send_totals = true
sends add_own = false
sends receive_totals = false

module _ (f : JobTables) (b : ℕ) where
  -- The messages that box b sends in a list of requests, in order: one for each of its steps 1 and 4 that is accepted.
  unfoldable pub messages_from : StateTables → List Request → List Message
  messages_from t [] = []
  messages_from t (r ∷ rs) =
      let x = step_of r.asked in
      cond (is_accepted (answer_to f t r) && (eqb x.first b && sends x.kind))
      (message_of (evening_of f) (view (evening_of f) (serve f t r)) x ∷ messages_from (serve f t r) rs) (messages_from (serve f t r) rs)

  -- Those of a list that begins fresh.
  unfoldable pub messages_in : StateTables → List Request → List Message
  messages_in t rs = messages_from (fresh_tables f t) rs

-- What box b can learn of prices from a list of requests: the same in both jobs. Fresh states are written into the buffers t and t', which need
-- not be alike; the same requests rs are made of both; state and state' are what the tables then hold, which `LearnsNothing` below fills in.
-- Requests may lend short and may be refused. The beginning of a list is a list, so all this holds at each moment.
pub record Alike (b : ℕ) (f f' : JobTables) (t t' : StateTables) (rs : List Request) (state state' : State) : Type 0 where
  -- "Every answer and refusal ... is equal in both", to each request of the list and to any one more:
  pub answers : answers_in f' t' rs ≡ answers_in f t rs
  pub next_answer : (r : Request) → answer_to f' (tables_after f' t' rs) r ≡ answer_to f (tables_after f t rs) r
  -- the same steps are accepted,
  pub accepted : accepted_in f' t' rs ≡ accepted_in f t rs
  -- "and every word count": of the words sent so far, and of each box's message to each other.
  pub words_sent : state'.sent ≡ state.sent
  pub words_of_step : (k : Kind) (a c : ℕ) → words_of (evening_of f') k a c ≡ words_of (evening_of f) k a c
  -- "And so are b's known prices,
  pub known : (o : ℕ) → state'.known b o ≡ state.known b o
  -- its working totals", which lie at the same places of the packed table,
  pub working : (g : ℕ) → state'.working b g ≡ state.working b g
  pub has_totals : (g : ℕ) → has_total (evening_of f') b g ≡ has_total (evening_of f) b g
  pub places : (g : ℕ) → total_place (evening_of f') b g ≡ total_place (evening_of f) b g
  -- "and the messages it sends": each with its step and all its words,
  pub messages : messages_in f' b t' rs ≡ messages_in f b t rs
  -- and what of them is still on its way: prices of its offers to whatever box, and its totals.
  pub prices_on_way : (c o : ℕ) → (evening_of f).offer_owner o ≡ b → state'.price_transit c o ≡ state.price_transit c o
  pub totals_on_way : (g : ℕ) → state'.total_transit b g ≡ state.total_transit b g
  -- "Its statements are equal until it first receives totals."
  pub statements : ((a : ℕ) → done_in f t rs receive_totals b a ≡ false) → (g : ℕ) → (evening_of f).grocer_owner g ≡ b → state'.statement g ≡ state.statement g

-- Box b learns nothing that differs: the same, of the states that the lists leave.
abbrev pub LearnsNothing : ℕ → JobTables → JobTables → StateTables → StateTables → List Request → Type 0
LearnsNothing b f f' t t' rs = Alike b f f' t t' rs (view (evening_of f) (tables_after f t rs)) (view (evening_of f') (tables_after f' t' rs))
