-- The steps of a forecast: which it has, when each is ready, and what each does to the state.
use Rattle.std.specs.Prelude.{Bool, true, false, cond, ◌&&◌, ◌||◌, not, List, [], ◌∷◌, ℕ, zero, suc, ◌+◌, eqb, ltb, Float}
use Rattle.laws.specs.Below.{all, count}
use Rattle.model.specs.Job.{shares, price_word, total_word, prices_due, totals_due}
use Rattle.forecast_rules.specs.Doubles.{zero+, add_up}
use Rattle.forecast_rules.specs.Lines.{Forecast, offer_value, part_at}

-- The six kinds of a forecast's steps.
pub data Kind : Type 0 where
  send_values receive_values add_lines send_parts receive_parts sum_own : Kind

-- The number of a kind, 1 to 6.
unfoldable pub kind_number : Kind → ℕ
kind_number send_values = 1
kind_number receive_values = 2
kind_number add_lines = 3
kind_number send_parts = 4
kind_number receive_parts = 5
kind_number sum_own = 6

-- The kind of a number from 1 to 6. Other numbers are refused with 22 before the kind matters.
unfoldable pub kind_of : ℕ → Kind
kind_of zero = send_values
kind_of (suc zero) = send_values
kind_of (suc (suc zero)) = receive_values
kind_of (suc (suc (suc zero))) = add_lines
kind_of (suc (suc (suc (suc zero)))) = send_parts
kind_of (suc (suc (suc (suc (suc zero))))) = receive_parts
kind_of (suc (suc (suc (suc (suc (suc n)))))) = sum_own

-- A step: a kind with its boxes. The first box acts.
pub record Step : Type 0 where
  pub kind : Kind
  pub first : ℕ
  pub second : ℕ

-- A set of steps: kind, first box, second box.
abbrev pub Steps : Type 0
Steps = Kind → ℕ → ℕ → Bool

-- The set d with one step more.
unfoldable pub mark : Steps → Kind → ℕ → ℕ → Steps
unfolding kind_number
mark d k a b = λ k' a' b'. eqb (kind_number k') (kind_number k) && (eqb a' a && eqb b' b) || d k' a' b'

-- The steps of a list, as a set.
unfoldable pub done_by : List Step → Steps
done_by [] = λ k a b. false
done_by (x ∷ xs) = mark (done_by xs) x.kind x.first x.second

-- What the tables of a state hold, in full rows. Words in transit stand with the box that is not their owner, and so do part sums that have arrived:
-- they are held by sender until step 6.
pub record State : Type 0 where
  pub known : ℕ → ℕ → Float  -- box, offer: the value as the box knows it
  pub value_transit : ℕ → ℕ → Float  -- receiving box, offer: sent by the offer's owner
  pub part : ℕ → ℕ → Float  -- box, grocer: the box's own part sums
  pub part_transit : ℕ → ℕ → Float  -- sending box, grocer: on the way to the grocer's owner
  pub held : ℕ → ℕ → Float  -- sending box, grocer: arrived at the grocer's owner
  pub forecast : ℕ → Float  -- grocer
  pub done : Steps
  pub sent : ℕ  -- words sent

-- In 3 and 6 both boxes are equal. The others have two.
unfoldable pub one_box : Kind → Bool
one_box send_values = false
one_box receive_values = false
one_box add_lines = true
one_box send_parts = false
one_box receive_parts = false
one_box sum_own = true

module _ (f : Forecast) where
  -- Message steps exist only for nonempty lists, as for money; steps 3 and 6 exist for every box.
  unfoldable pub fits : Steps
  fits send_values a b = prices_due f.job a b
  fits receive_values a b = prices_due f.job b a
  fits add_lines a b = eqb a b
  fits send_parts a b = totals_due f.job a b
  fits receive_parts a b = totals_due f.job b a
  fits sum_own a b = eqb a b

  -- The steps the forecast has. Due steps are those.
  unfoldable pub has_step : Steps
  has_step k a b = ltb a f.job.boxes && (ltb b f.job.boxes && fits k a b)

  -- Every due step of kind k of box a is done.
  unfoldable pub all_due : Steps → Kind → ℕ → Bool
  all_due d k a = all f.job.boxes (λ c. not (has_step k a c) || d k a c)

  -- The steps done make this one ready: 1 from the start, 2 and 5 once sent, 3 once every due 2 is done, 4 after 3, 6 after its own 3 and every due 5.
  unfoldable pub ready : Steps → Steps
  ready d send_values a b = true
  ready d receive_values a b = d send_values b a
  ready d add_lines a b = all_due d receive_values a
  ready d send_parts a b = d add_lines a a
  ready d receive_parts a b = d send_parts b a
  ready d sum_own a b = d add_lines a a && all_due d receive_parts a

  -- A step is permitted when the forecast has it, it is not done and the steps done make it ready.
  unfoldable pub permitted : Steps → Steps
  permitted d k a b = has_step k a b && (not (d k a b) && ready d k a b)

  -- A fresh state has own values known, all else 0.
  unfoldable pub fresh : State
  fresh = record {
    known = λ b o. cond (eqb (f.job.offer_owner o) b) (offer_value f o) zero+;
    value_transit = λ b o. zero+;
    part = λ b g. zero+;
    part_transit = λ b g. zero+;
    held = λ b g. zero+;
    forecast = λ g. zero+;
    done = λ k a b. false;
    sent = 0;
  }

  -- Box c's part sum of grocer g where its owner, box a, has it: its own among its part sums, those of others held.
  unfoldable pub part_here : State → ℕ → ℕ → ℕ → Float
  part_here s a g c = cond (eqb c a) (s.part c g) (s.held c g)

  -- Box c has a line for grocer g of box a, so that its part sum is summed in step 6 of a.
  unfoldable pub summed : ℕ → ℕ → ℕ → Bool
  summed a g c = eqb (f.job.grocer_owner g) a && shares f.job g c

  -- What a step does. Every step uses the values its state holds as known, not the lines'.
  unfoldable pub effect : State → Kind → ℕ → ℕ → State
  -- 1 Send values: those of its offers the second box needs.
  effect s send_values a b = record {
    known = s.known;
    value_transit = λ c o. cond (eqb c b && price_word f.job a b o) (s.known a o) (s.value_transit c o);
    part = s.part;
    part_transit = s.part_transit;
    held = s.held;
    forecast = s.forecast;
    done = mark s.done send_values a b;
    sent = s.sent + count f.job.offers (price_word f.job a b);
  }
  -- 2 Receive values. A word taken from transit becomes +0.0.
  effect s receive_values a b = record {
    known = λ c o. cond (eqb c a && price_word f.job b a o) (s.value_transit a o) (s.known c o);
    value_transit = λ c o. cond (eqb c a && price_word f.job b a o) zero+ (s.value_transit c o);
    part = s.part;
    part_transit = s.part_transit;
    held = s.held;
    forecast = s.forecast;
    done = mark s.done receive_values a b;
    sent = s.sent;
  }
  -- 3 Add up the box's lines, for each grocer from +0.0, at the values the box knows. What its part sums were before does not count.
  effect s add_lines a b = record {
    known = s.known;
    value_transit = s.value_transit;
    part = λ c g. cond (eqb c a) (part_at f (s.known a) a g) (s.part c g);
    part_transit = s.part_transit;
    held = s.held;
    forecast = s.forecast;
    done = mark s.done add_lines a b;
    sent = s.sent;
  }
  -- 4 Send part sums of the second box's grocers for which it has a line. A sent part sum becomes +0.0.
  effect s send_parts a b = record {
    known = s.known;
    value_transit = s.value_transit;
    part = λ c g. cond (eqb c a && total_word f.job a b g) zero+ (s.part c g);
    part_transit = λ c g. cond (eqb c a && total_word f.job a b g) (s.part a g) (s.part_transit c g);
    held = s.held;
    forecast = s.forecast;
    done = mark s.done send_parts a b;
    sent = s.sent + count f.job.grocers (total_word f.job a b);
  }
  -- 5 Receive part sums: they are held by sender. A word taken from transit becomes +0.0.
  effect s receive_parts a b = record {
    known = s.known;
    value_transit = s.value_transit;
    part = s.part;
    part_transit = λ c g. cond (eqb c b && total_word f.job b a g) zero+ (s.part_transit c g);
    held = λ c g. cond (eqb c b && total_word f.job b a g) (s.part_transit b g) (s.held c g);
    forecast = s.forecast;
    done = mark s.done receive_parts a b;
    sent = s.sent;
  }
  -- 6 Sum the owner's grocers: for each the boxes that have a line, itself included, from +0.0 in ascending box number. A part summed becomes +0.0.
  effect s sum_own a b = record {
    known = s.known;
    value_transit = s.value_transit;
    part = λ c g. cond (eqb c a && summed a g c) zero+ (s.part c g);
    part_transit = s.part_transit;
    held = λ c g. cond (not (eqb c a) && summed a g c) zero+ (s.held c g);
    forecast = λ g. cond (eqb (f.job.grocer_owner g) a) (add_up f.job.boxes (shares f.job g) (part_here s a g)) (s.forecast g);
    done = mark s.done sum_own a b;
    sent = s.sent;
  }

  -- The effect of a step.
  abbrev pub effect_of : State → Step → State
  effect_of s x = effect s x.kind x.first x.second
