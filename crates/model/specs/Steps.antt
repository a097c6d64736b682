-- The steps: which a job has, when each is ready, and what each does to the state.
use Rattle.std.specs.Prelude.{List, [], ◌∷◌, map, Bool, true, false, cond, ◌&&◌, ◌||◌, not, ℕ, zero, suc, ◌+◌, ◌-◌, ◌*◌, ◌/◌, ◌%◌, eqb, ltb, ℤ, pos, ◌+ℤ◌}
use Rattle.laws.specs.Below.{sum, only, integers, all, count, ascending}
use Rattle.model.specs.Job.{Job, held_by, price_word, total_word, prices_due, totals_due, amount}

-- The six kinds of step. Multiplying is 01's sweep: count × price of tallies, added into working totals.
pub data Kind : Type 0 where
  send_prices multiply_own receive_prices send_totals add_own receive_totals : Kind

-- The number of a kind, 1 to 6.
unfoldable pub kind_number : Kind → ℕ
kind_number send_prices = 1
kind_number multiply_own = 2
kind_number receive_prices = 3
kind_number send_totals = 4
kind_number add_own = 5
kind_number receive_totals = 6

-- The kind of a number from 1 to 6. Other numbers are refused with 22 before the kind matters.
unfoldable pub kind_of : ℕ → Kind
kind_of zero = send_prices
kind_of (suc zero) = send_prices
kind_of (suc (suc zero)) = multiply_own
kind_of (suc (suc (suc zero))) = receive_prices
kind_of (suc (suc (suc (suc zero)))) = send_totals
kind_of (suc (suc (suc (suc (suc zero))))) = add_own
kind_of (suc (suc (suc (suc (suc (suc n)))))) = receive_totals

-- A step: a kind with its boxes. The first box acts.
pub record Step : Type 0 where
  pub kind : Kind
  pub first : ℕ
  pub second : ℕ

-- Where k boxes have a table of marks, each kind with each two boxes has its place in it: by kind, first box, second box.
abbrev pub step_place : ℕ → ℕ → ℕ → ℕ → ℕ
step_place k kind a b = ((kind - 1) * k + a) * k + b

-- The number of these places.
abbrev pub places : ℕ → ℕ
places k = 6 * k * k

-- The step at place i.
unfoldable pub step_at : ℕ → ℕ → Step
step_at k i = record { kind = kind_of (suc (i / k / k)); first = i / k % k; second = i % k }

-- A set of steps: kind, first box, second box.
abbrev pub Steps : Type 0
Steps = Kind → ℕ → ℕ → Bool

-- The set d with one step more.
unfoldable pub mark : Steps → Kind → ℕ → ℕ → Steps
unfolding kind_number
mark d k a b = λ k' a' b'. eqb (kind_number k') (kind_number k) && (eqb a' a && eqb b' b) || d k' a' b'

-- The step at place i is in the set d.
abbrev pub at_place : ℕ → Steps → ℕ → Bool
at_place k d i = d (step_at k i).kind (step_at k i).first (step_at k i).second

-- The steps of a set as a list, in the order of their places.
unfoldable pub list_of : ℕ → Steps → List Step
list_of k d = map (step_at k) (ascending (places k) (at_place k d))

-- The steps of a list, as a set.
unfoldable pub done_by : List Step → Steps
done_by [] = λ k a b. false
done_by (x ∷ xs) = mark (done_by xs) x.kind x.first x.second

-- What the tables of a state hold. Words in transit stand with the box that is not their owner.
pub record State : Type 0 where
  pub known : ℕ → ℕ → ℕ  -- box, offer: the price as the box knows it
  pub price_transit : ℕ → ℕ → ℕ  -- receiving box, offer: sent by the offer's owner
  pub working : ℕ → ℕ → ℤ  -- box, grocer
  pub total_transit : ℕ → ℕ → ℤ  -- sending box, grocer: on the way to the grocer's owner
  pub statement : ℕ → ℤ  -- grocer
  pub done : Steps
  pub sent : ℕ  -- words sent

-- Steps 2 and 5 have one box: their second equals their first. The others have two.
unfoldable pub one_box : Kind → Bool
one_box send_prices = false
one_box multiply_own = true
one_box receive_prices = false
one_box send_totals = false
one_box add_own = true
one_box receive_totals = false

module _ (j : Job) where
  -- Message steps exist only for nonempty lists; steps 2 and 5 exist for every box. In 3 and 6 the second box is the sender: there the boxes
  -- stand exchanged.
  unfoldable pub fits : Steps
  fits send_prices a b = prices_due j a b
  fits multiply_own a b = eqb a b
  fits receive_prices a b = prices_due j b a
  fits send_totals a b = totals_due j a b
  fits add_own a b = eqb a b
  fits receive_totals a b = totals_due j b a

  -- The steps the job has. Due steps are those.
  unfoldable pub has_step : Steps
  has_step k a b = ltb a j.boxes && (ltb b j.boxes && fits k a b)

  -- A tally is added once step 2 of its box, for an own offer, or else its step 3 from the offer's owner, is done.
  unfoldable pub added : Steps → ℕ → Bool
  added d t =
      cond (eqb (j.offer_owner (j.tally_offer t)) (j.tally_box t))
      (d multiply_own (j.tally_box t) (j.tally_box t))
      (d receive_prices (j.tally_box t) (j.offer_owner (j.tally_offer t)))

  -- Every standing tally that box a holds of box b's grocers has been added.
  unfoldable pub all_added : Steps → ℕ → ℕ → Bool
  all_added d a b = all j.tallies (λ t. not (held_by j t a && eqb (j.grocer_owner (j.tally_grocer t)) b) || added d t)

  -- The steps done make this one ready: 1 and 2 from the start; 3 and 6 once the second box has sent to the first, so that the boxes stand
  -- exchanged in the step asked for; 4 once every standing tally that the first box holds of the second box's grocers is added; 5 once
  -- this is so of its own grocers.
  unfoldable pub ready : Steps → Steps
  ready d send_prices a b = true
  ready d multiply_own a b = true
  ready d receive_prices a b = d send_prices b a
  ready d send_totals a b = all_added d a b
  ready d add_own a b = all_added d a a
  ready d receive_totals a b = d send_totals b a

  -- A step is permitted when the job has it, it is not done and the steps done make it ready.
  unfoldable pub permitted : Steps → Steps
  permitted d k a b = has_step k a b && (not (d k a b) && ready d k a b)

  -- A fresh state has own prices known, all else 0.
  unfoldable pub fresh : State
  fresh = record {
    known = λ b o. cond (eqb (j.offer_owner o) b) (j.price o) 0;
    price_transit = λ b o. 0;
    working = λ b g. pos 0;
    total_transit = λ b g. pos 0;
    statement = λ g. pos 0;
    done = λ k a b. false;
    sent = 0;
  }

  -- Count × price over the standing tallies of box a and grocer g whose offer passes p, at the prices that the box knows.
  unfoldable pub products : (ℕ → ℕ) → (ℕ → Bool) → ℕ → ℕ → ℤ
  products know p a g =
      sum integers j.tallies (λ t.
      only integers (held_by j t a && eqb (j.tally_grocer t) g && p (j.tally_offer t)) (amount j (know (j.tally_offer t)) t))

  -- What box c knows of offer o once box a has received the prices from box b.
  unfoldable pub received : State → ℕ → ℕ → ℕ → ℕ → ℕ
  received s a b c o = cond (eqb c a && price_word j b a o) (s.price_transit a o) (s.known c o)

  -- What a step does. Every step uses the prices its state holds as known, not the job's.
  unfoldable pub effect : State → Kind → ℕ → ℕ → State
  -- 1 Send prices: those of its offers the second box needs.
  effect s send_prices a b = record {
    known = s.known;
    price_transit = λ c o. cond (eqb c b && price_word j a b o) (s.known a o) (s.price_transit c o);
    working = s.working;
    total_transit = s.total_transit;
    statement = s.statement;
    done = mark s.done send_prices a b;
    sent = s.sent + count j.offers (price_word j a b);
  }
  -- 2 Multiply own: add count × price for tallies of its own offers into its working totals.
  effect s multiply_own a b = record {
    known = s.known;
    price_transit = s.price_transit;
    working = λ c g. cond (eqb c a) (s.working a g +ℤ products (s.known a) (λ o. eqb (j.offer_owner o) a) a g) (s.working c g);
    total_transit = s.total_transit;
    statement = s.statement;
    done = mark s.done multiply_own a b;
    sent = s.sent;
  }
  -- 3 Receive prices from the second box, and add the tallies of those offers. Words in transit become 0 on receipt.
  effect s receive_prices a b = record {
    known = received s a b;
    price_transit = λ c o. cond (eqb c a && price_word j b a o) 0 (s.price_transit c o);
    working = λ c g. cond (eqb c a) (s.working a g +ℤ products (received s a b a) (price_word j b a) a g) (s.working c g);
    total_transit = s.total_transit;
    statement = s.statement;
    done = mark s.done receive_prices a b;
    sent = s.sent;
  }
  -- 4 Send totals of the second box's grocers for which it holds a tally; these working totals become 0.
  effect s send_totals a b = record {
    known = s.known;
    price_transit = s.price_transit;
    working = λ c g. cond (eqb c a && total_word j a b g) (pos 0) (s.working c g);
    total_transit = λ c g. cond (eqb c a && total_word j a b g) (s.working a g) (s.total_transit c g);
    statement = s.statement;
    done = mark s.done send_totals a b;
    sent = s.sent + count j.grocers (total_word j a b);
  }
  -- 5 Add own working totals to its own statements; they become 0.
  effect s add_own a b = record {
    known = s.known;
    price_transit = s.price_transit;
    working = λ c g. cond (eqb c a && eqb (j.grocer_owner g) a) (pos 0) (s.working c g);
    total_transit = s.total_transit;
    statement = λ g. cond (eqb (j.grocer_owner g) a) (s.statement g +ℤ s.working a g) (s.statement g);
    done = mark s.done add_own a b;
    sent = s.sent;
  }
  -- 6 Receive totals from the second box into its statements. Words in transit become 0 on receipt.
  effect s receive_totals a b = record {
    known = s.known;
    price_transit = s.price_transit;
    working = s.working;
    total_transit = λ c g. cond (eqb c b && total_word j b a g) (pos 0) (s.total_transit c g);
    statement = λ g. cond (total_word j b a g) (s.statement g +ℤ s.total_transit b g) (s.statement g);
    done = mark s.done receive_totals a b;
    sent = s.sent;
  }

  -- The effect of a step.
  abbrev pub effect_of : State → Step → State
  effect_of s x = effect s x.kind x.first x.second
