-- What every box holds after some steps, told from the steps alone: in whatever order they were done, the boxes hold this.
-- d is the set of the steps done: `d receive_prices b a` says that box b has received the prices from box a.
use Rattle.std.specs.Prelude.{◌≡◌, Bool, true, cond, ◌&&◌, ◌||◌, not, ℕ, ◌+◌, eqb, ℤ, pos}
use Rattle.laws.specs.Below.{naturals, integers, sum, only, count}
use Rattle.model.specs.Job.{held_by, Job, needs, price_word, total_word, amount}
use Rattle.model.specs.Steps.{Kind, send_prices, receive_prices, send_totals, add_own, receive_totals, Steps, State, has_step, added, ready}

module _ (j : Job) where
  -- Box b knows the price of offer o: it owns the offer; or it needs it and has received the prices from the owner.
  unfoldable pub knows : Steps → ℕ → ℕ → Bool
  knows d b o = eqb (j.offer_owner o) b || (needs j o b && d receive_prices b (j.offer_owner o))

  -- The price of offer o is on its way to box b, another box than the owner, that needs it: the owner has sent it, and b has not yet received it.
  unfoldable pub price_on_way : Steps → ℕ → ℕ → Bool
  price_on_way d b o = not (eqb (j.offer_owner o) b) && (needs j o b && (d send_prices (j.offer_owner o) b && not (d receive_prices b (j.offer_owner o))))

  -- Box b's total of grocer g has left its working totals: added to the statement where b owns the grocer, else sent to the owner.
  unfoldable pub gone : Steps → ℕ → ℕ → Bool
  gone d b g = cond (eqb (j.grocer_owner g) b) (d add_own b b) (d send_totals b (j.grocer_owner g))

  -- Box b's total of grocer g is in the statement: added where b owns the grocer, else received by the owner.
  unfoldable pub arrived : Steps → ℕ → ℕ → Bool
  arrived d b g = cond (eqb (j.grocer_owner g) b) (d add_own b b) (d receive_totals (j.grocer_owner g) b)

  -- Count × price over the tallies of grocer g that box b holds and that pass p.
  unfoldable pub part_of : (ℕ → Bool) → ℕ → ℕ → ℤ
  part_of p b g =
      sum integers j.tallies (λ t. only integers (held_by j t b && eqb (j.tally_grocer t) g && p t) (amount j (j.price (j.tally_offer t)) t))

  -- What box b has brought into the statement of grocer g: its whole part total once that has arrived, before nothing.
  unfoldable pub paid : Steps → ℕ → ℕ → ℤ
  paid d g b = only integers (arrived d b g) (part_of (λ t. true) b g)

  -- The words sent from box a to box b: the messages of prices and of totals that have gone.
  unfoldable pub sent_of : Steps → ℕ → ℕ → ℕ
  sent_of d a b =
      only naturals (d send_prices a b) (count j.offers (price_word j a b)) + only naturals (d send_totals a b) (count j.grocers (total_word j a b))

  -- What the boxes hold once the steps of d are done.
  unfoldable pub state_by_rules : Steps → State
  state_by_rules d = record {
    -- A box knows the job's price of an offer, or 0 while it does not know it.
    known = λ b o. cond (knows d b o) (j.price o) 0;
    -- In transit is the job's price while it is on its way, else 0.
    price_transit = λ b o. cond (price_on_way d b o) (j.price o) 0;
    -- A working total is count × price over the tallies added so far, and 0 once it has left.
    working = λ b g. cond (gone d b g) (pos 0) (part_of (added j d) b g);
    -- In transit is the whole part total from when it leaves until it arrives, else 0.
    total_transit = λ b g. cond (gone d b g && not (arrived d b g)) (part_of (λ t. true) b g) (pos 0);
    -- A statement is what the boxes have brought into it.
    statement = λ g. sum integers j.boxes (paid d g);
    -- The marks are the steps done.
    done = d;
    -- The words sent are those of all boxes.
    sent = sum naturals j.boxes (λ a. sum naturals j.boxes (sent_of d a));
  }

-- A set of steps that a list can have done: steps of the job, each made ready by others of the set.
pub record Closed (j : Job) (d : Steps) : Type 0 where
  pub steps : (k : Kind) (a b : ℕ) → d k a b ≡ true → has_step j k a b ≡ true
  pub in_order : (k : Kind) (a b : ℕ) → d k a b ≡ true → ready j d k a b ≡ true

-- A state that a list can leave: every box holds what the rules say of the steps marked, and a list can have done these.
pub record Sound (j : Job) (s : State) : Type 0 where
  pub form : s ≡ state_by_rules j s.done
  pub closed : Closed j s.done
