-- What every box holds after some steps of a forecast, told from the steps alone: in whatever order they were done, the boxes hold this.
-- d is the set of the steps done: `d receive_values b a` says that box b has received the values from box a.
use Rattle.std.specs.Prelude.{◌≡◌, Bool, true, cond, ◌&&◌, ◌||◌, not, ℕ, ◌+◌, eqb}
use Rattle.laws.specs.Below.{naturals, sum, only, count}
use Rattle.model.specs.Job.{needs, price_word, total_word}
use Rattle.forecast_rules.specs.Doubles.{zero+}
use Rattle.forecast_rules.specs.Lines.{Forecast, offer_value, part_sum, forecast_sum}
use Rattle.forecast_rules.specs.Steps.{Kind, send_values, receive_values, add_lines, send_parts, receive_parts, sum_own, Steps, State, has_step, ready}

module _ (f : Forecast) where
  -- Box b knows the value of offer o: it owns the offer; or it needs it and has received the values from the owner.
  unfoldable pub knows : Steps → ℕ → ℕ → Bool
  knows d b o = eqb (f.job.offer_owner o) b || (needs f.job o b && d receive_values b (f.job.offer_owner o))

  -- The value of offer o is on its way to box b, another box than the owner, that needs it.
  unfoldable pub value_on_way : Steps → ℕ → ℕ → Bool
  value_on_way d b o =
      not (eqb (f.job.offer_owner o) b)
      && (needs f.job o b && (d send_values (f.job.offer_owner o) b && not (d receive_values b (f.job.offer_owner o))))

  -- Box b's part sum of grocer g has left its part sums: summed where b owns the grocer, else sent to the owner.
  unfoldable pub gone : Steps → ℕ → ℕ → Bool
  gone d b g = cond (eqb (f.job.grocer_owner g) b) (d sum_own b b) (d send_parts b (f.job.grocer_owner g))

  -- Box b's part sum of grocer g is on its way to the grocer's owner, another box.
  unfoldable pub part_on_way : Steps → ℕ → ℕ → Bool
  part_on_way d b g =
      not (eqb (f.job.grocer_owner g) b) && (d send_parts b (f.job.grocer_owner g) && not (d receive_parts (f.job.grocer_owner g) b))

  -- It has arrived there and is not yet summed.
  unfoldable pub part_held : Steps → ℕ → ℕ → Bool
  part_held d b g =
      not (eqb (f.job.grocer_owner g) b)
      && (d receive_parts (f.job.grocer_owner g) b && not (d sum_own (f.job.grocer_owner g) (f.job.grocer_owner g)))

  -- The words sent from box a to box b: the messages of values and of part sums that have gone.
  unfoldable pub sent_of : Steps → ℕ → ℕ → ℕ
  sent_of d a b =
      only naturals (d send_values a b) (count f.job.offers (price_word f.job a b))
      + only naturals (d send_parts a b) (count f.job.grocers (total_word f.job a b))

  -- What the boxes hold once the steps of d are done.
  unfoldable pub state_by_rules : Steps → State
  state_by_rules d = record {
    -- A box knows the value of an offer, or +0.0 while it does not know it.
    known = λ b o. cond (knows d b o) (offer_value f o) zero+;
    value_transit = λ b o. cond (value_on_way d b o) (offer_value f o) zero+;
    -- A part sum is there once the box has added up its lines, and until it has left.
    part = λ b g. cond (d add_lines b b && not (gone d b g)) (part_sum f b g) zero+;
    part_transit = λ b g. cond (part_on_way d b g) (part_sum f b g) zero+;
    held = λ b g. cond (part_held d b g) (part_sum f b g) zero+;
    -- The forecast is there once its owner has summed.
    forecast = λ g. cond (d sum_own (f.job.grocer_owner g) (f.job.grocer_owner g)) (forecast_sum f g) zero+;
    done = d;
    sent = sum naturals f.job.boxes (λ a. sum naturals f.job.boxes (sent_of d a));
  }

-- A set of steps that a list can have done: steps of the forecast, each made ready by others of the set.
pub record Closed (f : Forecast) (d : Steps) : Type 0 where
  pub steps : (k : Kind) (a b : ℕ) → d k a b ≡ true → has_step f k a b ≡ true
  pub in_order : (k : Kind) (a b : ℕ) → d k a b ≡ true → ready f d k a b ≡ true

-- A state that a list can leave: every box holds what the rules say of the steps marked, and a list can have done these.
pub record Sound (f : Forecast) (s : State) : Type 0 where
  pub form : s ≡ state_by_rules f s.done
  pub closed : Closed f s.done
