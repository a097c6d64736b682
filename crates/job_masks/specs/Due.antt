-- The steps that a job has, told from words of one bit for each box.
use Rattle.std.specs.Prelude.{Bool, List, ℕ, eqb}
use Rattle.model.specs.Steps.{Steps, send_prices, multiply_own, receive_prices, send_totals, add_own, receive_totals, at_place}
use Rattle.step_places.specs.Message.{reaches}

-- `receivers` has for each box those that need an offer of its, and `senders` those that hold a tally of a grocer of its.
-- Message steps exist only for nonempty lists; steps 2 and 5 exist for every box.
unfoldable pub due_by : List ℕ → List ℕ → Steps
due_by receivers senders send_prices a b = reaches receivers a b
due_by receivers senders multiply_own a b = eqb a b
due_by receivers senders receive_prices a b = reaches receivers b a
due_by receivers senders send_totals a b = reaches senders b a
due_by receivers senders add_own a b = eqb a b
due_by receivers senders receive_totals a b = reaches senders a b

-- The job has the step at place i, of k boxes.
abbrev pub due_at : ℕ → List ℕ → List ℕ → ℕ → Bool
due_at k receivers senders i = at_place k (due_by receivers senders) i
