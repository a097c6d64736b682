-- The conditions 22 to 26 of a request, told from words of receivers and senders and the set of steps done.
-- `receivers` has for each box those that need an offer of its, and `senders` those that have a line for a grocer of its.
use Rattle.std.specs.Prelude.{List, [], ◌∷◌, Bool, true, cond, ◌&&◌, ◌||◌, not, ℕ, eqb, ltb}
use Rattle.laws.specs.Below.{all}
use Rattle.model.specs.Step.{Asked, is_kind}
use Rattle.step_places.specs.Message.{reaches}
use Rattle.forecast_rules.specs.Steps.{Kind, send_values, receive_values, add_lines, send_parts, receive_parts, sum_own, kind_of, Steps, one_box}

-- The boxes are equal, or differ, as the kind asks.
unfoldable pub boxes_asked : Steps
boxes_asked q a b = cond (one_box q) (eqb a b) (not (eqb a b))

-- Message steps exist only for nonempty lists; steps 3 and 6 exist for every box.
unfoldable pub fits_by : List ℕ → List ℕ → Steps
fits_by receivers senders send_values a b = reaches receivers a b
fits_by receivers senders receive_values a b = reaches receivers b a
fits_by receivers senders add_lines a b = eqb a b
fits_by receivers senders send_parts a b = reaches senders b a
fits_by receivers senders receive_parts a b = reaches senders a b
fits_by receivers senders sum_own a b = eqb a b

-- The step of boxes a and c is not due, or it is done.
unfoldable pub due_done : List ℕ → List ℕ → Steps → Steps
due_done receivers senders d q a c = not (fits_by receivers senders q a c) || d q a c

-- Every due step of this kind of box a is done.
unfoldable pub all_due_by : ℕ → List ℕ → List ℕ → Steps → Kind → ℕ → Bool
all_due_by k receivers senders d q a = all k (due_done receivers senders d q a)

-- The steps done make this one ready.
unfoldable pub ready_by : ℕ → List ℕ → List ℕ → Steps → Steps
ready_by k receivers senders d send_values a b = true
ready_by k receivers senders d receive_values a b = d send_values b a
ready_by k receivers senders d add_lines a b = all_due_by k receivers senders d receive_values a
ready_by k receivers senders d send_parts a b = d add_lines a a
ready_by k receivers senders d receive_parts a b = d send_parts b a
ready_by k receivers senders d sum_own a b = d add_lines a a && all_due_by k receivers senders d receive_parts a

-- Conditions 22 to 26, where the steps of d are done.
unfoldable pub rules_by : ℕ → List ℕ → List ℕ → Steps → Asked → List (Bool × ℕ)
rules_by k receivers senders d q =
    let n = kind_of q.kind in
    (not (is_kind q.kind), 22)
    ∷ (not (ltb q.first k && (ltb q.second k && boxes_asked n q.first q.second)), 23)
    ∷ (not (fits_by receivers senders n q.first q.second), 24)
    ∷ (d n q.first q.second, 25)
    ∷ (not (ready_by k receivers senders d n q.first q.second), 26)
    ∷ []
