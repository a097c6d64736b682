-- The conditions 22 to 26 of a request, told from words of receivers and waits and the set of steps done.
use Rattle.std.specs.Prelude.{List, [], ◌∷◌, Bool, cond, ◌&&◌, not, ℕ, eqb, ltb}
use Rattle.model.specs.Steps.{kind_of, Steps, one_box}
use Rattle.model.specs.Step.{Asked, is_kind}
use Rattle.step_rules.specs.Rules.{fits_by, ready_by}

-- Both boxes are below k, and they are equal or differ as the kind asks.
unfoldable pub boxes_fit_by : ℕ → Steps
boxes_fit_by k q a b = ltb a k && (ltb b k && cond (one_box q) (eqb a b) (not (eqb a b)))

-- Conditions 22 to 26, where the steps of d are done.
unfoldable pub rules_by : ℕ → List ℕ → List (List ℕ) → Steps → Asked → List (Bool × ℕ)
rules_by k receivers waits d q =
    let n = kind_of q.kind in
    (not (is_kind q.kind), 22)
    ∷ (not (boxes_fit_by k n q.first q.second), 23)
    ∷ (not (fits_by receivers waits n q.first q.second), 24)
    ∷ (d n q.first q.second, 25)
    ∷ (not (ready_by waits d n q.first q.second), 26)
    ∷ []
