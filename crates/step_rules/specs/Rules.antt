-- Which steps a box may take, told from words of receivers and waits and the set of steps done.
use Rattle.std.specs.Prelude.{◌≡◌, List, [], Bool, true, cond, ◌&&◌, ◌||◌, not, ℕ, ◌*◌, ◌≤◌, ◌<◌, length, get_or, eqb}
use Rattle.laws.specs.Below.{all}
use Rattle.laws.specs.Masks.{bit}
use Rattle.model.specs.Job.{Job, prices_due, totals_due}
use Rattle.step_places.specs.Message.{reaches}
use Rattle.model.specs.Steps.{send_prices, multiply_own, receive_prices, send_totals, add_own, receive_totals, Steps, all_added}

-- What is told of a job beforehand, in words of one bit for each box: `receivers` has for each box those that it is to send prices to, and
-- `waits` for boxes a and b the owners whose prices a waits for before it has added all its tallies of b's grocers.

-- The word of boxes a and b in a table of such words.
abbrev pub word_at : List (List ℕ) → ℕ → ℕ → ℕ
word_at waits a b = get_or (get_or waits a []) b 0

-- Totals go from box a to box b, another box: a has a tally of b's grocers, and so waits for its price.
unfoldable pub totals_due_by : List (List ℕ) → ℕ → ℕ → Bool
totals_due_by waits a b = not (eqb a b) && not (eqb (word_at waits a b) 0)

-- Message steps exist only for nonempty lists; steps 2 and 5 exist for every box.
unfoldable pub fits_by : List ℕ → List (List ℕ) → Steps
fits_by receivers waits send_prices a b = reaches receivers a b
fits_by receivers waits multiply_own a b = eqb a b
fits_by receivers waits receive_prices a b = reaches receivers b a
fits_by receivers waits send_totals a b = totals_due_by waits a b
fits_by receivers waits add_own a b = eqb a b
fits_by receivers waits receive_totals a b = totals_due_by waits b a

-- Box a has the prices of box o and has added its tallies of them: its own by step 2, those of others by step 3.
unfoldable pub has_got : Steps → ℕ → ℕ → Bool
has_got d a o = cond (eqb o a) (d multiply_own a a) (d receive_prices a o)

-- Box a has got all that its totals of box b's grocers wait for.
unfoldable pub all_got : List (List ℕ) → Steps → ℕ → ℕ → Bool
all_got waits d a b = all 16 (λ o. not (bit o (word_at waits a b)) || has_got d a o)

-- The steps done make this one ready: 1 and 2 from the start, 3 and 6 once sent, 4 once all that it waits for is got, and so 5 for its own grocers.
unfoldable pub ready_by : List (List ℕ) → Steps → Steps
ready_by waits d send_prices a b = true
ready_by waits d multiply_own a b = true
ready_by waits d receive_prices a b = d send_prices b a
ready_by waits d send_totals a b = all_got waits d a b
ready_by waits d add_own a b = all_got waits d a a
ready_by waits d receive_totals a b = d send_totals b a

-- A step of two boxes below K is permitted when the job has it, it is not done and the steps done make it ready.
unfoldable pub permitted_by : List ℕ → List (List ℕ) → Steps → Steps
permitted_by receivers waits d q a b = fits_by receivers waits q a b && (not (d q a b) && ready_by waits d q a b)

-- The words of receivers are those of job j.
pub record ReceiversOf (j : Job) (receivers : List ℕ) : Type 0 where
  pub due_is : (a b : ℕ) → a < j.boxes → b < j.boxes → reaches receivers a b ≡ prices_due j a b

-- The words of waits are those of job j: they tell its messages of totals, and when a box has added all its tallies of a box's grocers.
pub record WaitsOf (j : Job) (waits : List (List ℕ)) : Type 0 where
  pub due_is : (a b : ℕ) → a < j.boxes → b < j.boxes → totals_due_by waits a b ≡ totals_due j a b
  pub added_is : (d : Steps) (a b : ℕ) → a < j.boxes → b < j.boxes → all_got waits d a b ≡ all_added j d a b

-- What the tests of one box require: at most 16 boxes, box a one of them, and marks as many as they need.
pub record BoxIn (k a : ℕ) (done : List ℕ) : Type 0 where
  pub boxes_in : k ≤ 16
  pub a_in : a < k
  pub done_long : 6 * k * k ≤ length done
