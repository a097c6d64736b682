-- With the words of receivers and waits of a job the tests are the model's; a kind asks for those of its side alone. Assumes nothing.
use mathlib.Core.Path.{◌≡◌, refl}
use mathlib.Core.List.{List}
use Prim.Native.Nat.{ℕ, ◌<◌, ◌≤◌}
use native.Mathlib.Omega.{arith}
use borrow.Author.Tests.{lt-ltb}
use Rattle.model.specs.Job.{Job}
use Rattle.model.specs.Steps.{Kind, kind_number, send_prices, multiply_own, receive_prices, send_totals, add_own, receive_totals, Steps, fits, has_step, ready, permitted}
use Rattle.step_rules.specs.Rules.{fits_by, ready_by, permitted_by, ReceiversOf, WaitsOf}

module _ (j : Job) (receivers : List ℕ) (waits : List (List ℕ)) where
  -- The job has the step.
  pub fits_is : (q : Kind) → (kind_number q ≤ 3 → ReceiversOf j receivers) → (4 ≤ kind_number q → WaitsOf j waits) → (a b : ℕ) → a < j.boxes → b < j.boxes → fits_by receivers waits q a b ≡ fits j q a b
  unfolding fits_by fits kind_number
  fits_is send_prices hr hw a b la lb = (hr (omega arith)).due_is a b la lb
  fits_is multiply_own hr hw a b la lb = refl
  fits_is receive_prices hr hw a b la lb = (hr (omega arith)).due_is b a lb la
  fits_is send_totals hr hw a b la lb = (hw (omega arith)).due_is a b la lb
  fits_is add_own hr hw a b la lb = refl
  fits_is receive_totals hr hw a b la lb = (hw (omega arith)).due_is b a lb la

  -- The steps done make it ready.
  pub ready_is : (q : Kind) → (4 ≤ kind_number q → WaitsOf j waits) → (d : Steps) (a b : ℕ) → a < j.boxes → b < j.boxes → ready_by waits d q a b ≡ ready j d q a b
  unfolding ready_by ready kind_number
  ready_is send_prices hw d a b la lb = refl
  ready_is multiply_own hw d a b la lb = refl
  ready_is receive_prices hw d a b la lb = refl
  ready_is send_totals hw d a b la lb = (hw (omega arith)).added_is d a b la lb
  ready_is add_own hw d a b la lb = (hw (omega arith)).added_is d a a la la
  ready_is receive_totals hw d a b la lb = refl

  -- The test of one step, of boxes below K.
  pub permitted_is : ReceiversOf j receivers → WaitsOf j waits → (q : Kind) (d : Steps) (a b : ℕ) → a < j.boxes → b < j.boxes → permitted_by receivers waits d q a b ≡ permitted j d q a b
  unfolding permitted_by permitted has_step
  permitted_is hr hw q d a b la lb = rw (fits_is q (λ _. hr) (λ _. hw) a b la lb, ready_is q (λ _. hw) d a b la lb, lt-ltb a j.boxes la, lt-ltb b j.boxes lb)
