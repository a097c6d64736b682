-- Lists of steps on states: each is attempted, and does what it does where it is permitted.
use mathlib.Core.Path.{◌≡◌, refl}
use mathlib.Core.List.{List, [], ◌∷◌}
use mathlib.Core.Bool.{Bool, cond}
use Prim.Native.Nat.{ℕ, zero, suc, ◌<◌, ◌≤◌}
use native.Mathlib.Omega.{arith}
use Rattle.model.specs.Job.{Job}
use Rattle.model.specs.Steps.{Kind, send_prices, multiply_own, receive_prices, send_totals, add_own, receive_totals, kind_number, kind_of, Steps, Step, State, done_by, permitted, fresh, effect_of}
use Rattle.model.proofs.Marks as M
use Rattle.model.proofs.Marks.{Kinds}

-- The six kinds and their numbers.
pub kind_back : (k : Kind) → kind_of (kind_number k) ≡ k
unfolding kind_of kind_number
kind_back send_prices = refl
kind_back multiply_own = refl
kind_back receive_prices = refl
kind_back send_totals = refl
kind_back add_own = refl
kind_back receive_totals = refl

-- Numbers of kinds by place.
pub number_place : (n : ℕ) → n < 6 → kind_number (kind_of (suc n)) ≡ suc n
unfolding kind_number kind_of
number_place zero h = refl
number_place (suc zero) h = refl
number_place (suc (suc zero)) h = refl
number_place (suc (suc (suc zero))) h = refl
number_place (suc (suc (suc (suc zero)))) h = refl
number_place (suc (suc (suc (suc (suc zero))))) h = refl
number_place (suc (suc (suc (suc (suc (suc n)))))) h = absurd (omega arith)

pub number_from_lem : (k : Kind) → 1 ≤ kind_number k
unfolding kind_number
number_from_lem send_prices = omega arith
number_from_lem multiply_own = omega arith
number_from_lem receive_prices = omega arith
number_from_lem send_totals = omega arith
number_from_lem add_own = omega arith
number_from_lem receive_totals = omega arith

pub number_to : (k : Kind) → kind_number k ≤ 6
unfolding kind_number
number_to send_prices = omega arith
number_to multiply_own = omega arith
number_to receive_prices = omega arith
number_to send_totals = omega arith
number_to add_own = omega arith
number_to receive_totals = omega arith

abbrev pub kinds : Kinds Kind
kinds = record { many = 6; number = kind_number; kind_of = kind_of; back = kind_back; place = number_place; from = number_from_lem; to = number_to }

module _ (j : Job) where
  -- The step is permitted in the state s.
  unfoldable pub permits : State → Step → Bool
  permits s x = permitted j s.done x.kind x.first x.second

  -- The state that an attempt leaves.
  unfoldable pub attempt : State → Step → State
  attempt s x = cond (permits s x) (effect_of j s x) s

  unfoldable pub attempt_all : State → List Step → State
  attempt_all s [] = s
  attempt_all s (x ∷ xs) = attempt_all (attempt s x) xs

  -- The steps of a list that are permitted, in order.
  unfoldable pub taken : State → List Step → List Step
  taken s [] = []
  taken s (x ∷ xs) = cond (permits s x) (x ∷ taken (attempt s x) xs) (taken (attempt s x) xs)

  -- The state that a list leaves, from a fresh state.
  unfoldable pub reached : List Step → State
  reached xs = attempt_all (fresh j) xs

  -- The steps done in a list.
  unfoldable pub done_of : List Step → Steps
  done_of xs = done_by (taken (fresh j) xs)

  -- How many steps of one kind a set has, among the job's boxes, and how many of all kinds together.
  abbrev pub size_of : Steps → Kind → ℕ
  size_of d k = M.size_of kinds j.boxes d k

  abbrev pub size : Steps → ℕ
  size d = M.size kinds j.boxes d
