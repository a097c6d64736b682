-- A forecast's six kinds and its rules, as a machine of steps. Assumes nothing.
use mathlib.Core.Path.{◌≡◌, refl}
use mathlib.Core.Bool.{true, false, ◌&&◌, ◌||◌, not}
use Prim.Native.Nat.{ℕ, zero, suc, ◌<◌, ◌≤◌}
use native.Mathlib.Omega.{arith}
use lib.Dec.{eqb, ltb}
use borrow.Author.Tests.{eqb-true, ltb-true, not-true}
use Rattle.laws.proofs.Bools.{and_l, and_r, and_true, or_more}
use Rattle.laws.proofs.Below.{all_at, all_of_lem}
use Rattle.forecast_rules.specs.Lines.{Forecast}
use Rattle.forecast_rules.specs.Steps.{Kind, send_values, receive_values, add_lines, send_parts, receive_parts, sum_own, kind_number, kind_of, Steps, has_step, all_due, ready, permitted}
use Rattle.model.proofs.Marks.{Kinds, Rules}

-- The six kinds and their numbers.
pub kind_back : (k : Kind) → kind_of (kind_number k) ≡ k
unfolding kind_of kind_number
kind_back send_values = refl
kind_back receive_values = refl
kind_back add_lines = refl
kind_back send_parts = refl
kind_back receive_parts = refl
kind_back sum_own = refl

pub number_place : (n : ℕ) → n < 6 → kind_number (kind_of (suc n)) ≡ suc n
unfolding kind_number kind_of
number_place zero h = refl
number_place (suc zero) h = refl
number_place (suc (suc zero)) h = refl
number_place (suc (suc (suc zero))) h = refl
number_place (suc (suc (suc (suc zero)))) h = refl
number_place (suc (suc (suc (suc (suc zero))))) h = refl
number_place (suc (suc (suc (suc (suc (suc n)))))) h = absurd (omega arith)

pub number_from_lem : (k : Kind) → 1 ≤ kind_number k
unfolding kind_number
number_from_lem send_values = omega arith
number_from_lem receive_values = omega arith
number_from_lem add_lines = omega arith
number_from_lem send_parts = omega arith
number_from_lem receive_parts = omega arith
number_from_lem sum_own = omega arith

pub number_to : (k : Kind) → kind_number k ≤ 6
unfolding kind_number
number_to send_values = omega arith
number_to receive_values = omega arith
number_to add_lines = omega arith
number_to send_parts = omega arith
number_to receive_parts = omega arith
number_to sum_own = omega arith

abbrev pub kinds : Kinds Kind
kinds = record { many = 6; number = kind_number; kind_of = kind_of; back = kind_back; place = number_place; from = number_from_lem; to = number_to }

module _ (f : Forecast) where
  -- With more steps done no step becomes unready.
  module _ (d e : Steps) (more : (k : Kind) (a b : ℕ) → d k a b ≡ true → e k a b ≡ true) where
    due_more : (k : Kind) (a : ℕ) → all_due f d k a ≡ true → all_due f e k a ≡ true
    unfolding all_due
    due_more k a h =
        all_of_lem f.job.boxes (λ c. not (has_step f k a c) || e k a c) (λ c l.
        or_more (not (has_step f k a c)) (d k a c) (e k a c) (more k a c) (all_at f.job.boxes (λ c. not (has_step f k a c) || d k a c) c l h))

    pub ready_more : (k : Kind) (a b : ℕ) → ready f d k a b ≡ true → ready f e k a b ≡ true
    unfolding ready
    ready_more send_values a b h = refl
    ready_more receive_values a b h = more send_values b a h
    ready_more add_lines a b h = due_more receive_values a h
    ready_more send_parts a b h = more add_lines a a h
    ready_more receive_parts a b h = more send_parts b a h
    ready_more sum_own a b h = and_true (more add_lines a a (and_l (d add_lines a a) _ h)) (due_more receive_parts a (and_r (d add_lines a a) _ h))

  abbrev pub rules : Rules kinds
  rules = record { has = has_step f; ready = ready f; more = ready_more }

  pub first< : (k : Kind) (a b : ℕ) → has_step f k a b ≡ true → a < f.job.boxes
  unfolding has_step
  first< k a b h = ltb-true a f.job.boxes (and_l (ltb a f.job.boxes) _ h)

  pub second< : (k : Kind) (a b : ℕ) → has_step f k a b ≡ true → b < f.job.boxes
  unfolding has_step
  second< k a b h = ltb-true b f.job.boxes (and_l (ltb b f.job.boxes) _ (and_r (ltb a f.job.boxes) _ h))

  -- The boxes of a step 3 or 6 are one.
  pub one_box_lem : (a b : ℕ) → (ltb a f.job.boxes && (ltb b f.job.boxes && eqb a b)) ≡ true → a ≡ b
  one_box_lem a b h = eqb-true a b (and_r (ltb b f.job.boxes) _ (and_r (ltb a f.job.boxes) _ h))

-- What a permitted step has.
pub record Permit (f : Forecast) (d : Steps) (k : Kind) (a b : ℕ) : Type 0 where
  pub has : has_step f k a b ≡ true
  pub new : d k a b ≡ false
  pub is_ready : ready f d k a b ≡ true

pub permit : (f : Forecast) (d : Steps) (k : Kind) (a b : ℕ) → permitted f d k a b ≡ true → Permit f d k a b
unfolding permitted
permit f d k a b h = record {
  has = and_l (has_step f k a b) _ h;
  new = not-true (d k a b) (and_l (not (d k a b)) _ (and_r (has_step f k a b) _ h));
  is_ready = and_r (not (d k a b)) _ (and_r (has_step f k a b) _ h);
}
