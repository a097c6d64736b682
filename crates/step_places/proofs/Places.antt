-- Places by kind, first box and second box, and their numbers. Assumes nothing.
use mathlib.Core.Path.{◌≡◌, ap, ◌∙◌}
use Prim.Native.Nat.{ℕ, suc, ◌+◌, ◌-◌, ◌*◌, ◌/◌, ◌%◌, ◌≤◌, ◌<◌}
use native.Mathlib.Omega.{arith}
use native.Mathlib.Nat.{suc-mul, add-zero, div-lt_iff_lt-mul}
use lib.Arith.{digits_div, digits_mod}
use Rattle.model.specs.Job.{Job}
use Rattle.model.specs.Steps.{kind_of, step_at}
use Rattle.step_places.specs.Places.{PlaceIn, Next, here}

-- The last place of a kind is followed by the first of the next.
last_kind : (m q : ℕ) → (suc m * suc q) * suc q ≡ (m * suc q + q) * suc q + q + 1
last_kind m q = ap (λ (x : ℕ). x * suc q) rows ∙ suc-mul (m * suc q + q) (suc q) ∙ regroup ((m * suc q + q) * suc q) q
  where
    rows : suc m * suc q ≡ suc (m * suc q + q)
    rows = omega (arith, suc-mul m (suc q))

    regroup : (x q : ℕ) → x + suc q ≡ x + q + 1
    regroup x q = omega arith

pub kind_next : (k kind a b : ℕ) → PlaceIn k kind a b → k ≤ a + 1 → k ≤ b + 1 → Next k kind a b (kind + 1) 0 0
kind_next k kind a b p la lb = record {
  kind_from = omega arith;
  a_in = omega arith;
  b_in = omega arith;
  next_is = rw (ek, ea, eb) (step (kind - 1) b);
}
  where
    ek : kind ≡ suc (kind - 1)
    ek = omega arith

    ea : a ≡ b
    ea = omega arith

    eb : k ≡ suc b
    eb = omega arith

    step : (m q : ℕ) → ((suc m + 1 - 1) * suc q + 0) * suc q + 0 ≡ ((suc m - 1) * suc q + q) * suc q + q + 1
    step m q = simp (up m, down m, add-zero) (last_kind m q)
      where
        up : (m : ℕ) → suc m + 1 - 1 ≡ suc m
        up m = omega arith

        down : (m : ℕ) → suc m - 1 ≡ m
        down m = omega arith

module _ (k kind a b : ℕ) (la : a < k) (lb : b < k) where
  row_of : here k kind a b / k ≡ (kind - 1) * k + a
  row_of = digits_div ((kind - 1) * k + a) lb

  pub kind_of_lem : here k kind a b / k / k ≡ kind - 1
  kind_of_lem = ap (λ (r : ℕ). r / k) row_of ∙ digits_div (kind - 1) la

  pub first_of : here k kind a b / k % k ≡ a
  first_of = ap (λ (r : ℕ). r % k) row_of ∙ digits_mod (kind - 1) la

  pub second_of : here k kind a b % k ≡ b
  second_of = digits_mod ((kind - 1) * k + a) lb

  -- A place below the number of places has a kind up to 6.
  pub place_in : k ≤ 16 → 1 ≤ kind → here k kind a b < 6 * k * k → PlaceIn k kind a b
  place_in lk from h = record {
    boxes_in = lk;
    kind_from = from;
    kind_to = omega (arith, low);
    a_in = la;
    b_in = lb;
  }
    where
      low : kind - 1 < 6
      low = rw kind_of_lem at ((div-lt_iff_lt-mul {k = k} (omega arith)).1 ((div-lt_iff_lt-mul {k = k} (omega arith)).1 h))

-- A step of a place has its kind and its boxes.
pub step_here : (j : Job) (kind a b : ℕ) → PlaceIn j.boxes kind a b → step_at j.boxes (here j.boxes kind a b) ≡ record { kind = kind_of kind; first = a; second = b }
unfolding step_at
step_here j kind a b p =
    rw (kind_of_lem j.boxes kind a b p.a_in p.b_in, first_of j.boxes kind a b p.a_in p.b_in, second_of j.boxes kind a b p.a_in p.b_in, ← (up kind p.kind_from))
  where
    up : (n : ℕ) → 1 ≤ n → n ≡ suc (n - 1)
    up n h = omega arith
