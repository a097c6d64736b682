-- What whole cents come to, and the quotient and the rest that they are made of. Assumes nothing.
use mathlib.Core.Path.{◌≡◌, refl, sym, ap, ◌∙◌}
use mathlib.Core.Bool.{Bool, true, false, not, true≢false}
use Prim.Native.Nat.{ℕ, zero, suc, ◌+◌, ◌*◌, ◌/◌, ◌%◌, ◌≤◌, ◌<◌}
use native.Mathlib.Omega.{arith}
use lib.Dec.{eqb, ltb, leb, leb-suc-suc}
use lib.IntN.{ℤ, pos, negsuc, neg_ℤ, nat_abs, sub_ℕ, ◌+ℤ◌, ◌-ℤ◌, ◌*ℤ◌}
use lib.Signed.{le_z, quot_z, rem_z}
use mir.Syntax.{w64}
use mir.Val.{SFits, to_z, of_z}
use mir.Facts.{to_z-of_z}
use borrow.Author.Tests.{ltb-true, ltb-false, leb-true, leb-false, le-leb, lt-leb, eqb-true, eqb-false, ne_eqb, lt-ltb, le-ltb}
use Rattle.laws.specs.Below.{naturals, only}
use Rattle.laws.proofs.Bools.{split, cond_either, cond_yes, cond_no}
use Rattle.laws.proofs.Signed.{fits64, read64_abs, abs_plus}
use Rattle.printing.specs.Cents.{Half, away, even, rule, half_of, edge, nearest, cents, Cents}

-- The least rest that makes a cent more is 5 or 6.
pub edge-from : (h : Half) (n : ℕ) → 5 ≤ edge h n
unfolding edge
edge-from away n = omega arith
edge-from even n = cond_either (λ (e : ℕ). 5 ≤ e) (eqb (n % 2) 0) 6 5 (omega arith) (omega arith)

pub edge_to : (h : Half) (n : ℕ) → edge h n ≤ 6
unfolding edge
edge_to away n = omega arith
edge_to even n = cond_either (λ (e : ℕ). e ≤ 6) (eqb (n % 2) 0) 6 5 (omega arith) (omega arith)

-- A rest that is so large, and a smaller one.
nearest_up : (h : Half) (n : ℕ) → edge h (n / 10) ≤ n % 10 → nearest h n ≡ n / 10 + 1
unfolding nearest only naturals
nearest_up h n l = rw (le-leb (edge h (n / 10)) (n % 10) l)

nearest_down : (h : Half) (n : ℕ) → n % 10 < edge h (n / 10) → nearest h n ≡ n / 10
unfolding nearest only naturals
nearest_down h n l = rw (lt-leb (edge h (n / 10)) (n % 10) l) (omega arith)

-- ---- the code's way: the quotient toward zero, and a rest with the amount's sign

-- A rest that is not positive, against the two ends.
rest_below : (e r : ℕ) → le_z (pos (suc e)) (neg_ℤ (pos r)) ≡ false
rest_below e zero = lt-leb (suc e) 0 (omega arith)
rest_below e (suc r) = refl

rest_from : (e r : ℕ) → le_z (neg_ℤ (pos r)) (negsuc e) ≡ leb (suc e) r
rest_from e zero = sym (lt-leb (suc e) 0 (omega arith))
rest_from e (suc r) = sym (leb-suc-suc e r)

-- A number below zero, as the machine has it.
pub minus : (e : ℕ) → pos 0 -ℤ pos (suc e) ≡ negsuc e
minus e = rw (lt-ltb 0 (suc e) (omega arith)) (ap negsuc (omega arith))

-- One less.
less : (n : ℕ) → neg_ℤ (pos n) -ℤ pos 1 ≡ neg_ℤ (pos (n + 1))
less zero = refl
less (suc n) = let e : suc (suc (n + 0)) ≡ suc n + 1 = omega arith in ap (λ (k : ℕ). neg_ℤ (pos k)) e

-- The size of a quotient, and of a number's negative.
pub abs_neg : (n : ℕ) → nat_abs (neg_ℤ (pos n)) ≡ n
abs_neg zero = refl
abs_neg (suc n) = refl

module _ (h : Half) where
  pub up : (z : ℤ) (e : ℕ) → suc e ≡ edge h (nat_abs (quot_z z (pos 10))) → le_z (pos (suc e)) (rem_z z (pos 10)) ≡ true → quot_z z (pos 10) +ℤ pos 1 ≡ cents h z
  unfolding cents
  up (pos n) e w l = ap pos (sym (nearest_up h n (omega (arith, w, leb-true (suc e) (n % 10) l))))
  up (negsuc n) e w l = absurd (true≢false (sym l ∙ rest_below e (suc n % 10)))

  pub down : (z : ℤ) (e : ℕ) → suc e ≡ edge h (nat_abs (quot_z z (pos 10))) → le_z (rem_z z (pos 10)) (negsuc e) ≡ true → quot_z z (pos 10) -ℤ pos 1 ≡ cents h z
  unfolding cents
  down (pos n) e w l = absurd (true≢false (sym l))
  down (negsuc n) e w l =
      less (suc n / 10)
      ∙ ap (λ (k : ℕ). neg_ℤ (pos k)) (sym (nearest_up h (suc n) (omega (arith, w ∙ ap (edge h) (abs_neg (suc n / 10)), leb-true (suc e) (suc n % 10) (sym (rest_from e (suc n % 10)) ∙ l)))))

  pub level : (z : ℤ) (e : ℕ) → suc e ≡ edge h (nat_abs (quot_z z (pos 10))) → le_z (pos (suc e)) (rem_z z (pos 10)) ≡ false → le_z (rem_z z (pos 10)) (negsuc e) ≡ false → quot_z z (pos 10) ≡ cents h z
  unfolding cents
  level (pos n) e w l k = ap pos (sym (nearest_down h n (omega (arith, w, leb-false (suc e) (n % 10) l))))
  level (negsuc n) e w l k =
      ap (λ (k : ℕ). neg_ℤ (pos k)) (sym (nearest_down h (suc n) (omega (arith, w ∙ ap (edge h) (abs_neg (suc n / 10)), leb-false (suc e) (suc n % 10) (sym (rest_from e (suc n % 10)) ∙ k)))))

-- Their sizes, of a 64-bit amount.
whole-small : (z : ℤ) → SFits w64 z → nat_abs (quot_z z (pos 10)) ≤ 1_000_000_000_000_000_000
whole-small (pos n) h = omega (arith, h.sfits)
whole-small (negsuc n) h = omega (arith, abs_neg (suc n / 10), h.sfits)

rest_small : (z : ℤ) → nat_abs (rem_z z (pos 10)) ≤ 9
rest_small (pos n) = omega arith
rest_small (negsuc n) = omega (arith, abs_neg (suc n % 10))

-- What the machine reads back.
module _ (z : ℤ) (h : SFits w64 z) where
  pub whole_fits : SFits w64 (quot_z z (pos 10))
  whole_fits = fits64 (omega (arith, whole-small z h))

  pub read_whole : to_z w64 (of_z w64 (quot_z z (pos 10))) ≡ quot_z z (pos 10)
  read_whole = to_z-of_z {w = w64} whole_fits

  pub read_rest : to_z w64 (of_z w64 (rem_z z (pos 10))) ≡ rem_z z (pos 10)
  read_rest = read64_abs (rem_z z (pos 10)) (omega (arith, rest_small z))

  pub more_fits : SFits w64 (quot_z z (pos 10) +ℤ pos 1)
  more_fits = fits64 (omega (arith, abs_plus (quot_z z (pos 10)) (pos 1), whole-small z h))

  pub less_fits : SFits w64 (quot_z z (pos 10) -ℤ pos 1)
  less_fits = fits64 (omega (arith, abs_plus (quot_z z (pos 10)) (negsuc 0), whole-small z h))

-- Half of a 64-bit number, and the rest, as the machine reads them back.
module _ (z : ℤ) (h : SFits w64 z) where
  halved : nat_abs (quot_z z (pos 2)) ≤ 5_000_000_000_000_000_000
  halved = halves z h
    where
      halves : (z : ℤ) → SFits w64 z → nat_abs (quot_z z (pos 2)) ≤ 5_000_000_000_000_000_000
      halves (pos n) h = omega (arith, h.sfits)
      halves (negsuc n) h = omega (arith, abs_neg (suc n / 2), h.sfits)

  pub half_fits : SFits w64 (quot_z z (pos 2))
  half_fits = fits64 (omega (arith, halved))

  pub read_parity : to_z w64 (of_z w64 (rem_z z (pos 2))) ≡ rem_z z (pos 2)
  read_parity = read64_abs (rem_z z (pos 2)) (omega (arith, ones z))
    where
      ones : (z : ℤ) → nat_abs (rem_z z (pos 2)) ≤ 1
      ones (pos n) = omega arith
      ones (negsuc n) = omega (arith, abs_neg (suc n % 2))

-- A number is even where the rest of its size by 2 is none.
pub even_rest : (z : ℤ) → rem_z z (pos 2) ≡ pos 0 → nat_abs z % 2 ≡ 0
even_rest (pos n) e = ap nat_abs e
even_rest (negsuc n) e = sym (abs_neg (suc n % 2)) ∙ ap nat_abs e

pub odd_rest : (z : ℤ) → nat_abs z % 2 ≡ 0 → rem_z z (pos 2) ≡ pos 0
odd_rest (pos n) e = ap pos e
odd_rest (negsuc n) e = ap (λ (k : ℕ). neg_ℤ (pos k)) e

-- The rule of a cycle.
pub from_500 : (c : ℕ) → rule (leb 500 c) ≡ half_of c
unfolding rule half_of
from_500 c = split (ltb c 500) (λ e. rw (e, lt-leb 500 c (ltb-true c 500 e))) (λ e. rw (e, le-leb 500 c (ltb-false c 500 e)))

-- The least rest by the rule.
pub edge-away : (t : Bool) (n : ℕ) → not t ≡ true → edge (rule t) n ≡ 5
unfolding rule edge
edge-away false n e = refl
edge-away true n e = absurd (true≢false (sym e))

pub edge_even : (t : Bool) (n : ℕ) → not t ≡ false → n % 2 ≡ 0 → edge (rule t) n ≡ 6
unfolding rule edge
edge_even true n t e = rw e
edge_even false n t e = absurd (true≢false t)

pub edge_odd : (t : Bool) (n : ℕ) → (n % 2 ≡ 0 → ⊥) → edge (rule t) n ≡ 5
unfolding rule edge
edge_odd t n e = split t (λ q. rw (q, ne_eqb (n % 2) 0 e)) (λ q. rw q)

-- ---- what they come to

-- Ten times the nearest cents is at most five tenths off.
near_le : (h : Half) (n : ℕ) → (10 * nearest h n ≤ n + 5) × (n ≤ 10 * nearest h n + 5)
near_le h n =
    split (ltb (n % 10) (edge h (n / 10)))
    (λ e. let u = nearest_down h n (ltb-true (n % 10) (edge h (n / 10)) e) in (omega (arith, u), omega (arith, u, ltb-true (n % 10) (edge h (n / 10)) e, edge_to h (n / 10))))
    (λ e. let u = nearest_up h n (ltb-false (n % 10) (edge h (n / 10)) e) in (omega (arith, u, ltb-false (n % 10) (edge h (n / 10)) e, edge-from h (n / 10)), omega (arith, u)))

-- The distance of two numbers that are at most 5 apart.
apart : (a b : ℕ) → a ≤ b + 5 → b ≤ a + 5 → nat_abs (sub_ℕ a b) ≤ 5
apart a b l k = split (ltb a b) (λ e. rw e (omega (arith, ltb-true a b e))) (λ e. rw e (omega (arith, ltb-false a b e)))

-- The same of two negative ones.
apart_below : (a b : ℕ) → a ≤ b + 5 → b ≤ a + 5 → nat_abs (neg_ℤ (pos a) +ℤ pos b) ≤ 5
apart_below zero b l k = omega arith
apart_below (suc a) b l k = apart b (suc a) k l

ten_below : (n : ℕ) → pos 10 *ℤ neg_ℤ (pos n) ≡ neg_ℤ (pos (10 * n))
ten_below zero = refl
ten_below (suc n) = refl

near : (h : Half) (z : ℤ) → nat_abs (pos 10 *ℤ cents h z -ℤ z) ≤ 5
unfolding cents
near h (pos zero) = let p = near_le h 0 in omega (arith, p.0)
near h (pos (suc n)) = let p = near_le h (suc n) in apart (10 * nearest h (suc n)) (suc n) p.0 p.1
near h (negsuc n) = let p = near_le h (suc n) in rw (ten_below (nearest h (suc n))) (apart_below (10 * nearest h (suc n)) (suc n) p.0 p.1)

neg_neg : (n : ℕ) → neg_ℤ (neg_ℤ (pos n)) ≡ pos n
neg_neg zero = refl
neg_neg (suc n) = refl

-- No tenth is no cent.
none : (h : Half) → nearest h 0 ≡ 0
none h = nearest_down h 0 (omega (arith, edge-from h 0))

negated : (h : Half) (z : ℤ) → cents h (neg_ℤ z) ≡ neg_ℤ (cents h z)
unfolding cents
negated h (pos zero) = rw (none h)
negated h (pos (suc n)) = refl
negated h (negsuc n) = sym (neg_neg (nearest h (suc n)))

half_above_lem : (n : ℕ) → cents away (pos (10 * n + 5)) ≡ pos (n + 1)
unfolding cents edge
half_above_lem n = ap pos (nearest_up away (10 * n + 5) (omega arith) ∙ omega arith)

even_above_lem : (n : ℕ) → cents even (pos (10 * n + 5)) ≡ pos (n + n % 2)
unfolding cents edge
even_above_lem n =
    let q : (10 * n + 5) / 10 ≡ n = omega arith in
    split (eqb (n % 2) 0)
    (λ e. ap pos (nearest_down even (10 * n + 5) (rw (q, e) (omega arith)) ∙ omega (arith, eqb-true (n % 2) 0 e)))
    (λ e. ap pos (nearest_up even (10 * n + 5) (rw (q, e) (omega arith)) ∙ omega (arith, eqb-false (n % 2) 0 e)))

-- Where the rest is no half the rules agree.
elsewhere : (n : ℕ) → (n % 10 ≡ 5 → ⊥) → cents even (pos n) ≡ cents away (pos n)
unfolding cents
elsewhere n ne =
    split (ltb (n % 10) 5)
    (λ e. let l = ltb-true (n % 10) 5 e in ap pos (nearest_down even n (omega (arith, edge-from even (n / 10))) ∙ sym (nearest_down away n (omega (arith, edge-from away (n / 10))))))
    (λ e. let l = ltb-false (n % 10) 5 e in ap pos (nearest_up even n (omega (arith, ne, edge_to even (n / 10))) ∙ sym (nearest_up away n (omega (arith, ne, edge_to away (n / 10))))))

-- Less than half a cent is none.
pub none_below : (h : Half) (z : ℤ) → nat_abs z < 5 → cents h z ≡ pos 0
unfolding cents
none_below h (pos n) l = let e : n / 10 ≡ 0 = omega arith in ap pos (nearest_down h n (omega (arith, edge-from h (n / 10))) ∙ e)
none_below h (negsuc n) l = let e : suc n / 10 ≡ 0 = omega arith in ap (λ (k : ℕ). neg_ℤ (pos k)) (nearest_down h (suc n) (omega (arith, edge-from h (suc n / 10))) ∙ e)

most : (h : Half) → cents h (pos 9_223_372_036_854_775_807) ≡ pos 922_337_203_685_477_581
unfolding cents nearest edge only naturals
most away = refl
most even = refl

least : (h : Half) → cents h (negsuc 9_223_372_036_854_775_807) ≡ negsuc 922_337_203_685_477_580
unfolding cents nearest edge only naturals
least away = refl
least even = refl

pub rounding : Cents
unfolding half_of cents nearest edge only naturals
rounding = record {
  near = near;
  negated = negated;
  half_above = half_above_lem;
  half_below = λ n. negated away (pos (10 * n + 5)) ∙ ap neg_ℤ (half_above_lem n);
  even_above = even_above_lem;
  even_below = λ n. negated even (pos (10 * n + 5)) ∙ ap neg_ℤ (even_above_lem n);
  elsewhere = elsewhere;
  cycle_0 = refl;
  cycle_499 = refl;
  cycle_500 = refl;
  cycle_last = refl;
  of_25 = refl;
  of_35 = refl;
  of_24 = refl;
  of_minus_25 = refl;
  even_25 = refl;
  even_35 = refl;
  even_minus_25 = refl;
  even_minus_35 = refl;
  of_0 = refl;
  of_4 = refl;
  of_5 = refl;
  of_minus_4 = refl;
  of_minus_5 = refl;
  even_5 = refl;
  even_6 = refl;
  even_15 = refl;
  even_minus_5 = refl;
  even_minus_6 = refl;
  of_most = most;
  of_least = least;
}
