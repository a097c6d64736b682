-- The last line of each offer that was seen, and what it tells of all lines before. Assumes nothing.
use mathlib.Core.Path.{◌≡◌, refl, sym, ap, ◌∙◌}
use mathlib.Core.Bool.{true, false, cond, not, ◌&&◌}
use mathlib.Core.List.{List}
use Prim.Native.Nat.{ℕ, zero, suc, ◌+◌, ◌-◌, ◌≤◌, ◌<◌}
use native.Mathlib.Omega.{arith}
use native.Mathlib.Decide.{ℕ_discrete}
use lib.Dec.{eqb}
use lib.ListN.{get_or, set, length, length-set, replicate}
use lib.Seq.{get_or-set_same, get_or-set_other}
use lib.Ieee.{Float, binary64, to_bits}
use borrow.Author.Tests.{eqb-true, eq-eqb, ne_eqb, not-true, not-false}
use Rattle.laws.specs.Below.{any}
use Rattle.laws.proofs.Bools.{split, and_l, and_r, and_true, or_l, or_r, or_off, no_true, clash}
use Rattle.laws.proofs.Below.{any_at, any_false}
use Rattle.forecast_rules.specs.Doubles.{zero+, is_value, same_bits}
use Rattle.forecast_doubles.specs.BadLines.{outside, line_bad, pair_bad, bad_lines}

-- A list of zeros.
pub zeros : (n o : ℕ) → get_or (replicate {A = ℕ} n 0) o 0 ≡ 0
zeros zero o = refl
zeros (suc n) zero = refl
zeros (suc n) (suc o) = zeros n o

-- Equal bits.
same_trans : (x y z : Float) → same_bits x y ≡ true → same_bits y z ≡ true → same_bits x z ≡ true
unfolding same_bits
same_trans x y z h k = eq-eqb (to_bits binary64 x) (to_bits binary64 z) (eqb-true (to_bits binary64 x) (to_bits binary64 y) h ∙ eqb-true (to_bits binary64 y) (to_bits binary64 z) k)

same_turn : (x y : Float) → same_bits x y ≡ true → same_bits y x ≡ true
unfolding same_bits
same_turn x y h = eq-eqb (to_bits binary64 y) (to_bits binary64 x) (sym (eqb-true (to_bits binary64 x) (to_bits binary64 y) h))

same_self : (x : Float) → same_bits x x ≡ true
unfolding same_bits
same_self x = eq-eqb (to_bits binary64 x) (to_bits binary64 x) refl

module _ (offer : List ℕ) (rate value : List Float) where
  -- The first i lines are in range; `seen` has for each offer one more than its last line among them, or 0; lines of one offer have the bits of that one.
  pub record Seen (i : ℕ) (seen : List ℕ) : Type 0 where
    pub long : length seen ≡ 500
    pub range : (h : ℕ) → h < i → outside rate value h ≡ false
    pub none : (o h : ℕ) → h < i → get_or offer h 0 ≡ o → get_or seen o 0 ≡ 0 → ⊥
    pub last : (o k : ℕ) → get_or seen o 0 ≡ suc k → (k < i) × (get_or offer k 0 ≡ o)
    pub same : (o k h : ℕ) → get_or seen o 0 ≡ suc k → h < i → get_or offer h 0 ≡ o → same_bits (get_or value h zero+) (get_or value k zero+) ≡ true

  pub seen_none : (seen : List ℕ) → length seen ≡ 500 → ((o : ℕ) → get_or seen o 0 ≡ 0) → Seen 0 seen
  seen_none seen l z = record {
    long = l;
    range = λ h k. absurd (omega arith);
    none = λ o h k. absurd (omega arith);
    last = λ o k e. absurd (omega (arith, z o, e));
    same = λ o k h e l. absurd (omega arith);
  }

  -- A value that was passed is in range.
  pub value_in_lem : (i : ℕ) (seen : List ℕ) → Seen i seen → (h : ℕ) → h < i → is_value (get_or value h zero+) ≡ true
  unfolding outside
  value_in_lem i seen y h l = and_r (is_value (get_or rate h zero+)) _ (not-false (is_value (get_or rate h zero+) && is_value (get_or value h zero+)) (y.range h l))

  -- The last line of an offer is one of those passed.
  pub last_few : (i : ℕ) (seen : List ℕ) → Seen i seen → (o : ℕ) → get_or seen o 0 ≤ i
  last_few i seen y o = go (get_or seen o 0) refl
    where
      go : (w : ℕ) → get_or seen o 0 ≡ w → w ≤ i
      go zero e = omega arith
      go (suc k) e = omega (arith, (y.last o k e).0)

  -- One line more.
  module _ (i o : ℕ) (seen : List ℕ) (y : Seen i seen) (is : o ≡ get_or offer i 0) where
    -- A line that is bad: 34 is met.
    pub bad_yes : (n : ℕ) → i < n → line_bad i (get_or seen o 0) rate value ≡ true → true ≡ bad_lines n offer rate value
    unfolding line_bad bad_lines pair_bad
    bad_yes n l h =
        sym (split (outside rate value i)
        (λ e. or_l (any n (outside rate value)) _ (any_at n (outside rate value) i l e))
        (λ e. or_r (any n (outside rate value)) _ (any_at n (λ i. any i (λ h. pair_bad offer value h i)) i l (pair (get_or seen o 0) refl (rw e at h)))))
      where
        two : (k : ℕ) → get_or offer k 0 ≡ o → not (same_bits (get_or value (suc k - 1) zero+) (get_or value i zero+)) ≡ true → pair_bad offer value k i ≡ true
        two k e q = let z : suc k - 1 ≡ k = omega arith in and_true (eq-eqb (get_or offer k 0) (get_or offer i 0) (e ∙ is)) (rw z at q)

        pair : (w : ℕ) → get_or seen o 0 ≡ w → cond (eqb w 0) false (not (same_bits (get_or value (w - 1) zero+) (get_or value i zero+))) ≡ true → any i (λ h. pair_bad offer value h i) ≡ true
        pair zero e q = absurd (clash q refl)
        pair (suc k) e q =
            let b = y.last o k e in
            any_at i (λ h. pair_bad offer value h i) k b.0 (two k b.1 (rw (ne_eqb (suc k) 0 (λ z. omega arith)) at q))

    -- A line that is not: it is the last of its offer.
    module _ (ok : line_bad i (get_or seen o 0) rate value ≡ false) (room : o < 500) where
      here : outside rate value i ≡ false
      unfolding line_bad
      here = (or_off (outside rate value i) _ ok).0

      -- Its value has the bits of the last one before.
      bits : (k : ℕ) → get_or seen o 0 ≡ suc k → same_bits (get_or value k zero+) (get_or value i zero+) ≡ true
      unfolding line_bad
      bits k e =
          let z : suc k - 1 ≡ k = omega arith in
          not-false (same_bits (get_or value k zero+) (get_or value i zero+)) (rw (e, ne_eqb (suc k) 0 (λ z. omega arith), z) at (or_off (outside rate value i) _ ok).1)

      -- So has every earlier one of the offer.
      all_bits : (h : ℕ) → h < i → get_or offer h 0 ≡ o → same_bits (get_or value h zero+) (get_or value i zero+) ≡ true
      all_bits h l e = go (get_or seen o 0) refl
        where
          go : (w : ℕ) → get_or seen o 0 ≡ w → same_bits (get_or value h zero+) (get_or value i zero+) ≡ true
          go zero z = absurd (y.none o h l e z)
          go (suc k) z = same_trans (get_or value h zero+) (get_or value k zero+) (get_or value i zero+) (y.same o k h z l e) (bits k z)

      at_o : get_or (set seen o (i + 1)) o 0 ≡ i + 1
      at_o = get_or-set_same seen o (i + 1) 0 (omega (arith, y.long))

      pub seen_more : Seen (i + 1) (set seen o (i + 1))
      seen_more = record {
        long = length-set seen o (i + 1) ∙ y.long;
        range = λ h l. elim (ℕ_discrete h i) [ yes e ↦ rw e here | no e ↦ y.range h (omega (arith, e)) ];
        none = λ p h l e z. elim (ℕ_discrete p o) [
          | yes q ↦ omega (arith, at_o, rw q at z)
          | no q ↦ elim (ℕ_discrete h i) [
            | yes u ↦ q (sym e ∙ ap (λ (x : ℕ). get_or offer x 0) u ∙ sym is)
            | no u ↦ y.none p h (omega (arith, u)) e (sym (get_or-set_other seen o p (i + 1) 0 q) ∙ z)
          ]
        ];
        last = λ p k e. elim (ℕ_discrete p o) [
          | yes q ↦ let z : k ≡ i = omega (arith, at_o, rw q at e) in (omega arith, rw (z, q) (sym is))
          | no q ↦ let b = y.last p k (sym (get_or-set_other seen o p (i + 1) 0 q) ∙ e) in (omega (arith, b.0), b.1)
        ];
        same = λ p k h e l u. elim (ℕ_discrete p o) [
          | yes q ↦ let z : k ≡ i = omega (arith, at_o, rw q at e) in rw z (own h l (u ∙ q))
          | no q ↦ elim (ℕ_discrete h i) [
            | yes v ↦ absurd (q (sym u ∙ ap (λ (x : ℕ). get_or offer x 0) v ∙ sym is))
            | no v ↦ y.same p k h (sym (get_or-set_other seen o p (i + 1) 0 q) ∙ e) (omega (arith, v)) u
          ]
        ];
      }
        where
          own : (h : ℕ) → h < i + 1 → get_or offer h 0 ≡ o → same_bits (get_or value h zero+) (get_or value i zero+) ≡ true
          own h l e = elim (ℕ_discrete h i) [ yes v ↦ rw v (same_self (get_or value i zero+)) | no v ↦ all_bits h (omega (arith, v)) e ]

  -- All lines are passed: 34 is not met.
  pub bad_no : (n : ℕ) (seen : List ℕ) → Seen n seen → false ≡ bad_lines n offer rate value
  unfolding bad_lines pair_bad
  bad_no n seen y =
      sym (rw (any_false n (outside rate value) y.range) (any_false n (λ i. any i (λ h. pair_bad offer value h i)) (λ i l. any_false i (λ h. pair_bad offer value h i) (λ h k. apart h i l k))))
    where
      apart : (h i : ℕ) → i < n → h < i → pair_bad offer value h i ≡ false
      apart h i l k = no_true (pair_bad offer value h i)
          (λ q. clash (agree (eqb-true (get_or offer h 0) (get_or offer i 0) (and_l (eqb (get_or offer h 0) (get_or offer i 0)) _ q))) (not-true (same_bits (get_or value h zero+) (get_or value i zero+))
          (and_r (eqb (get_or offer h 0) (get_or offer i 0)) _ q)))
        where
          agree : get_or offer h 0 ≡ get_or offer i 0 → same_bits (get_or value h zero+) (get_or value i zero+) ≡ true
          agree e = go (get_or seen (get_or offer i 0) 0) refl
            where
              go : (w : ℕ) → get_or seen (get_or offer i 0) 0 ≡ w → same_bits (get_or value h zero+) (get_or value i zero+) ≡ true
              go zero z = absurd (y.none (get_or offer i 0) h (omega (arith, k, l)) e z)
              go (suc j) z = same_trans (get_or value h zero+) (get_or value j zero+) (get_or value i zero+) (y.same (get_or offer i 0) j h z (omega (arith, k, l)) e) (same_turn (get_or value i zero+) (get_or value j zero+) (y.same
                  (get_or offer i 0) j i z l refl))
