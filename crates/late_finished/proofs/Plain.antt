-- Plain sums, one tally after the other. Assumes nothing.
use mathlib.Core.Path.{◌≡◌, sym, ap, ap₂, ◌∙◌}
use mathlib.Core.Bool.{Bool, true, false, cond, ◌&&◌}
use mathlib.Core.List.{List}
use Prim.Native.Nat.{ℕ, ◌+◌, ◌*◌, ◌<◌, ◌≤◌}
use native.Mathlib.Omega.{arith}
use lib.Dec.{eqb, ltb}
use lib.IntN.{ℤ, pos, nat_abs, ◌+ℤ◌, ◌*ℤ◌}
use lib.ListN.{get_or, set, length, length-set}
use lib.Seq.{get_or-set_same, get_or-set_other}
use borrow.Author.Tests.{eqb-true, eqb-false}
use Rattle.laws.specs.Below.{sum, only, integers}
use Rattle.laws.specs.Tables.{tabulate}
use Rattle.laws.proofs.Below.{all_cong}
use Rattle.laws.proofs.Bools.{split}
use Rattle.laws.proofs.Signed.{abs_times_le, only_abs, sum_abs}
use Rattle.laws.proofs.Sums.{sum_start, sum_next_lem}
use Rattle.laws.proofs.Tables.{get_d_tabulate}
use Rattle.late_rules.specs.Late.{same_amount}
use Rattle.late_finished.specs.Tests.{sum_by, right_amounts, TallyLent, ListLent}

module _ (k t n : ℕ) (held grocer offer : List ℕ) (count : List ℤ) (price : List ℕ) (at : ℕ) where
  -- What tally i is worth.
  abbrev worth : ℕ → ℤ
  worth i = get_or count i (pos 0) *ℤ pos (get_or price (at + get_or offer i 0) 0)

  -- The sums once tally i is taken.
  abbrev pub after : List ℤ → ℕ → List ℤ
  after w i = cond (ltb (get_or held i 0) k) (set w (get_or grocer i 0) (get_or w (get_or grocer i 0) (pos 0) +ℤ worth i)) w

  pub sum_none : (g : ℕ) → sum_by k 0 held grocer offer count price at g ≡ pos 0
  unfolding sum_by integers
  sum_none g = sum_start integers _

  module _ (s : ListLent t n held grocer offer count price at) where
    -- What taking a tally asks.
    pub tally_lent : (i : ℕ) → i < t → TallyLent held grocer offer count price at i
    tally_lent i l = record {
      held_long = omega (arith, s.held_long);
      grocer_long = omega (arith, s.grocer_long);
      offer_long = omega (arith, s.offer_long);
      count_long = omega (arith, s.count_long);
      price_long = omega (arith, s.offer< i l, s.price_long);
      count≤ = s.count≤ i l;
      price≤ = s.price≤ (get_or offer i 0) (s.offer< i l);
    }

    -- A sum so far is small.
    pub sum-small : (i g : ℕ) → i ≤ t → nat_abs (sum_by k i held grocer offer count price at g) ≤ 2_000_000_000_000_000
    unfolding sum_by
    sum-small i g l =
        omega (
          arith,
          s.tallies≤,
          sum_abs i 999_989_900_001 (λ i. only integers (ltb (get_or held i 0) k && eqb (get_or grocer i 0) g) (worth i))
              (λ j q. only_abs (ltb (get_or held j 0) k && eqb (get_or grocer j 0) g) (worth j) 999_989_900_001
              (abs_times_le (get_or count j (pos 0)) (pos (get_or price (at + get_or offer j 0) 0)) (s.count≤ j (omega arith)) (s.price≤ (get_or offer j 0) (s.offer< j (omega arith))))),
        )

  -- One tally more.
  pub sum_more : (w : List ℤ) (i g : ℕ) → g < length w → get_or w g (pos 0) ≡ sum_by k i held grocer offer count price at g →
      get_or (after w i) g (pos 0) ≡ sum_by k (i + 1) held grocer offer count price at g
  unfolding sum_by integers only
  sum_more w i g l e =
      split (ltb (get_or held i 0) k)
      (λ q. rw q
      (split (eqb (get_or grocer i 0) g)
      (λ m. let same : get_or grocer i 0 ≡ g = eqb-true (get_or grocer i 0) g m in
      rw same (get_or-set_same w g _ (pos 0) l ∙ ap (λ (x : ℤ). x +ℤ worth i) e) ∙ sym (step (ap₂ ◌&&◌ q m)))
      (λ m. get_or-set_other w (get_or grocer i 0) g _ (pos 0) (λ x. eqb-false (get_or grocer i 0) g m (sym x)) ∙ e ∙ sym (nothing (ap₂ ◌&&◌ q m)))))
      (λ q. rw q (e ∙ sym (nothing (ap (λ (b : Bool). b && eqb (get_or grocer i 0) g) q))))
    where
      term : ℕ → ℤ
      term j = cond (ltb (get_or held j 0) k && eqb (get_or grocer j 0) g) (worth j) (pos 0)

      step : (ltb (get_or held i 0) k && eqb (get_or grocer i 0) g) ≡ true → sum integers (i + 1) term ≡ sum integers i term +ℤ worth i
      step b = sum_next_lem integers i term ∙ ap (λ (x : Bool). sum integers i term +ℤ cond x (worth i) (pos 0)) b

      nothing : (ltb (get_or held i 0) k && eqb (get_or grocer i 0) g) ≡ false → sum integers (i + 1) term ≡ sum integers i term
      nothing b =
          sum_next_lem integers i term
          ∙ ap (λ (x : Bool). sum integers i term +ℤ cond x (worth i) (pos 0)) b
          ∙ integers.idr (sum integers i term)

  -- The sums stay as many.
  pub sums_long_lem : (w : List ℤ) (i : ℕ) → length (after w i) ≡ length w
  sums_long_lem w i = split (ltb (get_or held i 0) k) (λ q. rw q (length-set w _ _)) (λ q. rw q)

-- The statements on a list, compared with sums that are written down.
pub amounts_told : (m width q : ℕ) (statement : List ℤ) (f : ℕ → ℤ) → m ≤ 255 →
    right_amounts m width q statement (λ g. get_or (tabulate 255 f) g (pos 0)) ≡ right_amounts m width q statement f
unfolding right_amounts
amounts_told m width q statement f l =
    all_cong m _ _ (λ g h. ap (same_amount (get_or statement (g * width + q) (pos 0))) (get_d_tabulate 255 f g (pos 0) (omega arith)))
