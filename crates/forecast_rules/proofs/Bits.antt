-- Where 34 takes the lines, the value of an offer is that of each of its lines: equal bits are equal doubles. Assumes nothing.
use mathlib.Core.Path.{◌≡◌, refl, sym, ap, ◌∙◌}
use mathlib.Core.Bool.{Bool, true, false, cond, not, ◌&&◌}
use Prim.Native.Nat.{ℕ, zero, suc, ◌≤◌, ◌<◌}
use native.Mathlib.Nat.{le_refl}
use native.Mathlib.Omega.{arith}
use native.Mathlib.Decide.{ℕ_discrete}
use lib.Dec.{T, eqb}
use lib.Ieee.{Float, binary64, fits, to_bits, of_bits}
use lib.Ieee.Bits.{of_bits-to_bits}
use borrow.Author.Tests.{eqb-true, eq-eqb}
use Rattle.laws.proofs.Bools.{split, clash}
use Rattle.laws.proofs.Below.{any_none}
use Rattle.forecast_rules.specs.Doubles.{same_bits}
use Rattle.forecast_rules.specs.Lines.{Forecast, value_in, offer_value, values_differ}

-- Two doubles with the same bits are one.
pub same_is : (x y : Float) → T (fits binary64 x) → T (fits binary64 y) → same_bits x y ≡ true → x ≡ y
unfolding same_bits
same_is x y u v h = sym (of_bits-to_bits binary64 x u) ∙ ap (of_bits binary64) (eqb-true (to_bits binary64 x) (to_bits binary64 y) h) ∙ of_bits-to_bits binary64 y v

not_false_is : (t : Bool) → not t ≡ false → t ≡ true
not_false_is true h = refl
not_false_is false h = absurd (clash refl h)

module _ (f : Forecast) (fit : (i : ℕ) → T (fits binary64 (f.value i))) (ok : values_differ f ≡ false) where
  earlier : (h i : ℕ) → h < i → i < f.job.tallies → f.job.tally_offer h ≡ f.job.tally_offer i → f.value h ≡ f.value i
  unfolding values_differ
  earlier h i k l e =
      same_is (f.value h) (f.value i) (fit h) (fit i)
      (not_false_is (same_bits (f.value h) (f.value i))
      (rw (eq-eqb (f.job.tally_offer h) (f.job.tally_offer i) e) at
      (any_none i (λ h. eqb (f.job.tally_offer h) (f.job.tally_offer i) && not (same_bits (f.value h) (f.value i))) h k
      (any_none f.job.tallies (λ i. any' i) i l ok))))
    where
      any' : ℕ → Bool
      any' i = Rattle.laws.specs.Below.any i (λ h. eqb (f.job.tally_offer h) (f.job.tally_offer i) && not (same_bits (f.value h) (f.value i)))

  value_of : (n i : ℕ) → i < n → n ≤ f.job.tallies → value_in f n (f.job.tally_offer i) ≡ f.value i
  unfolding value_in
  value_of zero i l m = absurd (omega arith)
  value_of (suc n) i l m = go (ℕ_discrete i n) (λ h k. value_of n i h k)
    where
      go : Dec (i ≡ n) → (i < n → n ≤ f.job.tallies → value_in f n (f.job.tally_offer i) ≡ f.value i) → cond (eqb (f.job.tally_offer n) (f.job.tally_offer i)) (f.value n) (value_in f n (f.job.tally_offer i)) ≡ f.value i
      go (yes e) ih = rw (e, eq-eqb (f.job.tally_offer n) (f.job.tally_offer n) refl)
      go (no d) ih =
          split (eqb (f.job.tally_offer n) (f.job.tally_offer i))
          (λ e. rw e (sym (earlier i n (omega arith) (omega arith) (sym (eqb-true (f.job.tally_offer n) (f.job.tally_offer i) e)))))
          (λ e. rw e (ih (omega arith) (omega arith)))

  pub line-value : (i : ℕ) → i < f.job.tallies → offer_value f (f.job.tally_offer i) ≡ f.value i
  unfolding offer_value
  line-value i l = value_of f.job.tallies i l (le_refl f.job.tallies)
