-- The first words of a list tested one by one: by a loop that ends at the first that fails, by a fold, and by the library's `all`. Assumes nothing.
use mathlib.Core.Path.{◌≡◌, refl, sym, ap, ◌∙◌}
use mathlib.Core.Bool.{Bool, true, false, ◌&&◌}
use Prim.Native.Nat.{ℕ, zero, suc, ◌+◌, ◌<◌, ◌≤◌}
use native.Mathlib.Nat.{le_antisymm}
use mathlib.Core.List.{List}
use lib.ListN.{length, take, get_or}
use Rattle.std.proofs.Common.{get_or-take, length-take-le}
use Rattle.std.specs.Bool.{MatchBool}
use Rattle.std.specs.List.{fold, AllWithin, HoldsAt}
use Rattle.std.proofs.lemmas.List.Sums.{fold_more}
use native.Mathlib.Omega.{arith}
use native.Mathlib.Numerals.{add-one}
use Rattle.laws.specs.Below.{all}
use Rattle.laws.proofs.Bools.{and_true}
use Rattle.laws.proofs.Below.{all_next, all_of_lem, all_fails}

module _ (p : ℕ → Bool) where
  -- No word yet.
  pub test_none : all 0 p ≡ true
  unfolding all
  test_none = refl

  -- One word more that passes.
  pub test_more : (i : ℕ) → all i p ≡ true → p i ≡ true → all (i + 1) p ≡ true
  test_more i h q = all_next i p ∙ and_true h q

  -- One that fails.
  pub test_fails : (n i : ℕ) → i < n → p i ≡ false → false ≡ all n p
  test_fails n i l q = sym (all_fails n p i l q)

  -- All have passed.
  pub test_ends : (n i : ℕ) → i ≤ n → n ≤ i → all i p ≡ true → true ≡ all n p
  test_ends n i l m h = rw (le_antisymm m l) (sym h)

-- Tests of the first words of a list, folded, are the tests by place.
pub all_fold : {A : Type 0} (p : A → Bool) (d : A) (n : ℕ) (xs : List A) → n ≤ length xs → fold (λ b x. b && p x) true (take n xs) ≡ all n (λ i. p (get_or xs i d))
unfolding all
all_fold p d zero xs h = refl
all_fold p d (suc n) xs h =
    rw (← add-one n, fold_more (λ b x. b && p x) true xs n d h) (ap (λ (b : Bool). b && p (get_or xs n d)) (all_fold p d n xs (omega arith)))

-- An answer by cases over the first words of a list is the tests by place.
pub all_cases : {A : Type 0} (p : A → Bool) (d : A) (n : ℕ) (xs : List A) (r : Bool) → n ≤ length xs →
    MatchBool r (AllWithin (λ x. p x ≡ true) (take n xs) 0 (length (take n xs))) ((k : ℕ) × (k < length (take n xs)) × HoldsAt (λ x. p x ≡ false) (take n xs) k) →
    r ≡ all n (λ i. p (get_or xs i d))
all_cases p d n xs true l h =
    sym (all_of_lem n (λ i. p (get_or xs i d)) (λ i k. rw (← (get_or-take n xs i d k)) (h i d (omega arith) (rw (length-take-le n xs l) k))))
all_cases p d n xs false l (k, i, h) =
    let below : k < n = rw (length-take-le n xs l) at i in
    sym (all_fails n (λ i. p (get_or xs i d)) k below (rw (← (get_or-take n xs k d below)) (h d)))
