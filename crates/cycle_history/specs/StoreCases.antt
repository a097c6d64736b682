-- Small examples of the store.
use Rattle.std.specs.Prelude.{◌≡◌, List, [], ◌∷◌, ℕ, ℤ, pos, negsuc, get_or}
use Rattle.laws.specs.Tables.{tabulate}
use Rattle.cycle_history.specs.Store.{Store, store, Given, given, store_refusal, stored}
use Rattle.cycle_history.specs.History.{after}

-- An empty store of one grocer.
abbrev pub empty : Store
empty = store (0 ∷ []) (tabulate 13 (λ i. pos 0)) (pos 0 ∷ [])

-- A cycle with one amount.
abbrev pub of : ℕ → ℕ → Given
of c a = given c (pos a ∷ [])

-- The sum after some calls.
abbrev pub sum_after_all : List Given → ℤ
sum_after_all qs = get_or (after 1 empty qs).sums 0 (pos 0)

-- What one more call is refused under.
abbrev pub refused_after : List Given → Given → ℕ
refused_after qs q = store_refusal 1 (after 1 empty qs) q

-- A store with this word, amount and sum.
abbrev pub odd : ℕ → ℤ → ℤ → Store
odd n a s = store (n ∷ []) (a ∷ tabulate 12 (λ i. pos 0)) (s ∷ [])

-- The examples.
pub record StoreCases : Type 0 where
  -- Cycle 0 is a first cycle like any other, and so is 65,535; after that none is above.
  pub first_0 : sum_after_all (of 0 5 ∷ []) ≡ pos 5
  pub first_last : sum_after_all (of 65_535 5 ∷ []) ≡ pos 5
  pub then_none : refused_after (of 65_535 5 ∷ []) (of 65_535 5) ≡ 35
  pub same_35 : refused_after (of 0 5 ∷ []) (of 0 7) ≡ 35
  -- Numbers 0 and 12 are within thirteen, 0 and 13 are not.
  pub within : sum_after_all (of 0 5 ∷ of 12 7 ∷ []) ≡ pos 12
  pub leaves : sum_after_all (of 0 5 ∷ of 13 7 ∷ []) ≡ pos 7
  pub leaves_one : sum_after_all (of 0 5 ∷ of 1 3 ∷ of 13 7 ∷ []) ≡ pos 10
  pub far : sum_after_all (of 0 5 ∷ of 1 3 ∷ of 500 7 ∷ []) ≡ pos 7
  -- A refused call changes nothing.
  pub refused_keeps : sum_after_all (of 4 5 ∷ of 4 9 ∷ of 3 9 ∷ of 5 1 ∷ []) ≡ pos 6
  -- 36 comes after 35, and never as 21; ±10^14 is taken.
  pub amount_36 : refused_after [] (of 4 100_000_000_000_001) ≡ 36
  pub amount_minus : store_refusal 1 empty (given 4 (negsuc 100_000_000_000_000 ∷ [])) ≡ 36
  pub amount_most : refused_after [] (of 4 100_000_000_000_000) ≡ 0
  pub both_35 : refused_after (of 4 1 ∷ []) (of 4 100_000_000_000_001) ≡ 35
  -- 20 comes first; then 21 on M, the word of the last cycle, held amounts and kept sums.
  pub short_20 : store_refusal 0 (store [] [] []) (given 4 []) ≡ 20
  pub short_amounts : store_refusal 1 empty (given 4 []) ≡ 20
  pub grocers_0 : store_refusal 0 empty (of 4 1) ≡ 21
  pub next_21 : store_refusal 1 (odd 65_537 (pos 0) (pos 0)) (of 4 1) ≡ 21
  pub held_21 : store_refusal 1 (odd 5 (pos 100_000_000_000_001) (pos 0)) (of 4 1) ≡ 21
  pub sums_21 : store_refusal 1 (odd 5 (pos 0) (pos 1_300_000_000_000_001)) (of 5 1) ≡ 21
  -- A store in range is taken as it is; its finished sums are held to the range, after 36.
  pub as_is : (stored 1 (odd 5 (pos 0) (pos 9)) (of 5 1)).store.sums ≡ pos 10 ∷ []
  pub late_21 : store_refusal 1 (odd 5 (pos 0) (pos 1_300_000_000_000_000)) (of 5 1) ≡ 21
  pub before_late : store_refusal 1 (odd 5 (pos 0) (pos 1_300_000_000_000_000)) (of 5 100_000_000_000_001) ≡ 36
