-- Counts and tests of the first words of a list, as std makes them. Assumes nothing.
use mathlib.Core.Path.{◌≡◌, sym, ◌∙◌}
use mathlib.Core.Bool.{Bool, true, false}
use mathlib.Core.List.{List}
use Prim.Native.Nat.{ℕ, zero, suc, ◌+◌, ◌≤◌, ◌<◌}
use native.Mathlib.Omega.{arith}
use native.Mathlib.Numerals.{add-one}
use lib.ListN.{length, get_or, take}
use Rattle.std.specs.Bool.{MatchBool}
use Rattle.std.specs.List.{count_by, range_with_len, AllWithin, HoldsAt}
use Rattle.std.proofs.lemmas.List.FromFn.{get_or-range_with_len}
use Rattle.std.proofs.lemmas.List.Sums.{count_by_more_yes, count_by_more_no}
use Rattle.laws.specs.Below.{naturals, only, count, all}
use Rattle.laws.proofs.Bools.{split}
use Rattle.laws.proofs.Below.{count_start, count_next, all_of_lem, all_fails}

yes : (b : Bool) → b ≡ true → only naturals b 1 ≡ 1
unfolding only naturals
yes b e = rw e

no : (b : Bool) → b ≡ false → only naturals b 1 ≡ 0
unfolding only naturals
no b e = rw e

-- How many of the first n words pass a test.
pub count_take : (p : ℕ → Bool) (l : List ℕ) (n : ℕ) → n ≤ length l → count_by p (take n l) ≡ count n (λ i. p (get_or l i 0))
count_take p l zero h = sym (count_start (λ i. p (get_or l i 0)))
count_take p l (suc n) h =
    let before : count_by p (take n l) ≡ count n (λ i. p (get_or l i 0)) = count_take p l n (omega arith) in
    let next : count (n + 1) (λ i. p (get_or l i 0)) ≡ count n (λ i. p (get_or l i 0)) + only naturals (p (get_or l n 0)) 1 = count_next n (λ i. p (get_or l i 0)) in
    rw (← (add-one n))
    (split (p (get_or l n 0))
    (λ e. count_by_more_yes p l n 0 (omega arith) e ∙ omega (arith, before, next, yes (p (get_or l n 0)) e))
    (λ e. count_by_more_no p l n 0 (omega arith) e ∙ omega (arith, before, next, no (p (get_or l n 0)) e)))

-- Whether all of the numbers 1 to 6 pass a test, as std asks it.
pub all_range : (p : ℕ → Bool) (r : Bool) →
    MatchBool r (AllWithin (λ x. p x ≡ true) (range_with_len 1 6) 0 (length (range_with_len 1 6))) ((k : ℕ) × (k < length (range_with_len 1 6)) × HoldsAt (λ x. p x ≡ false) (range_with_len 1 6) k) →
    r ≡ all 6 (λ i. p (suc i))
all_range p true h =
    sym (all_of_lem 6 (λ i. p (suc i)) (λ i k. let e : get_or (range_with_len 1 6) i 0 ≡ suc i = get_or-range_with_len 1 6 i 0 k ∙ omega arith in rw (← e) (h i 0 (omega arith) k)))
all_range p false (k, i, h) =
    let e : get_or (range_with_len 1 6) k 0 ≡ suc k = get_or-range_with_len 1 6 k 0 i ∙ omega arith in
    sym (all_fails 6 (λ i. p (suc i)) k i (rw (← e) (h 0)))
