-- Preference lists: the first number that passes a test, and that each word is a kind. Assumes nothing.
use mathlib.Core.Path.{◌≡◌, ◌∙◌}
use mathlib.Core.Bool.{Bool, true, false}
use mathlib.Core.List.{List}
use Prim.Native.Nat.{ℕ, zero, suc, ◌≤◌, ◌<◌}
use native.Mathlib.Omega.{arith}
use lib.Dec.{eqb}
use lib.ListN.{get_or}
use borrow.Author.Tests.{eqb-true, eqb-false}
use Rattle.laws.specs.Below.{any, find, count, sum, only, naturals}
use Rattle.laws.proofs.Bools.{split}
use Rattle.laws.proofs.Below.{any_at, any_false, any_find, all_at, count_none, count_one, count_some}
use Rattle.laws.proofs.Sums.{sum_cong, sum_swap, sum_ones, sum_tight}
use Rattle.trial_rules.specs.Rounds.{is_preference}

-- The first number that passes is the one that passes and has none before it that does.
pub find_first : (n : ℕ) (p : ℕ → Bool) (x : ℕ) → x < n → p x ≡ true → ((i : ℕ) → i < x → p i ≡ false) → find n p ≡ x
unfolding find
find_first zero p x l h none = absurd (omega arith)
find_first (suc n) p x l h none =
    split (eqb x n)
    (λ e. let q : x ≡ n = eqb-true x n e in rw (any_false n p (λ i m. none i (omega arith)), ← q, h))
    (λ e. let ne : x ≡ n → ⊥ = eqb-false x n e in rw (any_at n p x (omega arith) h) (find_first n p x (omega arith) h none))

module _ (list : List ℕ) (h : is_preference list ≡ true) where
  -- Word i of the list is kind n.
  abbrev is : ℕ → ℕ → Bool
  is i n = eqb (get_or list i 0) (suc n)

  each_once : (n : ℕ) → n < 6 → count 6 (λ i. is i n) ≡ 1
  unfolding is_preference
  each_once n l = eqb-true (count 6 (λ i. is i n)) 1 (all_at 6 (λ n. eqb (count 6 (λ i. is i n)) 1) n l h)

  -- A word is at most one kind.
  at_most : (i : ℕ) → count 6 (is i) ≤ 1
  at_most i =
      split (any 6 (is i))
      (λ e. let (n, l, q) = any_find 6 (is i) e in
      omega (
        arith,
        count_one 6 (is i) n l q (λ m k r. let a : get_or list i 0 ≡ suc m = eqb-true (get_or list i 0) (suc m) r in
            let b : get_or list i 0 ≡ suc n = eqb-true (get_or list i 0) (suc n) q in omega arith),
      ))
      (λ e. omega (arith, count_none 6 (is i) e))

  -- Six kinds, each once, in six words: every word is one.
  all_six : sum naturals 6 (λ i. count 6 (is i)) ≡ 6
  unfolding count
  all_six = sum_swap naturals 6 6 (λ i n. only naturals (is i n) 1) ∙ sum_cong naturals 6 (λ n. count 6 (λ i. is i n)) (λ n. 1) each_once ∙ sum_ones 6

  pub kind_in : (i : ℕ) → i < 6 → (1 ≤ get_or list i 0) × (get_or list i 0 ≤ 6)
  kind_in i l =
      let some : 1 ≤ count 6 (is i) = sum_tight 6 (λ i. count 6 (is i)) (λ i. 1) (λ i m. at_most i) (omega (arith, all_six, sum_ones 6)) i l in
      let (n, m, e) = any_find 6 (is i) (count_some 6 (is i) (omega arith)) in
      let q : get_or list i 0 ≡ suc n = eqb-true (get_or list i 0) (suc n) e in
      (omega arith, omega arith)
