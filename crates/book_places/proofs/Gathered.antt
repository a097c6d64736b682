-- Numbers that pass a test, gathered and then sorted, are sorted as among all: where nothing that fails the test has a key. Assumes nothing.
use mathlib.Core.Path.{◌≡◌, sym, ap, ap₂, ◌∙◌}
use mathlib.Core.Bool.{Bool, true, false}
use Prim.Native.Nat.{ℕ, zero, suc, ◌+◌, ◌<◌, ◌≤◌}
use native.Mathlib.Omega.{arith}
use native.Mathlib.Numerals.{add-one}
use lib.Dec.{eqb}
use lib.ListN.{get_or}
use borrow.Author.Tests.{ne_eqb}
use Rattle.laws.specs.Below.{naturals, only, count}
use Rattle.laws.proofs.Bools.{split}
use Rattle.laws.proofs.Sums.{sum_cong}
use Rattle.laws.proofs.Below.{count_start, count_suc, count_lt, count_where, counts_one, counts_none}
use Rattle.book_sort.specs.Sort.{key_count, begin, sorted, place}
use Rattle.book_sort.proofs.Sorting.{place_where, sorted_at}
use Rattle.book_sort.proofs.Placing.{keys_next, keys_none}

module _ (n m : ℕ) (p : ℕ → Bool) (held class key : ℕ → ℕ)
    (stands : (y : ℕ) → y < n → p y ≡ true → held (count y p) ≡ y)
    (keyed : (i : ℕ) → i < count n p → key i ≡ class (held i))
    (none : (y : ℕ) → y < n → p y ≡ false → m ≤ class y) where
  -- The key at the place of a number that passes is its own.
  key_at_lem : (x : ℕ) → x < n → p x ≡ true → key (count x p) ≡ class x
  key_at_lem x l e = keyed (count x p) (count_lt n p x l e) ∙ ap class (stands x l e)

  -- As many of a key are gathered below x as there are.
  keys_gathered : (x c : ℕ) → x ≤ n → c < m → key_count key (count x p) c ≡ key_count class x c
  keys_gathered zero c l h = ap (λ (i : ℕ). key_count key i c) (count_start p) ∙ keys_none key c ∙ sym (keys_none class c)
  keys_gathered (suc x) c l h =
      let before = keys_gathered x c (omega arith) h in
      split (p x)
      (λ e. ap (λ (i : ℕ). key_count key i c) (more x e) ∙ keys_next key (count x p) c
      ∙ ap₂ (λ (s : ℕ) (t : ℕ). s + only naturals (eqb t c) 1) before (key_at_lem x (omega arith) e)
      ∙ sym (keys_next class x c) ∙ ap (λ (i : ℕ). key_count class i c) (add-one x))
      (λ e. ap (λ (i : ℕ). key_count key i c) (same x e) ∙ before ∙ sym (last x c h (none x (omega arith) e)))
    where
      more : (x : ℕ) → p x ≡ true → count (suc x) p ≡ count x p + 1
      more x e = omega (arith, count_suc x p, counts_one e)

      same : (x : ℕ) → p x ≡ false → count (suc x) p ≡ count x p
      same x e = omega (arith, count_suc x p, counts_none e)

      last : (x c : ℕ) → c < m → m ≤ class x → key_count class (suc x) c ≡ key_count class x c
      last x c h g =
          ap (λ (i : ℕ). key_count class i c) (sym (add-one x))
          ∙ omega (arith, keys_next class x c, counts_none (ne_eqb (class x) c (λ e. omega arith)))

  -- Each key begins where it does among all,
  pub begin_gathered : (c : ℕ) → c ≤ m → begin key (count n p) c ≡ begin class n c
  unfolding begin
  begin_gathered c l = sum_cong naturals c (key_count key (count n p)) (key_count class n) (λ d h. keys_gathered n d (omega arith) (omega arith))

  -- a number has the place that it has among all,
  place_gathered : (x : ℕ) → x < n → p x ≡ true → class x < m → place key (count n p) (count x p) ≡ place class n x
  unfolding place
  place_gathered x l e h =
      rw (key_at_lem x l e) (ap₂ ◌+◌ (begin_gathered (class x) (omega arith)) (keys_gathered x (class x) (omega arith) h))

  -- and so the lists are one.
  pub sorted_gathered : (i : ℕ) → i < begin class n m → held (get_or (sorted key (count n p) m) i 0) ≡ get_or (sorted class n m) i 0
  sorted_gathered i l =
      let (z, lz, kz, f) = place_where key (count n p) m i (rw (begin_gathered m (omega arith)) l) in
      let (x, lx, e, g) = count_where n p z lz in
      let small : class x < m = rw (sym (key_at_lem x lx e) ∙ ap key g) kz in
      let there : get_or (sorted key (count n p) m) i 0 ≡ z = ap (λ (j : ℕ). get_or (sorted key (count n p) m) j 0) (sym f) ∙ sorted_at key (count n p) m z lz kz in
      let spot : place class n x ≡ i = sym (place_gathered x lx e small) ∙ ap (place key (count n p)) g ∙ f in
      ap held (there ∙ sym g) ∙ stands x lx e ∙ sym (sorted_at class n m x lx small) ∙ ap (λ (j : ℕ). get_or (sorted class n m) j 0) spot
