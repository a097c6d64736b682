-- Numbers below n × m, each an entry below n and a list below m. Assumes nothing.
use mathlib.Core.Path.{◌≡◌, refl, sym, ap, ap₂, ◌∙◌}
use mathlib.Core.Bool.{Bool, ◌&&◌}
use mathlib.Core.List.{List}
use Prim.Native.Nat.{ℕ, suc, zero, ◌+◌, ◌-◌, ◌*◌, ◌/◌, ◌%◌, ◌<◌, ◌≤◌}
use native.Mathlib.Omega.{arith}
use native.Mathlib.Nat.{div-lt_iff_lt-mul, le-div_iff_mul-le, mod-lt, div-add-mod', mul_comm, mul-sub}
use lib.Arith.{digits_div, digits_mod}
use lib.Dec.{eqb, ltb}
use borrow.Author.Tests.{eqb-true, eq-eqb, le-ltb}
use Rattle.laws.specs.Below.{naturals, sum, only, any, all, count}
use Rattle.laws.specs.Tables.{cell}
use Rattle.laws.proofs.Bools.{split, same_test, and_true, and_l, and_r, and_false}
use Rattle.laws.proofs.Below.{any_at, any_find, all_at, all_of_lem, count_one, count_none}
use Rattle.laws.proofs.Sums.{sum_cong, sum_digits, sum_only, sum_ones, sum_max}
use Rattle.laws.proofs.Tables.{cell_in}

-- The entry of a number is one of the table,
pub entry_in : (l n i : ℕ) → i < n * suc l → i / suc l < n
entry_in l n i h = (div-lt_iff_lt-mul {k = suc l} (omega arith)).1 h

-- and its list one of the lists.
pub list_in : (l i : ℕ) → i % suc l < suc l
list_in l i = mod-lt i (omega arith)

-- A number is that of its entry and its list.
pub both : (l i : ℕ) → i / suc l * suc l + i % suc l ≡ i
both l i = div-add-mod' i (suc l)

-- Numbers e × m + x are told apart by both.
pub pair_same : (m e e' x x' : ℕ) → x < m → x' < m → eqb (e * m + x) (e' * m + x') ≡ (eqb x' x && eqb e e')
pair_same m e e' x x' l l' =
    same_test (eqb (e * m + x) (e' * m + x')) (eqb x' x && eqb e e')
    (λ h.
    let q : e * m + x ≡ e' * m + x' = eqb-true (e * m + x) (e' * m + x') h in
    and_true
    (eq-eqb x' x (sym (digits_mod e' l') ∙ ap (λ (n : ℕ). n % m) (sym q) ∙ digits_mod e l))
    (eq-eqb e e' (sym (digits_div e l) ∙ ap (λ (n : ℕ). n / m) q ∙ digits_div e' l')))
    (λ h. eq-eqb (e * m + x) (e' * m + x')
    (ap₂ (λ (a b : ℕ). a * m + b) (eqb-true e e' (and_r (eqb x' x) (eqb e e') h)) (sym (eqb-true x' x (and_l (eqb x' x) (eqb e e') h)))))

first_of : (l i : ℕ) → (i * suc l + 0) / suc l ≡ i
first_of l i = digits_div i {m = suc l} {r = 0} (omega arith)

-- A sum of m for each number that passes.
pub sum-times : (m n : ℕ) (p : ℕ → Bool) → sum naturals n (λ a. only naturals (p a) m) ≡ sum naturals n (λ a. only naturals (p a) 1) * m
unfolding sum only naturals
sum-times m zero p = omega arith
sum-times m (suc n) p = split (p n) (λ e. rw e (omega (arith, sum-times m n p))) (λ e. rw e (omega (arith, sum-times m n p)))

module _ (l n : ℕ) (p : ℕ → Bool) where
  -- Some number's entry passes just where some entry does,
  pub any_entry : any (n * suc l) (λ i. p (i / suc l)) ≡ any n p
  any_entry =
      same_test (any (n * suc l) (λ i. p (i / suc l))) (any n p)
      (λ h. let (i, k, e) = any_find (n * suc l) (λ i. p (i / suc l)) h in any_at n p (i / suc l) (entry_in l n i k) e)
      (λ h. let (i, k, e) = any_find n p h in
      any_at (n * suc l) (λ i. p (i / suc l)) (i * suc l + 0) (cell_in i n (suc l) 0 k (omega arith)) (rw (first_of l i) e))

  -- every number's where every entry does,
  pub all_entry : all (n * suc l) (λ i. p (i / suc l)) ≡ all n p
  all_entry =
      same_test (all (n * suc l) (λ i. p (i / suc l))) (all n p)
      (λ h. all_of_lem n p (λ i k.
      rw (first_of l i) at (all_at (n * suc l) (λ i. p (i / suc l)) (i * suc l + 0) (cell_in i n (suc l) 0 k (omega arith)) h)))
      (λ h. all_of_lem (n * suc l) (λ i. p (i / suc l)) (λ i k. all_at n p (i / suc l) (entry_in l n i k) h))

  -- and each entry that passes counts once for each list.
  pub count_entry : count (n * suc l) (λ i. p (i / suc l)) ≡ count n p * suc l
  unfolding count
  count_entry =
      sum_digits naturals n (suc l) (λ i. only naturals (p (i / suc l)) 1)
      ∙ sum_cong naturals n (λ a. sum naturals (suc l) (λ b. only naturals (p ((a * suc l + b) / suc l)) 1)) (λ a. only naturals (p a) (suc l)) (λ a h.
      sum_cong naturals (suc l) (λ b. only naturals (p ((a * suc l + b) / suc l)) 1) (λ b. only naturals (p a) 1) (λ b k. rw (digits_div a k))
      ∙ sum_only naturals (suc l) (p a) (λ b. 1)
      ∙ ap (only naturals (p a)) (sum_ones (suc l)))
      ∙ sum-times (suc l) n p

-- A number past all entries has an entry past them.
pub div_past : (l n i : ℕ) → n * suc l ≤ i → n ≤ i / suc l
div_past l n i h = (le-div_iff_mul-le {k = suc l} (omega arith)).1 h

-- A cell past the columns is empty.
pub cell_past : {A : Type 0} (n m : ℕ) (l : List A) (z : A) (b o : ℕ) → m ≤ o → cell n m l z b o ≡ z
unfolding cell
cell_past n m l z b o h = rw (le-ltb o m h, and_false (ltb b n))

-- Of the lists of one entry at most one has the number g.
one_of : (x g n : ℕ) → count n (λ i. eqb (x + i) g) ≤ 1
one_of x g n =
    split (any n (λ i. eqb (x + i) g))
    (λ e.
    let (k, l, q) = any_find n (λ i. eqb (x + i) g) e in
    omega (arith, count_one n (λ i. eqb (x + i) g) k l q (λ i m h. omega (arith, eqb-true (x + i) g h, eqb-true (x + k) g q))))
    (λ e. omega (arith, count_none n (λ i. eqb (x + i) g) e))

-- So of n entries at most n.
pub few_of : (l : ℕ) (w : ℕ → ℕ) (g n : ℕ) → count (n * suc l) (λ t. eqb (w (t / suc l) * suc l + t % suc l) g) ≤ n
unfolding count
few_of l w g n =
    rw (sum_digits naturals n (suc l) (λ t. only naturals (eqb (w (t / suc l) * suc l + t % suc l) g) 1))
    (omega (
      arith,
      sum_max n 1 (λ a. sum naturals (suc l) (λ b. only naturals (eqb (w ((a * suc l + b) / suc l) * suc l + (a * suc l + b) % suc l) g) 1)) (λ a h.
          rw (sum_cong naturals (suc l) (λ b. only naturals (eqb (w ((a * suc l + b) / suc l) * suc l + (a * suc l + b) % suc l) g) 1)
          (λ b. only naturals (eqb (w a * suc l + b) g) 1) (λ b k. rw (digits_div a k, digits_mod a k)))
          (one_of (w a * suc l) g (suc l))),
    ))

-- Some number of an entry that passes has the number o just where some entry that passes has o's entry.
pub any_pair : (l : ℕ) (p : ℕ → Bool) (w : ℕ → ℕ) (n o : ℕ) →
    any (n * suc l) (λ t. p (t / suc l) && eqb (w (t / suc l) * suc l + t % suc l) o) ≡ any n (λ t. p t && eqb (w t) (o / suc l))
any_pair l p w n o =
    same_test (any (n * suc l) (λ t. p (t / suc l) && eqb (w (t / suc l) * suc l + t % suc l) o)) (any n (λ t. p t && eqb (w t) (o / suc l)))
    (λ h.
    let (t, k, e) = any_find (n * suc l) (λ t. p (t / suc l) && eqb (w (t / suc l) * suc l + t % suc l) o) h in
    any_at n (λ t. p t && eqb (w t) (o / suc l)) (t / suc l) (entry_in l n t k) (and_true
    (and_l (p (t / suc l)) _ e)
    (eq-eqb (w (t / suc l)) (o / suc l)
    (sym (digits_div (w (t / suc l)) (list_in l t)) ∙ ap (λ (x : ℕ). x / suc l) (eqb-true _ o (and_r (p (t / suc l)) _ e))))))
    (λ h.
    let (t, k, e) = any_find n (λ t. p t && eqb (w t) (o / suc l)) h in
    any_at (n * suc l) (λ t. p (t / suc l) && eqb (w (t / suc l) * suc l + t % suc l) o) (t * suc l + o % suc l) (cell_in t n (suc l) (o % suc l) k (list_in l o))
    (rw (digits_div t (list_in l o), digits_mod t (list_in l o)) (and_true
    (and_l (p t) _ e)
    (eq-eqb (w t * suc l + o % suc l) o (ap (λ (x : ℕ). x * suc l + o % suc l) (eqb-true (w t) (o / suc l) (and_r (p t) _ e)) ∙ both l o)))))

-- A sum of one number for each of m places,
sum_same : (m x : ℕ) → sum naturals m (λ i. x) ≡ x * m
unfolding sum naturals
sum_same zero x = omega arith
sum_same (suc m) x = omega (arith, sum_same m x)

-- m times a sum,
pub sum_scale : (m n : ℕ) (p : ℕ → ℕ) → sum naturals n (λ i. p i * m) ≡ sum naturals n p * m
unfolding sum naturals
sum_scale m zero p = omega arith
sum_scale m (suc n) p = omega (arith, sum_scale m n p)

-- and a sum in which each entry stands once for each list.
pub sum_entry : (l n : ℕ) (p : ℕ → ℕ) → sum naturals (n * suc l) (λ i. p (i / suc l)) ≡ sum naturals n p * suc l
sum_entry l n p =
    sum_digits naturals n (suc l) (λ i. p (i / suc l))
    ∙ sum_cong naturals n (λ a. sum naturals (suc l) (λ b. p ((a * suc l + b) / suc l))) (λ a. p a * suc l) (λ a h.
    sum_cong naturals (suc l) (λ b. p ((a * suc l + b) / suc l)) (λ b. p a) (λ b k. rw (digits_div a k))
    ∙ sum_same (suc l) (p a))
    ∙ sum_scale (suc l) n p

-- So many words for each number of a span.
pub span_times : (m from to : ℕ) → (to - from) * m ≡ to * m - from * m
span_times m from to = mul_comm (to - from) m ∙ mul-sub m to from ∙ ap₂ (λ (x y : ℕ). x - y) (mul_comm m to) (mul_comm m from)
