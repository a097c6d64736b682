-- Laws of any, all and count over the numbers below a bound. Assumes nothing.
use mathlib.Core.Path.{◌≡◌, refl, sym, ap, ap₂, ◌∙◌}
use mathlib.Core.Bool.{Bool, true, false, cond, ◌&&◌, ◌||◌, false≢true, not}
use Prim.Native.Nat.{ℕ, zero, suc, ◌+◌, ◌<◌, ◌≤◌}
use native.Mathlib.Omega.{arith}
use native.Mathlib.Numerals.{add-one}
use lib.Dec.{eqb, ltb}
use borrow.Author.Tests.{eqb-true, eqb-false, ne_eqb, ltb-true, ltb-false}
use Rattle.laws.specs.Below.{naturals, sum, only, any, all, count, find, Order}
use Rattle.laws.proofs.Bools.{split, clash, no_true, same_test, and_true, and_l, and_r, and_one, or_true, or_false, eqb_same, and_false}
use Rattle.laws.proofs.Sums.{sum_cong, sum_none, sum_one, sum_max, sum_next_lem}

-- One place more, as code counts.
pub any_next : (n : ℕ) (p : ℕ → Bool) → any (n + 1) p ≡ (any n p || p n)
unfolding any
any_next n p = rw (add-one n)

pub all_next : (n : ℕ) (p : ℕ → Bool) → all (n + 1) p ≡ (all n p && p n)
unfolding all
all_next n p = rw (add-one n)

pub all_start : (p : ℕ → Bool) → all 0 p ≡ true
unfolding all
all_start p = refl

pub count_next : (n : ℕ) (p : ℕ → Bool) → count (n + 1) p ≡ count n p + only naturals (p n) 1
unfolding count naturals
count_next n p = sum_next_lem naturals n (λ i. only naturals (p i) 1)

pub count_start : (p : ℕ → Bool) → count 0 p ≡ 0
unfolding count sum naturals
count_start p = refl

pub count_suc : (n : ℕ) (p : ℕ → Bool) → count (suc n) p ≡ count n p + only naturals (p n) 1
unfolding count sum naturals
count_suc n p = refl

-- What one number adds to a count.
pub counts_one : {t : Bool} → t ≡ true → only naturals t 1 ≡ 1
unfolding only naturals
counts_one e = rw e

pub counts_none : {t : Bool} → t ≡ false → only naturals t 1 ≡ 0
unfolding only naturals
counts_none e = rw e

-- A search in a loop, one test a turn.
pub any_more : (i : ℕ) (p : ℕ → Bool) (a b : Bool) → a ≡ any i p → b ≡ p i → (a || b) ≡ any (i + 1) p
any_more i p a b h e = rw (h, e) (sym (any_next i p))

-- The same where every number is to pass.
pub all_more : (i : ℕ) (p : ℕ → Bool) (a b : Bool) → a ≡ all i p → b ≡ p i → (a && b) ≡ all (i + 1) p
all_more i p a b h e = ap₂ ◌&&◌ h e ∙ sym (all_next i p)

-- A search ends: all n numbers are looked at.
pub any_end : (i n : ℕ) (p : ℕ → Bool) (a : Bool) → i ≡ n → a ≡ any i p → a ≡ any n p
any_end i n p a e h = h ∙ ap (λ (k : ℕ). any k p) e

-- Tests that agree below the bound.
pub any_cong : (n : ℕ) (p q : ℕ → Bool) → ((i : ℕ) → i < n → p i ≡ q i) → any n p ≡ any n q
unfolding any
any_cong zero p q h = refl
any_cong (suc n) p q h = ap₂ ◌||◌ (any_cong n p q (λ i l. h i (omega arith))) (h n (omega arith))

-- They find the same number.
pub find_cong : (n : ℕ) (p q : ℕ → Bool) → ((i : ℕ) → i < n → p i ≡ q i) → find n p ≡ find n q
unfolding find
find_cong zero p q h = refl
find_cong (suc n) p q h = rw (any_cong n p q (λ i l. h i (omega arith)), find_cong n p q (λ i l. h i (omega arith)), h n (omega arith))

-- No number below n passes.
pub any_false : (n : ℕ) (p : ℕ → Bool) → ((i : ℕ) → i < n → p i ≡ false) → any n p ≡ false
unfolding any
any_false zero p h = refl
any_false (suc n) p h = rw (any_false n p (λ i l. h i (omega arith)), h n (omega arith))

-- One number that passes.
pub any_at : (n : ℕ) (p : ℕ → Bool) (i : ℕ) → i < n → p i ≡ true → any n p ≡ true
unfolding any
any_at zero p i l h = absurd (omega arith)
any_at (suc n) p i l h =
    split (eqb i n)
    (λ q. rw (← (eqb-true i n q), h) (or_true (any i p)))
    (λ q. let d : i ≡ n → ⊥ = eqb-false i n q in rw (any_at n p i (omega arith) h))

pub any_none : (n : ℕ) (p : ℕ → Bool) (i : ℕ) → i < n → any n p ≡ false → p i ≡ false
any_none n p i l h = split (p i) (λ e. absurd (false≢true (sym h ∙ any_at n p i l e))) (λ e. e)

-- Where some number passes there is one.
pub any_find : (n : ℕ) (p : ℕ → Bool) → any n p ≡ true → (i : ℕ) × (i < n) × (p i ≡ true)
unfolding any
any_find zero p h = absurd (false≢true h)
any_find (suc n) p h =
    split (p n)
    (λ e. (n, omega arith, e))
    (λ e. let (i, l, f) = any_find n p (sym (or_false (any n p)) ∙ (rw e at h)) in (i, omega arith, f))

pub all_at : (n : ℕ) (p : ℕ → Bool) (i : ℕ) → i < n → all n p ≡ true → p i ≡ true
unfolding all
all_at zero p i l h = absurd (omega arith)
all_at (suc n) p i l h =
    split (eqb i n)
    (λ q. rw (eqb-true i n q) (and_r (all n p) (p n) h))
    (λ q. let d : i ≡ n → ⊥ = eqb-false i n q in all_at n p i (omega arith) (and_l (all n p) (p n) h))

pub all_of_lem : (n : ℕ) (p : ℕ → Bool) → ((i : ℕ) → i < n → p i ≡ true) → all n p ≡ true
unfolding all
all_of_lem zero p h = refl
all_of_lem (suc n) p h = and_true (all_of_lem n p (λ i l. h i (omega arith))) (h n (omega arith))

pub all_cong : (n : ℕ) (p q : ℕ → Bool) → ((i : ℕ) → i < n → p i ≡ q i) → all n p ≡ all n q
unfolding all
all_cong zero p q h = refl
all_cong (suc n) p q h = ap₂ ◌&&◌ (all_cong n p q (λ i l. h i (omega arith))) (h n (omega arith))

-- Where not every number passes there is one that does not.
pub all_find : (n : ℕ) (p : ℕ → Bool) → all n p ≡ false → (i : ℕ) × (i < n) × (p i ≡ false)
unfolding all
all_find zero p h = absurd (false≢true (sym h))
all_find (suc n) p h =
    split (p n)
    (λ e. let (i, l, f) = all_find n p (sym (and_one (all n p)) ∙ (rw e at h)) in (i, omega arith, f))
    (λ e. (n, omega arith, e))

pub all_fails : (n : ℕ) (p : ℕ → Bool) (i : ℕ) → i < n → p i ≡ false → all n p ≡ false
all_fails n p i l e = no_true (all n p) (λ q. clash (all_at n p i l q) e)

pub count_cong : (n : ℕ) (p q : ℕ → Bool) → ((i : ℕ) → i < n → p i ≡ q i) → count n p ≡ count n q
unfolding count
count_cong n p q h = sum_cong naturals n (λ i. only naturals (p i) 1) (λ i. only naturals (q i) 1) (λ i l. rw (h i l))

pub count_none : (n : ℕ) (p : ℕ → Bool) → any n p ≡ false → count n p ≡ 0
unfolding count only naturals
count_none n p h = sum_none naturals n (λ i. only naturals (p i) 1) (λ i l. rw (any_none n p i l h))

pub only_le : (t : Bool) (x : ℕ) → only naturals t x ≤ x
unfolding only naturals
only_le true x = omega arith
only_le false x = omega arith

pub count_le : (n : ℕ) (p : ℕ → Bool) → count n p ≤ n
unfolding count
count_le n p = omega (arith, sum_max n 1 (λ i. only naturals (p i) 1) (λ i l. only_le (p i) 1))

-- The first number counted apart.
pub count_first : (n : ℕ) (p : ℕ → Bool) → count (suc n) p ≡ only naturals (p 0) 1 + count n (λ i. p (suc i))
unfolding count sum naturals
count_first zero p = omega arith
count_first (suc n) p = rw (count_first n p) (omega arith)

-- Numbers past n that do not pass are not counted.
pub count_past : (n m : ℕ) (p : ℕ → Bool) → ((i : ℕ) → n ≤ i → p i ≡ false) → count (m + n) p ≡ count n p
unfolding count sum naturals only
count_past n zero p h = rw (zero_plus n)
  where
    zero_plus : (n : ℕ) → 0 + n ≡ n
    zero_plus n = omega arith
count_past n (suc m) p h = rw (suc_plus m n, h (m + n) (omega arith)) (omega (arith, count_past n m p h))
  where
    suc_plus : (m n : ℕ) → suc m + n ≡ suc (m + n)
    suc_plus m n = omega arith

-- No number counted: none passes.
pub count_zero : (n : ℕ) (p : ℕ → Bool) (i : ℕ) → i < n → count n p ≡ 0 → p i ≡ false
unfolding count sum only naturals
count_zero zero p i l h = absurd (omega arith)
count_zero (suc n) p i l h =
    split (p n)
    (λ f. absurd (let h' : count n p + cond {A = ℕ} true 1 0 ≡ 0 = rw f at h in omega arith))
    (λ f. let h' : count n p + cond {A = ℕ} false 1 0 ≡ 0 = rw f at h in
    split (eqb i n)
    (λ e. rw (eqb-true i n e) f)
    (λ e. let ne : i ≡ n → ⊥ = eqb-false i n e in count_zero n p i (omega arith) (omega arith)))

-- A number that passes is counted.
pub count_at : (n : ℕ) (p : ℕ → Bool) (i : ℕ) → i < n → p i ≡ true → 0 < count n p
count_at n p i l h =
    split (eqb (count n p) 0)
    (λ e. absurd (clash h (count_zero n p i l (eqb-true (count n p) 0 e))))
    (λ e. let ne : count n p ≡ 0 → ⊥ = eqb-false (count n p) 0 e in omega arith)

-- Where some are counted, some number passes.
pub count_some : (n : ℕ) (p : ℕ → Bool) → 0 < count n p → any n p ≡ true
count_some n p h = split (any n p) (λ e. e) (λ e. absurd (omega (arith, count_none n p e)))

-- A number that passes is counted behind those before it.
pub count_lt : (n : ℕ) (p : ℕ → Bool) (i : ℕ) → i < n → p i ≡ true → count i p < count n p
count_lt zero p i l h = absurd (omega arith)
count_lt (suc n) p i l h =
    split (eqb i n)
    (λ q. let e : i ≡ n = eqb-true i n q in rw e (omega (arith, count_suc n p, counts_one (rw e at h))))
    (λ q. let ne : i ≡ n → ⊥ = eqb-false i n q in omega (arith, count_suc n p, count_lt n p i (omega arith) h))

-- Each place below the count has a number that passes, with so many before it.
pub count_where : (n : ℕ) (p : ℕ → Bool) (i : ℕ) → i < count n p → (y : ℕ) × (y < n) × (p y ≡ true) × (count y p ≡ i)
count_where zero p i l = absurd (omega (arith, count_le 0 p))
count_where (suc n) p i l =
    split (ltb i (count n p))
    (λ q. let (y, m, h, e) = count_where n p i (ltb-true i (count n p) q) in (y, omega arith, h, e))
    (λ q. let g : count n p ≤ i = ltb-false i (count n p) q in
    split (p n)
    (λ f. (n, omega arith, f, omega (arith, count_suc n p, counts_one f)))
    (λ f. absurd (omega (arith, count_suc n p, counts_none f))))

-- The test of one number that does not pass is changed, and no other.
pub count_one_more : (n k : ℕ) (p q : ℕ → Bool) → k < n → p k ≡ false → ((i : ℕ) → i < n → (i ≡ k → ⊥) → q i ≡ p i) → count n q ≡ count n p + only naturals (q k) 1
unfolding count naturals
count_one_more n k p q l off h =
    sum_one naturals n k (λ i. only naturals (p i) 1) (λ i. only naturals (q i) 1) (only naturals (q k) 1) l
    (omega (arith, counts_none off))
    (λ i m ne. ap (λ (t : Bool). only naturals t 1) (h i m ne))

-- One number more passes where t holds.
pub count_with : (n k : ℕ) (p : ℕ → Bool) (t : Bool) → k < n → p k ≡ false → count n (λ i. p i || (t && eqb k i)) ≡ count n p + only naturals t 1
count_with n k p t l off =
    count_one_more n k p (λ i. p i || (t && eqb k i)) l off
    (λ i m ne. rw (ne_eqb k i (λ e. ne (sym e)), and_false t) (or_false (p i)))
    ∙ ap (λ (s : Bool). count n p + only naturals s 1) (rw (off, eqb_same k) (and_one t))

-- One that passes is left out.
pub count_but : (n k : ℕ) (p : ℕ → Bool) → k < n → p k ≡ true → count n p ≡ count n (λ i. p i && not (eqb k i)) + 1
count_but n k p l on =
    count_one_more n k (λ i. p i && not (eqb k i)) p l (rw (eqb_same k) (and_false (p k))) (λ i m ne. rw (ne_eqb k i (λ e. ne (sym e))) (sym (and_one (p i))))
    ∙ ap (λ (x : ℕ). count n (λ i. p i && not (eqb k i)) + x) (counts_one on)

-- Where a number does not pass, not all are counted.
pub count_less : (n k : ℕ) (p : ℕ → Bool) → k < n → p k ≡ false → count n p < n
count_less n k p l h =
    let passes : (eqb k k || p k) ≡ true = rw (eqb_same k) in
    omega (
      arith,
      count_one_more n k p (λ i. eqb i k || p i) l h (λ i m ne. rw (ne_eqb i k ne)),
      counts_one passes,
      count_le n (λ i. eqb i k || p i),
    )

-- Just one number passes.
pub count_one : (n : ℕ) (p : ℕ → Bool) (k : ℕ) → k < n → p k ≡ true → ((i : ℕ) → i < n → p i ≡ true → i ≡ k) → count n p ≡ 1
count_one n p k l h one =
    count_one_more n k (λ i. false) p l refl (λ i m ne. no_true (p i) (λ e. ne (one i m e)))
    ∙ omega (arith, count_none n (λ i. false) (any_false n (λ i. false) (λ i m. refl)), counts_one h)

-- Where one is counted, no two numbers pass.
pub count_two : (n : ℕ) (p : ℕ → Bool) (i k : ℕ) → i < n → k < n → p i ≡ true → p k ≡ true → count n p ≡ 1 → i ≡ k
count_two n p i k li lk hi hk e =
    split (ltb i k)
    (λ q. absurd (omega (arith, count_at k p i (ltb-true i k q) hi, count_lt n p k lk hk)))
    (λ q. split (ltb k i)
    (λ r. absurd (omega (arith, count_at i p k (ltb-true k i r) hk, count_lt n p i li hi)))
    (λ r. omega (arith, ltb-false i k q, ltb-false k i r)))

-- What is found passes, where some number passes.
pub find_passes : (n : ℕ) (p : ℕ → Bool) → any n p ≡ true → (find n p < n) × (p (find n p) ≡ true)
unfolding any find
find_passes zero p h = absurd (false≢true h)
find_passes (suc n) p h =
    split (any n p)
    (λ e. rw e (let (l, q) = find_passes n p e in (omega arith, q)))
    (λ e. rw e (split (p n) (λ f. rw f (omega arith, f)) (λ f. absurd (false≢true (rw (e, f) at h)))))

-- Where none passes nothing is found.
pub find_none : (n : ℕ) (p : ℕ → Bool) → any n p ≡ false → find n p ≡ n
unfolding any find
find_none zero p h = refl
find_none (suc n) p h =
    split (any n p)
    (λ e. absurd (false≢true (sym h ∙ rw e)))
    (λ e. rw e (split (p n) (λ f. absurd (false≢true (sym h ∙ rw (e, f)))) (λ f. rw f)))

-- The only number that passes is the one found.
pub find_only : (n : ℕ) (p : ℕ → Bool) (k : ℕ) → k < n → p k ≡ true → ((i : ℕ) → i < n → p i ≡ true → i ≡ k) → find n p ≡ k
find_only n p k l h one = let (m, q) = find_passes n p (any_at n p k l h) in one (find n p) m q

-- An order read the other way round is one.
pub order_back : {n : ℕ} {p q : ℕ → ℕ} → Order n p q → Order n q p
order_back o = record { inside = o.back; back = o.inside; there = o.here; here = o.there }

-- The order that the numbers have.
pub order_same : (n : ℕ) → Order n (λ i. i) (λ i. i)
order_same n = record { inside = λ i l. l; back = λ i l. l; there = λ i l. refl; here = λ i l. refl }

-- Whether some number passes does not go by the order.
pub any_moved : (n : ℕ) (p q : ℕ → ℕ) → Order n p q → (f : ℕ → Bool) → any n (λ i. f (p i)) ≡ any n f
any_moved n p q o f =
    same_test (any n (λ i. f (p i))) (any n f)
    (λ h. let (i, l, e) = any_find n (λ i. f (p i)) h in any_at n f (p i) (o.inside i l) e)
    (λ h. let (k, l, e) = any_find n f h in any_at n (λ i. f (p i)) (q k) (o.back k l) (ap f (o.there k l) ∙ e))

-- Two numbers of which a test holds, whichever is the smaller.
pair_at_lem : (n : ℕ) (f : ℕ → ℕ → Bool) → ((i k : ℕ) → f i k ≡ f k i) → (i k : ℕ) → i < n → k < n → (i ≡ k → ⊥) → f k i ≡ true → any n (λ i. any i (λ k. f k i)) ≡ true
pair_at_lem n f turn i k l m ne h =
    split (ltb k i)
    (λ q. any_at n (λ i. any i (λ k. f k i)) i l (any_at i (λ k. f k i) k (ltb-true k i q) h))
    (λ q. let g : i ≤ k = ltb-false k i q in
    any_at n (λ i. any i (λ k. f k i)) k m (any_at k (λ i. f i k) i (omega arith) (turn i k ∙ h)))

-- Nor does it matter for whether a test holds of two numbers.
pub pairs_moved : (n : ℕ) (p q : ℕ → ℕ) → Order n p q → (f : ℕ → ℕ → Bool) → ((i k : ℕ) → f i k ≡ f k i) →
    any n (λ i. any i (λ k. f (p k) (p i))) ≡ any n (λ i. any i (λ k. f k i))
pairs_moved n p q o f turn =
    same_test (any n (λ i. any i (λ k. f (p k) (p i)))) (any n (λ i. any i (λ k. f k i)))
    (λ h.
    let (i, l, h') = any_find n (λ i. any i (λ k. f (p k) (p i))) h in
    let (k, m, e) = any_find i (λ k. f (p k) (p i)) h' in
    let m' : k < n = omega arith in
    pair_at_lem n f turn (p i) (p k) (o.inside i l) (o.inside k m')
    (λ same. let w : i ≡ k = sym (o.here i l) ∙ ap q same ∙ o.here k m' in omega arith) e)
    (λ h.
    let (i, l, h') = any_find n (λ i. any i (λ k. f k i)) h in
    let (k, m, e) = any_find i (λ k. f k i) h' in
    let m' : k < n = omega arith in
    pair_at_lem n (λ k i. f (p k) (p i)) (λ i k. turn (p i) (p k)) (q i) (q k) (o.back i l) (o.back k m')
    (λ same. let w : i ≡ k = sym (o.there i l) ∙ ap p same ∙ o.there k m' in omega arith)
    (ap₂ f (o.there k m') (o.there i l) ∙ e))
