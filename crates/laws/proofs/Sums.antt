-- Laws of sums over the numbers below a bound, one for words and amounts alike. Assumes nothing.
use mathlib.Core.Path.{◌≡◌, refl, sym, ap, ap₂, ◌∙◌, subst}
use mathlib.Core.Bool.{Bool, true, false, cond, ◌&&◌}
use Prim.Native.Nat.{ℕ, zero, suc, ◌+◌, ◌-◌, ◌*◌, ◌<◌, ◌≤◌}
use native.Mathlib.Decide.{ℕ_discrete}
use native.Mathlib.Omega.{arith}
use native.Mathlib.Numerals.{add-one, unary_clauses}
use lib.Dec.{eqb}
use borrow.Author.Tests.{eqb-true, eqb-false, eq-eqb, ne_eqb}
use Rattle.laws.specs.Below.{Adds, naturals, sum, only, Order}
use Rattle.laws.proofs.Bools.{split, eqb_same}

module _ {A : Type 0} (w : Adds A) where
  -- No term, and one term more as code counts.
  pub sum_start : (f : ℕ → A) → sum w 0 f ≡ w.none
  unfolding sum
  sum_start f = refl

  pub sum_next_lem : (n : ℕ) (f : ℕ → A) → sum w (n + 1) f ≡ w.plus (sum w n f) (f n)
  unfolding sum
  sum_next_lem n f = rw (add-one n)

  pub sum_cong : (n : ℕ) (f g : ℕ → A) → ((i : ℕ) → i < n → f i ≡ g i) → sum w n f ≡ sum w n g
  unfolding sum
  sum_cong zero f g h = refl
  sum_cong (suc n) f g h = ap₂ w.plus (sum_cong n f g (λ i l. h i (omega arith))) (h n (omega arith))

  pub sum_none : (n : ℕ) (f : ℕ → A) → ((i : ℕ) → i < n → f i ≡ w.none) → sum w n f ≡ w.none
  unfolding sum
  sum_none zero f h = refl
  sum_none (suc n) f h = ap₂ w.plus (sum_none n f (λ i l. h i (omega arith))) (h n (omega arith)) ∙ w.idr w.none

  sum_on : (i d : ℕ) (f : ℕ → A) → ((x : ℕ) → i ≤ x → x < d + i → f x ≡ w.none) → sum w (d + i) f ≡ sum w i f
  unfolding sum
  sum_on i zero f h = ap (λ (n : ℕ). sum w n f) (zero_plus i)
    where
      zero_plus : (n : ℕ) → 0 + n ≡ n
      zero_plus n = omega arith
  sum_on i (suc d) f h =
      ap (λ (n : ℕ). sum w n f) (suc_plus d i) ∙ ap₂ w.plus (sum_on i d f (λ x l q. h x l (omega arith))) (h (d + i) (omega arith) (omega arith)) ∙ w.idr (sum w i f)
    where
      suc_plus : (d n : ℕ) → suc d + n ≡ suc (d + n)
      suc_plus d n = omega arith

  -- A sum goes on unchanged over places that bring nothing.
  pub sum_over : (i j : ℕ) (f : ℕ → A) → i ≤ j → ((x : ℕ) → i ≤ x → x < j → f x ≡ w.none) → sum w j f ≡ sum w i f
  sum_over i j f l h = ap (λ (n : ℕ). sum w n f) (apart i j l) ∙ sum_on i (j - i) f (λ x a b. h x a (omega arith))
    where
      apart : (i j : ℕ) → i ≤ j → j ≡ j - i + i
      apart i j l = omega arith

  -- Four terms, the middle two exchanged.
  middle : (a b c d : A) → w.plus (w.plus a b) (w.plus c d) ≡ w.plus (w.plus a c) (w.plus b d)
  middle a b c d =
      w.assoc a b (w.plus c d)
      ∙ ap (w.plus a) (sym (w.assoc b c d) ∙ ap (λ (x : A). w.plus x d) (w.comm b c) ∙ w.assoc c b d)
      ∙ sym (w.assoc a c (w.plus b d))

  pub sum_plus : (n : ℕ) (f g : ℕ → A) → sum w n (λ i. w.plus (f i) (g i)) ≡ w.plus (sum w n f) (sum w n g)
  unfolding sum
  sum_plus zero f g = sym (w.idr w.none)
  sum_plus (suc n) f g = ap (λ (x : A). w.plus x (w.plus (f n) (g n))) (sum_plus n f g) ∙ middle (sum w n f) (sum w n g) (f n) (g n)

  -- A sum of n × m terms goes by rows of m.
  sum_behind : (n m : ℕ) (f : ℕ → A) → sum w (n + m) f ≡ w.plus (sum w n f) (sum w m (λ i. f (n + i)))
  unfolding sum
  sum_behind n zero f = simp unary_clauses (sym (w.idr (sum w n f)))
  sum_behind n (suc m) f =
      simp unary_clauses (ap (λ (x : A). w.plus x (f (n + m))) (sum_behind n m f) ∙ w.assoc (sum w n f) (sum w m (λ i. f (n + i))) (f (n + m)))

  pub sum_digits : (n m : ℕ) (f : ℕ → A) → sum w (n * m) f ≡ sum w n (λ a. sum w m (λ b. f (a * m + b)))
  unfolding sum
  sum_digits zero m f = ap (λ (k : ℕ). sum w k f) (no_row m)
    where
      no_row : (m : ℕ) → 0 * m ≡ 0
      no_row m = omega arith
  sum_digits (suc n) m f =
      ap (λ (k : ℕ). sum w k f) (one_row n m) ∙ sum_behind (n * m) m f ∙ ap (λ (x : A). w.plus x (sum w m (λ b. f (n * m + b)))) (sum_digits n m f)
    where
      one_row : (n m : ℕ) → suc n * m ≡ n * m + m
      one_row n m = omega arith

  -- Two sums change places.
  pub sum_swap : (n m : ℕ) (f : ℕ → ℕ → A) → sum w n (λ i. sum w m (λ k. f i k)) ≡ sum w m (λ k. sum w n (λ i. f i k))
  unfolding sum
  sum_swap zero m f = sym (sum_none m (λ k. w.none) (λ i l. refl))
  sum_swap (suc n) m f =
      ap (λ (x : A). w.plus x (sum w m (f n))) (sum_swap n m f)
      ∙ sym (sum_plus m (λ k. sum w n (λ i. f i k)) (f n))

  -- Of three sums the last is brought to the front.
  pub sum_front : (n m p : ℕ) (f : ℕ → ℕ → ℕ → A) →
      sum w n (λ a. sum w m (λ b. sum w p (λ o. f a b o))) ≡ sum w p (λ o. sum w n (λ a. sum w m (λ b. f a b o)))
  sum_front n m p f =
      sum_cong n (λ a. sum w m (λ b. sum w p (λ o. f a b o))) (λ a. sum w p (λ o. sum w m (λ b. f a b o))) (λ a l. sum_swap m p (f a))
      ∙ sum_swap n p (λ a o. sum w m (λ b. f a b o))

  -- One place k below n grows by x, and no other changes: the sum grows by x.
  pub sum_one : (n k : ℕ) (f g : ℕ → A) (x : A) → k < n → g k ≡ w.plus (f k) x → ((i : ℕ) → i < n → (i ≡ k → ⊥) → g i ≡ f i) → sum w n g ≡ w.plus (sum w n f) x
  unfolding sum
  sum_one zero k f g x l e h = absurd (omega arith)
  sum_one (suc n) k f g x l e h =
      split (eqb n k)
      (λ q. let p : n ≡ k = eqb-true n k q in
      ap₂ w.plus (sum_cong n g f (λ i m. h i (omega arith) (λ r. omega arith))) (subst (λ (i : ℕ). g i ≡ w.plus (f i) x) (sym p) e)
      ∙ sym (w.assoc (sum w n f) (f n) x))
      (λ q. ap₂ w.plus
      (sum_one n k f g x (let d : n ≡ k → ⊥ = eqb-false n k q in omega arith) e (λ i m. h i (omega arith)))
      (h n (omega arith) (eqb-false n k q))
      ∙ w.assoc (sum w n f) x (f n)
      ∙ ap (w.plus (sum w n f)) (w.comm x (f n))
      ∙ sym (w.assoc (sum w n f) (f n) x))

  -- The same for a table: the place (a, b) grows by x.
  pub table_one : (n m a b : ℕ) (f g : ℕ → ℕ → A) (x : A) → a < n → b < m → g a b ≡ w.plus (f a b) x →
      ((i k : ℕ) → (i ≡ a → k ≡ b → ⊥) → g i k ≡ f i k) →
      sum w n (λ i. sum w m (λ k. g i k)) ≡ w.plus (sum w n (λ i. sum w m (λ k. f i k))) x
  table_one n m a b f g x la lb e h =
      sum_one n a (λ i. sum w m (λ k. f i k)) (λ i. sum w m (λ k. g i k)) x la
      (sum_one m b (f a) (g a) x lb e (λ k l q. h a k (λ r s. q s)))
      (λ i l q. sum_cong m (g i) (f i) (λ k m'. h i k (λ r s. q r)))

  -- Of the places below n just k passes the first test.
  pub sum_pick : (n k : ℕ) (u : Bool) (x : A) → k < n → sum w n (λ i. only w (eqb k i && u) x) ≡ only w u x
  unfolding only
  sum_pick n k u x l =
      sum_one n k (λ i. w.none) (λ i. only w (eqb k i && u) x) (only w u x) l
      (simp eqb_same (sym (w.idr (cond u x w.none)) ∙ w.comm (cond u x w.none) w.none))
      (λ i m ne. simp (ne_eqb k i (λ e. ne (sym e))))
      ∙ ap (λ (y : A). w.plus y (cond u x w.none)) (sum_none n (λ i. w.none) (λ i m. refl))
      ∙ w.comm w.none (cond u x w.none) ∙ w.idr (cond u x w.none)

  -- What is added in another order comes to the same.
  pub sum_moved : (n : ℕ) (p q : ℕ → ℕ) → Order n p q → (f : ℕ → A) → sum w n (λ i. f (p i)) ≡ sum w n f
  unfolding only
  sum_moved n p q o f =
      sum_cong n (λ i. f (p i)) (λ i. sum w n (λ k. only w (eqb (q k) i && true) (f k)))
      (λ i l. sym (sum_pick n (p i) true (f (p i)) (o.inside i l))
      ∙ sum_cong n (λ k. only w (eqb (p i) k && true) (f (p i))) (λ k. only w (eqb (q k) i && true) (f k)) (moved i l))
      ∙ sum_swap n n (λ i k. only w (eqb (q k) i && true) (f k))
      ∙ sum_cong n (λ k. sum w n (λ i. only w (eqb (q k) i && true) (f k))) f (λ k l. sum_pick n (q k) true (f k) (o.back k l))
    where
      -- k is p i exactly where i is q k.
      moved : (i : ℕ) → i < n → (k : ℕ) → k < n → only w (eqb (p i) k && true) (f (p i)) ≡ only w (eqb (q k) i && true) (f k)
      moved i l k m =
          split (eqb (p i) k)
          (λ e. let same : p i ≡ k = eqb-true (p i) k e in
          rw (e, same, eq-eqb (q k) i (ap q (sym same) ∙ o.here i l)))
          (λ e. rw (e, ne_eqb (q k) i (λ same. eqb-false (p i) k e (ap p (sym same) ∙ o.there k m))))

  -- A test that does not depend on the place.
  pub sum_only : (n : ℕ) (u : Bool) (f : ℕ → A) → sum w n (λ i. only w u (f i)) ≡ only w u (sum w n f)
  unfolding only
  sum_only n true f = refl
  sum_only n false f = sum_none n (λ i. w.none) (λ i l. refl)

  -- What a test lets through.
  pub only_yes : (t : Bool) (x : A) → t ≡ true → only w t x ≡ x
  unfolding only
  only_yes t x e = rw e

  pub only_no : (t : Bool) (x : A) → t ≡ false → only w t x ≡ w.none
  unfolding only
  only_no t x e = rw e

-- Sums of words.
pub sum_ones : (n : ℕ) → sum naturals n (λ i. 1) ≡ n
unfolding sum naturals
sum_ones zero = refl
sum_ones (suc n) = rw (sum_ones n) (omega arith)

-- n terms of at most m each.
pub sum_max : (n m : ℕ) (f : ℕ → ℕ) → ((i : ℕ) → i < n → f i ≤ m) → sum naturals n f ≤ n * m
unfolding sum naturals
sum_max zero m f h = omega arith
sum_max (suc n) m f h = omega (arith, sum_max n m f (λ i l. h i (omega arith)), h n (omega arith))

pub sum_le : (n : ℕ) (f g : ℕ → ℕ) → ((i : ℕ) → i < n → f i ≤ g i) → sum naturals n f ≤ sum naturals n g
unfolding sum naturals
sum_le zero f g h = omega arith
sum_le (suc n) f g h = omega (arith, sum_le n f g (λ i l. h i (omega arith)), h n (omega arith))

-- Where each term is at most the other's and the sum is not less, no term is less.
pub sum_tight : (n : ℕ) (f g : ℕ → ℕ) → ((i : ℕ) → i < n → f i ≤ g i) → sum naturals n g ≤ sum naturals n f → (i : ℕ) → i < n → g i ≤ f i
unfolding sum naturals
sum_tight zero f g h e i l = absurd (omega arith)
sum_tight (suc n) f g h e i l =
    split (eqb i n)
    (λ q. rw (eqb-true i n q) (omega (arith, sum_le n f g (λ i l. h i (omega arith)), h n (omega arith))))
    (λ q. let ne : i ≡ n → ⊥ = eqb-false i n q in
    sum_tight n f g (λ i l. h i (omega arith)) (omega (arith, h n (omega arith))) i (omega arith))

-- A term and those before it are within the whole.
pub sum_within : (c m : ℕ) (f : ℕ → ℕ) → c < m → sum naturals c f + f c ≤ sum naturals m f
unfolding sum naturals
sum_within c zero f l = absurd (omega arith)
sum_within c (suc m) f l =
    split (eqb c m)
    (λ q. rw (eqb-true c m q) (omega arith))
    (λ q. let ne : c ≡ m → ⊥ = eqb-false c m q in omega (arith, sum_within c m f (omega arith)))

-- Two sums that differ at one place i only.
pub sum_change : (n i : ℕ) (f g : ℕ → ℕ) → i < n → ((k : ℕ) → k < n → (k ≡ i → ⊥) → g k ≡ f k) → sum naturals n g + f i ≡ sum naturals n f + g i
unfolding sum naturals
sum_change zero i f g l h = absurd (omega arith)
sum_change (suc n) i f g l h =
    elim (ℕ_discrete n i) [
      | yes e ↦ rw (e, sum_cong naturals i g f (λ k m. h k (omega arith) (omega arith))) (omega arith)
      | no d ↦ let r = sum_change n i f g (omega (arith, d)) (λ k m q. h k (omega arith) q) in rw (h n (omega arith) d) (omega arith)
    ]
