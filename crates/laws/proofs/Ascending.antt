-- Numbers that pass a test, in a list and by their number in it. Assumes nothing.
use mathlib.Core.Path.{◌≡◌, refl, sym, ap, ap₂, ◌∙◌}
use mathlib.Core.Bool.{Bool, true, false, cond, ◌&&◌}
use mathlib.Core.List.{List, [], ◌∷◌, ◌++◌, map}
use Prim.Native.Nat.{ℕ, zero, suc, ◌+◌, ◌<◌, ◌≤◌}
use native.Mathlib.Omega.{arith}
use lib.Dec.{eqb, ltb}
use lib.ListN.{length, get_or, length-append, get_or-append, get_or-eq_default}
use borrow.Author.Tests.{eqb-true, eqb-false, ne_eqb, ltb-true, ltb-false}
use Rattle.laws.specs.Below.{naturals, sum, only, count, ascending, nth}
use Rattle.laws.proofs.Bools.{split, eqb_same, and_l, and_false}
use Rattle.laws.proofs.Below.{any_false, count_none, count_lt, count_cong, count_suc, counts_one, counts_none, count_where}

pub ascending_cong : (n : ℕ) (p q : ℕ → Bool) → ((i : ℕ) → i < n → p i ≡ q i) → ascending n p ≡ ascending n q
unfolding ascending
ascending_cong zero p q h = refl
ascending_cong (suc n) p q h = rw (ascending_cong n p q (λ i l. h i (omega arith)), h n (omega arith))

pub length-ascending : (n : ℕ) (p : ℕ → Bool) → length (ascending n p) ≡ count n p
unfolding ascending count sum naturals only
length-ascending zero p = refl
length-ascending (suc n) p =
    length-append (ascending n p) (cond (p n) (n ∷ []) [])
    ∙ ap₂ ◌+◌ (length-ascending n p) (split (p n) (λ e. rw e) (λ e. rw e))

-- A number that passes stands behind those before it.
pub ascending_at : (n : ℕ) (p : ℕ → Bool) (y : ℕ) → y < n → p y ≡ true → get_or (ascending n p) (count y p) 0 ≡ y
unfolding ascending
ascending_at zero p y l h = absurd (omega arith)
ascending_at (suc n) p y l h =
    split (eqb y n)
    (λ q. let e : y ≡ n = eqb-true y n q in
    rw (e, ← (length-ascending n p), rw e at h) (last (ascending n p) n))
    (λ q. let ne : y ≡ n → ⊥ = eqb-false y n q in
    get_or-append (ascending n p) (cond (p n) (n ∷ []) []) 0 (count y p) (rw (length-ascending n p) (count_lt n p y (omega arith) h))
    ∙ ascending_at n p y (omega arith) h)
  where
    last : (l : List ℕ) (v : ℕ) → get_or (l ++ (v ∷ [])) (length l) 0 ≡ v
    last [] v = refl
    last (x ∷ l) v = last l v

pub nth_passes : (n : ℕ) (p : ℕ → Bool) (c : ℕ) → c < count n p → (nth n p c < n) × (p (nth n p c) ≡ true)
unfolding nth count sum only naturals
nth_passes zero p c l = absurd (omega arith)
nth_passes (suc n) p c l =
    split (p n && eqb (count n p) c)
    (λ e. rw e (omega arith, and_l (p n) _ e))
    (λ e. rw e (let (a, b) = nth_passes n p c (below e) in (omega arith, b)))
  where
    below : (p n && eqb (count n p) c) ≡ false → c < count n p
    below e =
        split (p n)
        (λ f. let ne : count n p ≡ c → ⊥ = eqb-false (count n p) c (rw f at e) in
        let l' : c < count n p + cond true 1 0 = rw f at l in omega arith)
        (λ f. let l' : c < count n p + cond {A = ℕ} false 1 0 = rw f at l in omega arith)

-- A number that passes and has c such numbers below it is the one that is meant.
pub nth_is : (n : ℕ) (p : ℕ → Bool) (c q : ℕ) → q < n → p q ≡ true → count q p ≡ c → nth n p c ≡ q
unfolding nth
nth_is zero p c q l h e = absurd (omega arith)
nth_is (suc n) p c q l h e =
    split (eqb q n)
    (λ f. let i : q ≡ n = eqb-true q n f in
    rw (← i, h, e, eqb_same c))
    (λ f. let d : q ≡ n → ⊥ = eqb-false q n f in
    rw (ne_eqb (count n p) c (λ z. omega (arith, count_lt n p q (omega arith) h)), and_false (p n)) (nth_is n p c q (omega arith) h e))

-- Where nothing below q passes, q is the first.
pub nth_first : (n : ℕ) (p : ℕ → Bool) (q : ℕ) → q < n → p q ≡ true → ((i : ℕ) → i < q → p i ≡ false) → nth n p 0 ≡ q
nth_first n p q l h none = nth_is n p 0 q l h (count_none q p (any_false q p none))

pub nth_cong : (n : ℕ) (p q : ℕ → Bool) (c : ℕ) → ((i : ℕ) → i < n → p i ≡ q i) → nth n p c ≡ nth n q c
unfolding nth
nth_cong zero p q c h = refl
nth_cong (suc n) p q c h =
    rw (h n (omega arith), count_cong n p q (λ i l. h i (omega arith)), nth_cong n p q c (λ i l. h i (omega arith)))

-- The steps that the marks say are done are those of the state that the tables hold.

pub nth_none : (n : ℕ) (p : ℕ → Bool) (c : ℕ) → count n p ≤ c → nth n p c ≡ 0
unfolding nth
nth_none zero p c h = refl
nth_none (suc n) p c h =
    split (p n)
    (λ e. let l : suc (count n p) ≤ c = omega (arith, counts_one e, count_suc n p) in rw (ne_eqb (count n p) c (λ q. omega arith), e) (nth_none n p c (omega arith)))
    (λ e. rw e (nth_none n p c (omega (arith, counts_none e, count_suc n p))))

-- Number c of the list, counted from 0.
pub get_d_ascending : (n : ℕ) (p : ℕ → Bool) (c : ℕ) → get_or (ascending n p) c 0 ≡ nth n p c
get_d_ascending n p c =
    split (ltb c (count n p))
    (λ e. let (y, l, h, i) = count_where n p c (ltb-true c (count n p) e) in
    ap (λ (c : ℕ). get_or (ascending n p) c 0) (sym i) ∙ ascending_at n p y l h ∙ sym (nth_is n p c y l h i))
    (λ e. get_or-eq_default (ascending n p) 0 (omega (arith, ltb-false c (count n p) e, length-ascending n p))
    ∙ sym (nth_none n p c (omega (arith, ltb-false c (count n p) e))))

module _ {A : Type 0} (f : ℕ → A) where
  pub get_d_map : (l : List ℕ) (i d : ℕ) → get_or (map f l) i (f d) ≡ f (get_or l i d)
  get_d_map [] i d = refl
  get_d_map (x ∷ l) zero d = refl
  get_d_map (x ∷ l) (suc i) d = get_d_map l i d
