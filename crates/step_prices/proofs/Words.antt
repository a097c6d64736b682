-- Words of entries stored in a row, entry by entry as a list has them. Assumes nothing.
use mathlib.Core.Path.{◌≡◌, refl, sym, ap, ◌∙◌}
use mathlib.Core.Bool.{Bool, true, false, cond, ◌&&◌}
use mathlib.Core.List.{List}
use Prim.Native.Nat.{ℕ, ◌+◌, ◌-◌, ◌*◌, ◌/◌, ◌%◌, ◌<◌, ◌≤◌}
use native.Mathlib.Omega.{arith}
use native.Mathlib.Decide.{dec_lt}
use native.Mathlib.Nat.{mul-le-mul, mod-lt, div-add-mod', div-lt_iff_lt-mul}
use lib.Arith.{digits_div}
use lib.Dec.{eqb, leb}
use lib.ListN.{length, get_or}
use borrow.Author.Tests.{le-ltb, leb-true, ltb-true}
use Rattle.laws.specs.Below.{count}
use Rattle.laws.specs.Listed.{Listed}
use Rattle.laws.specs.Tables.{cell, recell}
use Rattle.laws.proofs.Bools.{split, and_l, and_r, and_false, and_true, cond_no}
use Rattle.laws.proofs.Listed.{stands_before, held_at, stands_here, stands_not, stands_else, stands_all}
use Rattle.laws.proofs.Loops.{window, window_in, window_below, window_above, guarded, row_stored}
use Rattle.laws.proofs.Tables.{row_in, recell_cong}

-- The words of entry o lie in row a.
pub words_in : (n m a x p o size : ℕ) → x ≡ a * (n * m) → p ≡ o * m → o < n → a * (n * m) + n * m ≤ size → x + p + m ≤ size
words_in n m a x p o size ex ep h k = rw (ex, ep) (omega (arith, k, row_in o n m h))

-- A row has at most 4,000 words.
pub row_small : (n m x : ℕ) → x ≡ n * m → n ≤ 500 → m ≤ 8 → x ≤ 4_000
row_small n m x e h k = omega (arith, e, mul-le-mul h k)

-- A copied word is told by its place in the row.
pub told : (from to p m k : ℕ) (source : List ℕ) (old : ℕ) →
    cond (window (to + p) m k) (get_or source (from + p + (k - (to + p))) 0) old ≡ cond (window (to + p) m k) (get_or source (from + (k - to)) 0) old
told from to p m k source old =
    split (window (to + p) m k)
    (λ e. let l = leb-true (to + p) k (and_l (leb (to + p) k) _ e) in ap (λ (x : ℕ). cond (window (to + p) m k) (get_or source x 0) old) (omega (arith, l)))
    (λ e. cond_no _ _ old e ∙ sym (cond_no _ _ old e))

-- The words of a row of n entries of m words each, from place `at` on, whose entries pass and stand before place i of a list from a place on.
abbrev pub stored : (n m : ℕ) (passes : ℕ → Bool) (from at i : ℕ) → ℕ → Bool
stored n m passes from at i = guarded at (n * m) (λ w. stands_before passes from i (w / m))

-- No entry stands before the first place of the list.
pub stored_none : (n m : ℕ) (passes : ℕ → Bool) (from at k : ℕ) → stored n m passes from at from k ≡ false
stored_none n m passes from at k =
    rw (le-ltb (from + count ((k - at) / m) passes) from (omega arith), and_false (passes ((k - at) / m))) (and_false (window at (n * m) k))

module _ (n m : ℕ) (some : 1 ≤ m) (passes : ℕ → Bool) (from to : ℕ) (table : List ℕ) (l : Listed n passes from to table) where
  module _ (at i : ℕ) (h : from ≤ i) (u : i < to) where
    -- The entry at place i of the list.
    abbrev here : ℕ
    here = get_or table i 0

    -- Its words lie in the row,
    lies : here * m + m ≤ n * m
    lies = row_in here n m (held_at n passes from to table l i h u).below

    -- and their entry is it.
    its : (k : ℕ) → at + here * m ≤ k → k < at + here * m + m → (k - at) / m ≡ here
    its k a b = ap (λ (x : ℕ). x / m) (omega arith) ∙ digits_div here {m = m} {r = k - at - here * m} (omega arith)

    -- No other word has this entry.
    outside : (k : ℕ) → at ≤ k → (k - at) / m ≡ here → (at + here * m ≤ k) × (k < at + here * m + m)
    outside k a e =
        let r : here * m + (k - at) % m ≡ k - at = ap (λ (x : ℕ). x * m + (k - at) % m) (sym e) ∙ div-add-mod' (k - at) m in
        let s : (k - at) % m < m = mod-lt (k - at) some in
        (omega (arith, r, s), omega (arith, r, s))

    -- They are not stored yet.
    not_yet : (k : ℕ) → at + here * m ≤ k → k < at + here * m + m → stored n m passes from at i k ≡ false
    not_yet k a b = rw (its k a b, stands_not n passes from to table l i h u) (and_false (window at (n * m) k))

    -- So a table from which stored words are gone still has them.
    pub still : {A : Type 0} (gone : A) (old : ℕ → A) (t : List A) (d : A) → ((k : ℕ) → get_or t k d ≡ cond (stored n m passes from at i k) gone (old k)) →
        (k : ℕ) (else : A) → cond (window (at + here * m) m k) (get_or t k d) else ≡ cond (window (at + here * m) m k) (old k) else
    still gone old t d g k else =
        split (window (at + here * m) m k)
        (λ e. ap (λ x. cond (window (at + here * m) m k) x else)
        (g k ∙ cond_no _ gone (old k) (not_yet k (leb-true (at + here * m) k (and_l (leb (at + here * m) k) _ e)) (ltb-true k (at + here * m + m) (and_r (leb (at + here * m) k) _ e)))))
        (λ e. rw e)

    other : (k : ℕ) → (at + here * m ≤ k → k < at + here * m + m → ⊥) → stored n m passes from at (i + 1) k ≡ stored n m passes from at i k
    other k out =
        split (window at (n * m) k)
        (λ e. rw e (stands_else n passes from to table l i h u ((k - at) / m) (inside e) (λ q. let o = outside k (low e) q in out o.0 o.1)))
        (λ e. rw e)
      where
        low : window at (n * m) k ≡ true → at ≤ k
        low e = leb-true at k (and_l (leb at k) _ e)

        inside : window at (n * m) k ≡ true → (k - at) / m < n
        inside e = (div-lt_iff_lt-mul {k = m} some).1 (let a = low e in let b = ltb-true k (at + n * m) (and_r (leb at k) _ e) in omega (arith, a, b))

    now_stored : (k : ℕ) → at + here * m ≤ k → k < at + here * m + m → stored n m passes from at (i + 1) k ≡ true
    now_stored k a b = and_true (window_in at (n * m) k (omega (arith, a)) (omega (arith, b, lies))) (rw (its k a b) (stands_here n passes from to table l i h u))

    -- With the words of the entry at place i, those before the place behind it are stored.
    pub stored_next : {A : Type 0} (new old : ℕ → A) (w w' : List A) (d : A) →
        ((k : ℕ) → get_or w k d ≡ cond (stored n m passes from at i k) (new k) (old k)) →
        ((k : ℕ) → get_or w' k d ≡ cond (window (at + here * m) m k) (new k) (get_or w k d)) →
        (k : ℕ) → get_or w' k d ≡ cond (stored n m passes from at (i + 1) k) (new k) (old k)
    stored_next new old w w' d g g' k = go (dec_lt k (at + here * m)) (dec_lt k (at + here * m + m))
      where
        same : window (at + here * m) m k ≡ false → (at + here * m ≤ k → k < at + here * m + m → ⊥) → get_or w' k d ≡ cond (stored n m passes from at (i + 1) k) (new k) (old k)
        same e out = g' k ∙ rw e (g k ∙ ap (λ (t : Bool). cond t (new k) (old k)) (sym (other k out)))

        go : Dec (k < at + here * m) → Dec (k < at + here * m + m) → get_or w' k d ≡ cond (stored n m passes from at (i + 1) k) (new k) (old k)
        go (yes a) _ = same (window_below (at + here * m) m k a) (λ x y. omega (arith, x, a))
        go (no a) (yes b) =
            g' k ∙ ap (λ (t : Bool). cond t (new k) (get_or w k d)) (window_in (at + here * m) m k (omega (arith, a)) b)
            ∙ sym (ap (λ (t : Bool). cond t (new k) (old k)) (now_stored k (omega (arith, a)) b))
        go (no a) (no b) = same (window_above (at + here * m) m k (omega (arith, b))) (λ x y. omega (arith, y, b))

  -- A table in which row a is stored to the end of the list: by row and column.
  pub stored_row : {A : Type 0} (k a at : ℕ) (t t' : List A) (z : A) (new f : ℕ → A) → a < k → k * (n * m) ≤ length t → at ≡ a * (n * m) → length t' ≡ length t →
      ((i : ℕ) → get_or t' i z ≡ cond (stored n m passes from at to i) (new i) (get_or t i z)) →
      ((w : ℕ) → w < n * m → new (a * (n * m) + w) ≡ f w) →
      t' ≡ recell k (n * m) (λ c w. cond (eqb c a && passes (w / m)) (f w) (cell k (n * m) t z c w)) t
  stored_row k a at t t' z new f la long here same g e =
      row_stored k (n * m) a at (n * m) t t' z (λ w. stands_before passes from to (w / m)) new f la long here refl same g e
      ∙ recell_cong k (n * m) _ _ t (λ c w lc lw. rw (stands_all n passes from to table l (w / m) ((div-lt_iff_lt-mul {k = m} some).1 lw)))
