-- Laws for loops over tables: words that are stored or added to, one a turn. Assumes nothing.
use mathlib.Core.Path.{◌≡◌, refl, sym, ap, ap₂, ◌∙◌, subst}
use mathlib.Core.List.{List}
use mathlib.Core.Bool.{Bool, true, false, cond, ◌&&◌}
use Prim.Native.Nat.{ℕ, zero, suc, ◌+◌, ◌-◌, ◌*◌, ◌≤◌, ◌<◌}
use native.Mathlib.Decide.{ℕ_discrete, dec_lt}
use native.Mathlib.Omega.{arith}
use lib.Dec.{eqb, ltb, leb}
use lib.IntN.{ℤ, pos, nat_abs, ◌+ℤ◌, +ℤ_idr, +ℤ_assoc}
use lib.ListN.{length, get_or, set, replicate}
use lib.Seq.{get_or-set_same, get_or-set_other}
use borrow.Author.Tests.{eqb-true, eqb-false, eq-eqb, ne_eqb, lt-ltb, le-ltb, le-leb, lt-leb}
use Rattle.laws.specs.Below.{integers, sum, only}
use Rattle.laws.specs.Tables.{cell, recell}
use Rattle.laws.proofs.Bools.{split, eqb_same, and_false, cond_no}
use Rattle.laws.proofs.Sums.{sum_next_lem, only_yes, only_no}
use Rattle.laws.proofs.Signed.{abs_plus, sum_abs, only_abs}
use Rattle.laws.proofs.Tables.{row_in, cell_at, is_recell}

-- Z is added to the word at j: what the word at i is then.
pub add_at : (w : List ℤ) (j i : ℕ) (z : ℤ) → j < length w → get_or (set w j (get_or w j (pos 0) +ℤ z)) i (pos 0) ≡ get_or w i (pos 0) +ℤ only integers (eqb j i) z
unfolding integers
add_at w j i z l = go (ℕ_discrete j i)
  where
    go : Dec (j ≡ i) → get_or (set w j (get_or w j (pos 0) +ℤ z)) i (pos 0) ≡ get_or w i (pos 0) +ℤ only integers (eqb j i) z
    go (yes e) =
        subst (λ (k : ℕ). get_or (set w j (get_or w j (pos 0) +ℤ z)) k (pos 0) ≡ get_or w k (pos 0) +ℤ only integers (eqb j k) z) e
        (get_or-set_same w j (get_or w j (pos 0) +ℤ z) (pos 0) l ∙ ap (λ (x : ℤ). get_or w j (pos 0) +ℤ x) (sym (only_yes integers (eqb j j) z (eq-eqb j j refl))))
    go (no n) =
        get_or-set_other w j i (get_or w j (pos 0) +ℤ z) (pos 0) (λ e. n (sym e))
        ∙ sym (+ℤ_idr (get_or w i (pos 0)))
        ∙ ap (λ (x : ℤ). get_or w i (pos 0) +ℤ x) (sym (only_no integers (eqb j i) z (ne_eqb j i n)))

-- A list of zeros has zero everywhere, past its end too.
pub get_d_zeros : {A : Type 0} (n k : ℕ) (d : A) → get_or (replicate n d) k d ≡ d
get_d_zeros zero k d = refl
get_d_zeros (suc n) zero d = refl
get_d_zeros (suc n) (suc k) d = get_d_zeros n k d

-- A loop that stores new words, one a turn: `before` says which words are stored already, and `after` which with the one at j.
module _ {A : Type 0} (w : List A) (d : A) (new old : ℕ → A) (before after : ℕ → Bool) (j : ℕ) (inside : j < length w) (h : (k : ℕ) → get_or w k d ≡ cond (before k) (new k) (old k)) where
  pub stored_more : after j ≡ true → ((k : ℕ) → (j ≡ k → ⊥) → after k ≡ before k) → (v : A) → v ≡ new j → (k : ℕ) → get_or (set w j v) k d ≡ cond (after k) (new k) (old k)
  stored_more here else v e k = go (ℕ_discrete j k)
    where
      go : Dec (j ≡ k) → get_or (set w j v) k d ≡ cond (after k) (new k) (old k)
      go (yes p) =
          subst (λ (i : ℕ). get_or (set w j v) i d ≡ cond (after i) (new i) (old i)) p
          (get_or-set_same w j v d inside ∙ e ∙ sym (ap (λ (b : Bool). cond b (new j) (old j)) here))
      go (no n) = get_or-set_other w j k v d (λ p. n (sym p)) ∙ h k ∙ sym (ap (λ (b : Bool). cond b (new k) (old k)) (else k n))

-- The first g words.
pub front_here : (g : ℕ) → ltb g (g + 1) ≡ true
front_here g = lt-ltb g (g + 1) (omega arith)

pub front_else : (g k : ℕ) → (g ≡ k → ⊥) → ltb k (g + 1) ≡ ltb k g
front_else g k n = go (dec_lt k g)
  where
    go : Dec (k < g) → ltb k (g + 1) ≡ ltb k g
    go (yes l) = lt-ltb k (g + 1) (omega arith) ∙ sym (lt-ltb k g l)
    go (no m) = le-ltb k (g + 1) (omega arith) ∙ sym (le-ltb k g (omega arith))

-- The g words from a place on.
abbrev pub window : ℕ → ℕ → ℕ → Bool
window at g k = leb at k && ltb k (at + g)

pub window_in : (at g k : ℕ) → at ≤ k → k < at + g → window at g k ≡ true
window_in at g k l m = ap (λ (x : Bool). x && ltb k (at + g)) (le-leb at k l) ∙ lt-ltb k (at + g) m

pub window_below : (at g k : ℕ) → k < at → window at g k ≡ false
window_below at g k l = ap (λ (x : Bool). x && ltb k (at + g)) (lt-leb at k l)

pub window_above : (at g k : ℕ) → at + g ≤ k → window at g k ≡ false
window_above at g k l = ap (λ (x : Bool). leb at k && x) (le-ltb k (at + g) l) ∙ and_false (leb at k)

pub window_none : (at k : ℕ) → window at 0 k ≡ false
window_none at k = go (dec_lt k at)
  where
    go : Dec (k < at) → window at 0 k ≡ false
    go (yes l) = window_below at 0 k l
    go (no n) = window_above at 0 k (omega arith)

pub window_here : (at g : ℕ) → window at (g + 1) (at + g) ≡ true
window_here at g = window_in at (g + 1) (at + g) (omega arith) (omega arith)

pub window_else : (at g k : ℕ) → (at + g ≡ k → ⊥) → window at (g + 1) k ≡ window at g k
window_else at g k n = ap (λ (x : Bool). leb at k && x) (sym (ap (λ (m : ℕ). ltb k m) (regroup at g)) ∙ front_else (at + g) k n)
  where
    regroup : (at g : ℕ) → (at + g) + 1 ≡ at + (g + 1)
    regroup at g = omega arith

-- A loop that adds z t to the word at `place t` in turn t. w₀ is the table where the loop begins, and w after t turns.
abbrev pub share : (ℕ → ℕ) → (ℕ → ℤ) → ℕ → ℕ → ℤ
share place z i t = only integers (eqb (place t) i) (z t)

module _ (w₀ w : List ℤ) (place : ℕ → ℕ) (z : ℕ → ℤ) (t : ℕ) where
  pub pile_more : ((i : ℕ) → get_or w i (pos 0) ≡ get_or w₀ i (pos 0) +ℤ sum integers t (share place z i)) → place t < length w
      → (i : ℕ) → get_or (set w (place t) (get_or w (place t) (pos 0) +ℤ z t)) i (pos 0) ≡ get_or w₀ i (pos 0) +ℤ sum integers (t + 1) (share place z i)
  unfolding integers
  pile_more h l i =
      add_at w (place t) i (z t) l
      ∙ ap (λ (y : ℤ). y +ℤ share place z i t) (h i)
      ∙ +ℤ_assoc (get_or w₀ i (pos 0)) (sum integers t (share place z i)) (share place z i t)
      ∙ ap (λ (y : ℤ). get_or w₀ i (pos 0) +ℤ y) (sym (sum_next_lem integers t (share place z i)))

-- A word that amounts of size m are added to, t of them, is of size at most b + t × m, if it was of size b.
pub pile_size : (w₀ w : List ℤ) (place : ℕ → ℕ) (z : ℕ → ℤ) (t i b m : ℕ) →
    get_or w i (pos 0) ≡ get_or w₀ i (pos 0) +ℤ sum integers t (share place z i) → nat_abs (get_or w₀ i (pos 0)) ≤ b → ((s : ℕ) → s < t → nat_abs (z s) ≤ m) →
    nat_abs (get_or w i (pos 0)) ≤ b + t * m
pile_size w₀ w place z t i b m e hb hm =
    omega (
      arith,
      ap nat_abs e,
      abs_plus (get_or w₀ i (pos 0)) (sum integers t (share place z i)),
      hb,
      sum_abs t m (share place z i) (λ s l. only_abs (eqb (place s) i) (z s) m (hm s l)),
    )

-- The same number added on both sides of a test.
pub eqb_shift : (x m n : ℕ) → eqb (x + m) (x + n) ≡ eqb m n
eqb_shift x m n = go (ℕ_discrete m n)
  where
    go : Dec (m ≡ n) → eqb (x + m) (x + n) ≡ eqb m n
    go (yes e) = eq-eqb (x + m) (x + n) (omega arith) ∙ sym (eq-eqb m n e)
    go (no ne) = ne_eqb (x + m) (x + n) (λ p. ne (omega arith)) ∙ sym (ne_eqb m n ne)

-- A loop that goes through a row, and stores the new word where a test of the column holds.
abbrev pub guarded : ℕ → ℕ → (ℕ → Bool) → ℕ → Bool
guarded at o test k = window at o k && test (k - at)

module _ {A : Type 0} (w : List A) (d : A) (new old : ℕ → A) (at o : ℕ) (test : ℕ → Bool) (inside : at + o < length w) (h : (k : ℕ) → get_or w k d ≡ cond (guarded at o test k) (new k) (old k)) where
  same_column : test (at + o - at) ≡ test o
  same_column = ap test (omega arith)

  away : (k : ℕ) → (at + o ≡ k → ⊥) → guarded at (o + 1) test k ≡ guarded at o test k
  away k n = ap (λ (b : Bool). b && test (k - at)) (window_else at o k n)

  pub guarded_more : (v : A) → v ≡ new (at + o) → (k : ℕ) → get_or (cond (test o) (set w (at + o) v) w) k d ≡ cond (guarded at (o + 1) test k) (new k) (old k)
  guarded_more v e k = go (test o) refl
    where
      go : (b : Bool) → test o ≡ b → get_or (cond b (set w (at + o) v) w) k d ≡ cond (guarded at (o + 1) test k) (new k) (old k)
      go true t = stored_more w d new old (guarded at o test) (guarded at (o + 1) test) (at + o) inside h (ap₂ ◌&&◌ (window_here at o) (same_column ∙ t)) away v e k
      go false t = h k ∙ ap (λ (b : Bool). cond b (new k) (old k)) (which (ℕ_discrete (at + o) k))
        where
          which : Dec (at + o ≡ k) → guarded at o test k ≡ guarded at (o + 1) test k
          which (yes p) =
              subst (λ (i : ℕ). guarded at o test i ≡ guarded at (o + 1) test i) p
              (ap (λ (b : Bool). b && test (at + o - at)) (window_above at o (at + o) (omega arith)) ∙ sym (ap₂ ◌&&◌ (window_here at o) (same_column ∙ t)))
          which (no n) = sym (away k n)

-- The word of the column that is next is not stored yet.
pub guarded_next : (at o : ℕ) (test : ℕ → Bool) → guarded at o test (at + o) ≡ false
guarded_next at o test = ap (λ (b : Bool). b && test (at + o - at)) (window_above at o (at + o) (omega arith))

-- Nor is any word before the first column.
pub guarded_none : (at : ℕ) (test : ℕ → Bool) (k : ℕ) → guarded at 0 test k ≡ false
guarded_none at test k = ap (λ (b : Bool). b && test (k - at)) (window_none at k)

-- Row a, gone through to its end: the word of row c and column o is stored where c is a and the test of the column holds.
guarded_row : (m a c o : ℕ) (test : ℕ → Bool) → o < m → guarded (a * m) m test (c * m + o) ≡ (eqb c a && test o)
guarded_row m a c o test l =
    split (eqb c a)
    (λ e. rw (eqb-true c a e) (ap₂ ◌&&◌ (window_in (a * m) m (a * m + o) (omega arith) (omega arith) ∙ sym (eqb_same a)) (ap test (omega arith))))
    (λ e. ap (λ (b : Bool). b && test (c * m + o - a * m)) (apart (dec_lt c a) (eqb-false c a e)) ∙ sym (ap (λ (b : Bool). b && test o) e))
  where
    apart : Dec (c < a) → (c ≡ a → ⊥) → window (a * m) m (c * m + o) ≡ false
    apart (yes h) n = window_below (a * m) m (c * m + o) (omega (arith, row_in c a m h))
    apart (no h) n = let h' : a < c = omega arith in window_above (a * m) m (c * m + o) (omega (arith, row_in a c m h'))

-- A table in which a loop has stored row a, where a test of the column holds: by row and column.
module _ {A : Type 0} where
  pub row_stored : (k m a at g : ℕ) (l l' : List A) (z : A) (test : ℕ → Bool) (new f : ℕ → A) →
      a < k → k * m ≤ length l → at ≡ a * m → g ≡ m → length l' ≡ length l →
      ((i : ℕ) → get_or l' i z ≡ cond (guarded at g test i) (new i) (get_or l i z)) →
      ((o : ℕ) → o < m → new (a * m + o) ≡ f o) →
      l' ≡ recell k m (λ c o. cond (eqb c a && test o) (f o) (cell k m l z c o)) l
  row_stored k m a at g l l' z test new f ha long here done same h e =
      is_recell k m (λ c o. cond (eqb c a && test o) (f o) (cell k m l z c o)) l l' z long same inside past
    where
      whole : (i : ℕ) → get_or l' i z ≡ cond (guarded (a * m) m test i) (new i) (get_or l i z)
      whole i = h i ∙ ap₂ (λ (x y : ℕ). cond (guarded x y test i) (new i) (get_or l i z)) here done

      inside : (c o : ℕ) → c < k → o < m → get_or l' (c * m + o) z ≡ cond (eqb c a && test o) (f o) (cell k m l z c o)
      inside c o lc lo =
          whole (c * m + o)
          ∙ rw (guarded_row m a c o test lo, cell_at k m l z c o lc lo)
          (split (eqb c a)
          (λ q. ap (λ (x : A). cond (eqb c a && test o) x (get_or l (c * m + o) z)) (rw (eqb-true c a q) (e o lo)))
          (λ q. rw q))

      past : (i : ℕ) → k * m ≤ i → get_or l' i z ≡ get_or l i z
      past i q = whole i ∙ cond_no _ (new i) (get_or l i z) (ap (λ (b : Bool). b && test (i - a * m)) (window_above (a * m) m i (omega (arith, row_in a k m ha))))
