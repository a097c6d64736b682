-- Words that are copied into a table, one by one, and rows of them. Assumes nothing.
use mathlib.Core.Path.{◌≡◌, refl, sym, ap, ◌∙◌, subst}
use mathlib.Core.List.{List, ◌++◌}
use Prim.Native.Nat.{ℕ, ◌+◌, ◌*◌, ◌/◌, ◌%◌, ◌≤◌, ◌<◌}
use native.Mathlib.Nat.{div-eq_of_lt, mod-eq_of_lt}
use native.Mathlib.Decide.{ℕ_discrete}
use native.Mathlib.Omega.{arith}
use lib.ListN.{length, get_or, set, take, drop}
use Rattle.std.proofs.lemmas.List.{get_or-take, length-take}
use lib.Seq.{get_or-set_same, get_or-set_other}
use Rattle.laws.specs.Tables.{overwrite, recell}
use Rattle.laws.proofs.Tables.{cell_in, row_next, is_tabulate, length_overwrite, get_d_overwrite, overwrite_as, is_overwrite, is_recell, get_d_past, get_d_recell}
use Rattle.file_blocks.specs.Copied.{Copied}

-- Nothing is copied yet.
pub copied_none : (g : ℕ → ℕ) (to : ℕ) (l : List ℕ) → Copied g to 0 l l
copied_none g to l = record { inside = λ k h. absurd (omega arith); before = λ k h. refl; past = λ k h. refl }

-- One word more.
pub copied_more : {g : ℕ → ℕ} {to k : ℕ} {l l' : List ℕ} (v : ℕ) → Copied g to k l l' → to + k < length l' → v ≡ g k → Copied g to (k + 1) l (set l' (to + k) v)
copied_more {g} {to} {k} {l} {l'} v c h q =
    record {
      inside = λ i m.
          elim (ℕ_discrete i k) [
            | yes p ↦ subst (λ (j : ℕ). get_or (set l' (to + k) v) (to + j) 0 ≡ g j) (sym p) (get_or-set_same l' (to + k) v 0 h ∙ q)
            | no p ↦ get_or-set_other l' (to + k) (to + i) v 0 (λ e. p (omega arith)) ∙ c.inside i (omega (arith, p))
          ];
      before = λ i m. get_or-set_other l' (to + k) i v 0 (λ e. omega arith) ∙ c.before i m;
      past = λ i m. get_or-set_other l' (to + k) i v 0 (λ e. omega arith) ∙ c.past i (omega arith);
    }

-- The first n words of a list in the place of a table's.
pub copied_front : (n : ℕ) (xs l part : List ℕ) → part ≡ take n xs → n ≤ length xs → part ++ drop n l ≡ overwrite n (λ i. get_or xs i 0) l
unfolding overwrite
copied_front n xs l part e long =
    ap (λ (x : List ℕ). x ++ drop n l) (e ∙ is_tabulate (take n xs) n (λ i. get_or xs i 0) 0 (length-take n xs ∙ omega arith) (λ i h. get_or-take n xs i 0 h))

-- Words written over fewer words written before.
over_fewer : (m n : ℕ) (f g : ℕ → ℕ) (l : List ℕ) → n ≤ m → m ≤ length l → overwrite m f (overwrite n g l) ≡ overwrite m f l
over_fewer m n f g l h long =
    let x = overwrite n g l in
    let e = length_overwrite n g l (omega arith) in
    is_overwrite m f l (overwrite m f x) 0 long (length_overwrite m f x (omega (arith, e)) ∙ e)
    (λ i k. get_d_overwrite m f x i 0 k) (λ i k. get_d_past m f x i 0 k ∙ get_d_past n g l i 0 (omega arith))

-- The same of rows, over the first one.
pub rows_over : (i m : ℕ) (f : ℕ → ℕ → ℕ) (g : ℕ → ℕ) (l : List ℕ) → (i + 1) * m ≤ length l → recell (i + 1) m f (overwrite m g l) ≡ recell (i + 1) m f l
unfolding recell
rows_over i m f g l long = over_fewer ((i + 1) * m) m _ g l (omega (arith, row_next i m)) long

-- One row of a table.
pub one_row : (m : ℕ) (f : ℕ → ℕ → ℕ) (l : List ℕ) → overwrite m (f 0) l ≡ recell 1 m f l
unfolding recell
one_row m f l = sym (overwrite_as (1 * m) m (λ i. f (i / m) (i % m)) (f 0) l (omega arith) (λ i h. rw (div-eq_of_lt h, mod-eq_of_lt h)))

-- A row is copied behind the i rows of a table.
pub rows_more : (i m : ℕ) (f : ℕ → ℕ → ℕ) (g : ℕ → ℕ) (l x l' : List ℕ) {to : ℕ} → x ≡ recell i m f l → (i + 1) * m ≤ length l → length l' ≡ length l →
    to ≡ i * m → Copied g to m x l' → ((o : ℕ) → o < m → g o ≡ f i o) → l' ≡ recell (i + 1) m f l
rows_more i m f g l x l' e h long t c q =
    let w = subst (λ (k : ℕ). Copied g k m x l') t c in
    is_recell (i + 1) m f l l' 0 h long (λ b o lb lo.
    elim (ℕ_discrete b i) [
      | yes p ↦ subst (λ (j : ℕ). get_or l' (j * m + o) 0 ≡ f j o) (sym p) (w.inside o lo ∙ q o lo)
      | no p ↦
          let lt : b < i = omega (arith, p) in
          w.before (b * m + o) (cell_in b i m o lt lo) ∙ ap (λ (y : List ℕ). get_or y (b * m + o) 0) e ∙ get_d_recell i m f l b o 0 lt lo
    ])
    (λ k p. let n = row_next i m in
    w.past k (omega (arith, n)) ∙ ap (λ (y : List ℕ). get_or y k 0) e ∙ unfold recell in get_d_past (i * m) _ l k 0 (omega (arith, n)))
