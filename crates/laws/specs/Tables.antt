-- Tables: lists of words, read and written by place, or by row and column.
use Rattle.std.specs.Prelude.{List, [], ◌∷◌, ◌++◌, cond, ◌&&◌, ℕ, zero, suc, ◌+◌, ◌*◌, ◌/◌, ◌%◌, get_or, take, drop, length, ltb}

module _ {A : Type 0} where
  -- The list f 0, f 1, .. of n words.
  unfoldable pub tabulate : ℕ → (ℕ → A) → List A
  tabulate zero f = []
  tabulate (suc n) f = f 0 ∷ tabulate n (λ i. f (suc i))

  -- The list l with its first n words written anew, and the others not touched.
  unfoldable pub overwrite : ℕ → (ℕ → A) → List A → List A
  overwrite n f l = tabulate n f ++ drop n l

  -- The words xs laid over the first words of a lent buffer l, as far as it reaches; its other words are not touched.
  unfoldable pub lay_over : List A → List A → List A
  lay_over xs l = take (length l) xs ++ drop (length xs) l

  -- Word i of a table of n words: what stands past them is not read.
  unfoldable pub word : ℕ → List A → A → ℕ → A
  word n l z i = cond (ltb i n) (get_or l i z) z

  -- Row b, column o of a table of n rows of m words each.
  unfoldable pub cell : ℕ → ℕ → List A → A → ℕ → ℕ → A
  cell n m l z b o = cond (ltb b n && ltb o m) (get_or l (b * m + o) z) z

  -- The same table written anew.
  unfoldable pub recell : ℕ → ℕ → (ℕ → ℕ → A) → List A → List A
  recell n m f l = overwrite (n * m) (λ i. f (i / m) (i % m)) l

-- The count in row a, column b of a table of rows.
abbrev pub cell_at : List (List ℕ) → ℕ → ℕ → ℕ
cell_at t a b = get_or (get_or t a []) b 0
