-- Laws of tables: lengths, words, rows and columns, and lists written in front of a rest. Assumes nothing.
use mathlib.Core.Path.{◌≡◌, refl, sym, ap, ap₂, ◌∙◌, subst}
use mathlib.Core.List.{List, [], ◌∷◌, ◌++◌, append_assoc}
use mathlib.Core.Bool.{cond, ◌&&◌}
use Prim.Native.Nat.{ℕ, zero, suc, ◌+◌, ◌-◌, ◌*◌, ◌/◌, ◌%◌, ◌<◌, ◌≤◌}
use native.Mathlib.Nat.{le_antisymm, div-add-mod', mod-lt, div-lt_iff_lt-mul, mul-le-mul_right, add-mul, one-mul}
use native.Mathlib.Omega.{arith}
use lib.ListN.{length, get_or, set, take, drop, length-append, length-drop, length-take, length-set, get_or-append}
use lib.Seq.{ext_get_or, get_or-append-add, get_or-set_same, get_or-set_other, get_or-take, get_or-drop, drop_at, drop-set-lt}
use lib.Arith.{digits_div, digits_mod}
use lib.Dec.{eqb, ltb}
use borrow.Author.Tests.{eqb-true, eqb-false, lt-ltb, le-ltb, ltb-true, ltb-false}
use Rattle.laws.specs.Tables.{tabulate, overwrite, lay_over, word, cell, recell}
use Rattle.laws.proofs.Bools.{split, and_l, and_r}

-- A product with a place below it has a second factor that is not 0.
pub pos_right : (n m i : ℕ) → i < n * m → 0 < m
pos_right n zero i k = absurd (omega arith)
pos_right n (suc m) i k = omega arith

-- The word of row b and column o is within a table of n rows of m words.
pub cell_in : (b n m o : ℕ) → b < n → o < m → b * m + o < n * m
cell_in b n m o lb lo = omega (arith, mul-le-mul_right m lb)

-- A row is within the table.
pub row_in : (b n m : ℕ) → b < n → b * m + m ≤ n * m
row_in b n m lb = omega (arith, mul-le-mul_right m lb)

-- The place of the next row of z words.
pub row_next : (i z : ℕ) → (i + 1) * z ≡ i * z + z
row_next i z = rw (add-mul i 1 z, one-mul z)

module _ {A : Type 0} where
  pub length_tabulate : (n : ℕ) (f : ℕ → A) → length (tabulate n f) ≡ n
  unfolding tabulate
  length_tabulate zero f = refl
  length_tabulate (suc n) f = ap suc (length_tabulate n (λ i. f (suc i)))

  pub get_d_tabulate : (n : ℕ) (f : ℕ → A) (i : ℕ) (z : A) → i < n → get_or (tabulate n f) i z ≡ f i
  unfolding tabulate
  get_d_tabulate zero f i z l = absurd (omega arith)
  get_d_tabulate (suc n) f zero z l = refl
  get_d_tabulate (suc n) f (suc i) z l = get_d_tabulate n (λ i. f (suc i)) i z (omega arith)

  -- A list whose words are f's is the table of f.
  pub is_tabulate : (l : List A) (n : ℕ) (f : ℕ → A) (z : A) → length l ≡ n → ((i : ℕ) → i < n → get_or l i z ≡ f i) → l ≡ tabulate n f
  is_tabulate l n f z e h =
      ext_get_or z l (tabulate n f) (e ∙ sym (length_tabulate n f))
      (λ i q. let q' : i < n = subst (λ (k : ℕ). i < k) e q in h i q' ∙ sym (get_d_tabulate n f i z q'))

  pub tabulate_cong : (n : ℕ) (f g : ℕ → A) → ((i : ℕ) → i < n → f i ≡ g i) → tabulate n f ≡ tabulate n g
  unfolding tabulate
  tabulate_cong zero f g h = refl
  tabulate_cong (suc n) f g h = ap₂ ◌∷◌ (h 0 (omega arith)) (tabulate_cong n (λ i. f (suc i)) (λ i. g (suc i)) (λ i l. h (suc i) (omega arith)))

  -- One word more at the end.
  pub tabulate_snoc : (n : ℕ) (f : ℕ → A) → tabulate (suc n) f ≡ tabulate n f ++ (f n ∷ [])
  unfolding tabulate
  tabulate_snoc zero f = refl
  tabulate_snoc (suc n) f = ap (λ (l : List A). f 0 ∷ l) (tabulate_snoc n (λ i. f (suc i)))

  pub get_d_overwrite : (n : ℕ) (f : ℕ → A) (l : List A) (i : ℕ) (z : A) → i < n → get_or (overwrite n f l) i z ≡ f i
  unfolding overwrite
  get_d_overwrite n f l i z h = get_or-append (tabulate n f) (drop n l) z i (rw (length_tabulate n f) h) ∙ get_d_tabulate n f i z h

  -- Words past the first n are those that were there.
  pub get_d_past : (n : ℕ) (f : ℕ → A) (l : List A) (i : ℕ) (z : A) → n ≤ i → get_or (overwrite n f l) i z ≡ get_or l i z
  unfolding overwrite
  get_d_past n f l i z h =
      ap (λ (k : ℕ). get_or (tabulate n f ++ drop n l) k z) (rw (length_tabulate n f) (omega arith))
      ∙ get_or-append-add (tabulate n f) (drop n l) (i - n) z
      ∙ get_or-drop n l (i - n) z
      ∙ ap (λ (k : ℕ). get_or l k z) (omega arith)

  -- A list written anew has n words at least.
  pub long_overwrite : (n : ℕ) (f : ℕ → A) (l : List A) → n ≤ length (overwrite n f l)
  unfolding overwrite
  long_overwrite n f l = rw (length-append (tabulate n f) (drop n l), length_tabulate n f) (omega arith)

  pub length_overwrite : (n : ℕ) (f : ℕ → A) (l : List A) → n ≤ length l → length (overwrite n f l) ≡ length l
  unfolding overwrite
  length_overwrite n f l h = length-append (tabulate n f) (drop n l) ∙ rw (length_tabulate n f, length-drop n l) (omega arith)

  pub overwrite_cong : (n : ℕ) (f g : ℕ → A) (l : List A) → ((i : ℕ) → i < n → f i ≡ g i) → overwrite n f l ≡ overwrite n g l
  unfolding overwrite
  overwrite_cong n f g l h = ap (λ (x : List A). x ++ drop n l) (tabulate_cong n f g h)

  -- The same where the bound goes by another name.
  pub overwrite_as : (n m : ℕ) (f g : ℕ → A) (l : List A) → n ≡ m → ((i : ℕ) → i < m → f i ≡ g i) → overwrite n f l ≡ overwrite m g l
  overwrite_as n m f g l e h = ap (λ (k : ℕ). overwrite k f l) e ∙ overwrite_cong m f g l h

  -- One word written at the front.
  pub overwrite_one : (x : A) (l : List A) → 1 ≤ length l → overwrite 1 (λ i. x) l ≡ set l 0 x
  unfolding overwrite tabulate
  overwrite_one x [] h = absurd (omega arith)
  overwrite_one x (y ∷ l) h = refl

  -- By row and column.
  pub recell_cong : (n m : ℕ) (f g : ℕ → ℕ → A) (l : List A) → ((b o : ℕ) → b < n → o < m → f b o ≡ g b o) → recell n m f l ≡ recell n m g l
  unfolding recell
  recell_cong n m f g l h =
      overwrite_cong (n * m) (λ i. f (i / m) (i % m)) (λ i. g (i / m) (i % m)) l
      (λ i k. h (i / m) (i % m) ((div-lt_iff_lt-mul (pos_right n m i k)).1 k) (mod-lt i (pos_right n m i k)))

  pub recell_as : (n n' m : ℕ) (f g : ℕ → ℕ → A) (l : List A) → n ≡ n' → ((b o : ℕ) → b < n' → o < m → f b o ≡ g b o) → recell n m f l ≡ recell n' m g l
  recell_as n n' m f g l e h = ap (λ (k : ℕ). recell k m f l) e ∙ recell_cong n' m f g l h

  -- The last writing counts.
  pub over-over : (n : ℕ) (f g : ℕ → A) (l : List A) → overwrite n f (overwrite n g l) ≡ overwrite n f l
  unfolding overwrite
  over-over n f g l = ap (λ (r : List A). tabulate n f ++ r) (drop_at (tabulate n g) (drop n l) n (length_tabulate n g))

  -- A list is a table written anew if its first n words are the table's and the others are as they were.
  pub is_overwrite : (n : ℕ) (f : ℕ → A) (l l' : List A) (z : A) → n ≤ length l → length l' ≡ length l →
      ((i : ℕ) → i < n → get_or l' i z ≡ f i) → ((i : ℕ) → n ≤ i → get_or l' i z ≡ get_or l i z) → l' ≡ overwrite n f l
  is_overwrite n f l l' z h e inside past =
      ext_get_or z l' (overwrite n f l) (e ∙ sym (length_overwrite n f l h)) (λ i k.
      split (ltb i n)
      (λ q. inside i (ltb-true i n q) ∙ sym (get_d_overwrite n f l i z (ltb-true i n q)))
      (λ q. past i (ltb-false i n q) ∙ sym (get_d_past n f l i z (ltb-false i n q))))

  -- A table of n rows and m columns, by row and column.
  pub is_recell : (n m : ℕ) (f : ℕ → ℕ → A) (l l' : List A) (z : A) → n * m ≤ length l → length l' ≡ length l →
      ((b o : ℕ) → b < n → o < m → get_or l' (b * m + o) z ≡ f b o) → ((i : ℕ) → n * m ≤ i → get_or l' i z ≡ get_or l i z) → l' ≡ recell n m f l
  unfolding recell
  is_recell n m f l l' z h e inside past =
      is_overwrite (n * m) (λ i. f (i / m) (i % m)) l l' z h e (λ i k.
      rw (div-add-mod' i m) at (inside (i / m) (i % m) ((div-lt_iff_lt-mul (pos_right n m i k)).1 k) (mod-lt i (pos_right n m i k)))) past

  -- A table written with the words that it has, by place, and by row and column.
  pub overwrite_same : (n : ℕ) (f : ℕ → A) (l : List A) (z : A) → n ≤ length l → ((i : ℕ) → i < n → f i ≡ get_or l i z) → overwrite n f l ≡ l
  overwrite_same n f l z h e = sym (is_overwrite n f l l z h refl (λ i k. sym (e i k)) (λ i k. refl))

  pub recell_same : (n m : ℕ) (f : ℕ → ℕ → A) (l : List A) (z : A) → n * m ≤ length l → ((b o : ℕ) → b < n → o < m → f b o ≡ get_or l (b * m + o) z) → recell n m f l ≡ l
  recell_same n m f l z h e = sym (is_recell n m f l l z h refl (λ b o p q. sym (e b o p q)) (λ i k. refl))

  -- A cell inside the table.
  pub cell_at : (n m : ℕ) (l : List A) (z : A) (b o : ℕ) → b < n → o < m → cell n m l z b o ≡ get_or l (b * m + o) z
  unfolding cell
  cell_at n m l z b o lb lo = rw (lt-ltb b n lb, lt-ltb o m lo)

  -- A table that is written as it reads.
  pub recell_cell : (n m : ℕ) (l : List A) (z : A) → n * m ≤ length l → recell n m (cell n m l z) l ≡ l
  recell_cell n m l z h = recell_same n m (cell n m l z) l z h (cell_at n m l z)

  -- Row b, column o of a table written anew.
  pub get_d_recell : (n m : ℕ) (f : ℕ → ℕ → A) (l : List A) (b o : ℕ) (z : A) → b < n → o < m → get_or (recell n m f l) (b * m + o) z ≡ f b o
  unfolding recell
  get_d_recell n m f l b o z lb lo =
      get_d_overwrite (n * m) (λ i. f (i / m) (i % m)) l (b * m + o) z (cell_in b n m o lb lo) ∙ rw (digits_div b lo, digits_mod b lo)

  -- A table written anew reads as it was written, inside its bounds.
  pub cell_recell : (n m : ℕ) (f : ℕ → ℕ → A) (l : List A) (z : A) (b o : ℕ) →
      cell n m (recell n m f l) z b o ≡ cond (ltb b n && ltb o m) (f b o) z
  unfolding cell
  cell_recell n m f l z b o =
      split (ltb b n && ltb o m)
      (λ e.
      let lb : b < n = ltb-true b n (and_l (ltb b n) _ e) in
      let lo : o < m = ltb-true o m (and_r (ltb b n) _ e) in
      rw e (get_d_recell n m f l b o z lb lo))
      (λ e. rw e)

  pub word_overwrite : (n : ℕ) (f : ℕ → A) (l : List A) (z : A) (i : ℕ) → word n (overwrite n f l) z i ≡ cond (ltb i n) (f i) z
  unfolding word
  word_overwrite n f l z i =
      split (ltb i n)
      (λ e. rw e (get_d_overwrite n f l i z (ltb-true i n e)))
      (λ e. rw e)

  pub word_in_lem : (n : ℕ) (l : List A) (z : A) (i : ℕ) → i < n → word n l z i ≡ get_or l i z
  unfolding word
  word_in_lem n l z i h = rw (lt-ltb i n h)

  pub word_past : (n : ℕ) (l : List A) (z : A) (i : ℕ) → n ≤ i → word n l z i ≡ z
  unfolding word
  word_past n l z i h = rw (le-ltb i n h)

  -- A part that holds the table reads as the whole.
  pub word_take : (m n : ℕ) (l : List A) (z : A) (i : ℕ) → m ≤ n → word m (take n l) z i ≡ word m l z i
  unfolding word
  word_take m n l z i h =
      split (ltb i m)
      (λ e. let k : i < m = ltb-true i m e in rw e (get_or-take n l i z (omega arith)))
      (λ e. rw e)

  pub cell_take : (k m n : ℕ) (l : List A) (z : A) (b o : ℕ) → k * m ≤ n → cell k m (take n l) z b o ≡ cell k m l z b o
  unfolding cell
  cell_take k m n l z b o h =
      split (ltb b k && ltb o m)
      (λ e.
      let lb : b < k = ltb-true b k (and_l (ltb b k) _ e) in
      let lo : o < m = ltb-true o m (and_r (ltb b k) _ e) in
      rw e (get_or-take n l (b * m + o) z (omega (arith, cell_in b k m o lb lo))))
      (λ e. rw e)

  drop-take : (m n : ℕ) (l : List A) → m ≤ n → drop m (take n l) ++ drop n l ≡ drop m l
  drop-take zero zero l h = refl
  drop-take zero (suc n) [] h = refl
  drop-take zero (suc n) (x ∷ l) h = ap (λ (r : List A). x ∷ r) (drop-take zero n l (omega arith))
  drop-take (suc m) zero l h = absurd (omega arith)
  drop-take (suc m) (suc n) [] h = refl
  drop-take (suc m) (suc n) (x ∷ l) h = drop-take m n l (omega arith)

  -- A table written into its lent part, with the rest behind it, is the whole list written.
  pub overwrite_take : (m n : ℕ) (f : ℕ → A) (l : List A) → m ≤ n → overwrite m f (take n l) ++ drop n l ≡ overwrite m f l
  unfolding overwrite
  overwrite_take m n f l h = append_assoc (tabulate m f) (drop m (take n l)) (drop n l) ∙ ap (λ (r : List A). tabulate m f ++ r) (drop-take m n l h)

  -- The lent part of a list that is long enough is long enough if as much is lent.
  pub long_take : (m n : ℕ) (l : List A) → m ≤ length l → ltb (length (take n l)) m ≡ ltb n m
  long_take m n l h =
      split (ltb n m)
      (λ e. let k : n < m = ltb-true n m e in lt-ltb (length (take n l)) m (rw (length-take n l) (omega arith)) ∙ sym e)
      (λ e. let k : m ≤ n = ltb-false n m e in le-ltb (length (take n l)) m (rw (length-take n l) (omega arith)) ∙ sym e)

-- ---- Words laid over a buffer, as far as it reaches

module _ {A : Type 0} (z : A) where
  -- Where m is the less of both lengths, the first m words are written anew.
  pub lay_over_lem : (xs l : List A) (m : ℕ) → m ≤ length xs → m ≤ length l → (m < length xs → m ≡ length l) → lay_over xs l ≡ overwrite m (λ i. get_or xs i z) l
  unfolding lay_over overwrite tabulate
  lay_over_lem [] [] zero a b c = refl
  lay_over_lem [] (y ∷ l) zero a b c = refl
  lay_over_lem [] l (suc m) a b c = absurd (omega arith)
  lay_over_lem (x ∷ xs) [] zero a b c = refl
  lay_over_lem (x ∷ xs) [] (suc m) a b c = absurd (omega arith)
  lay_over_lem (x ∷ xs) (y ∷ l) zero a b c = absurd (omega (arith, c (omega arith)))
  lay_over_lem (x ∷ xs) (y ∷ l) (suc m) a b c = ap (λ (r : List A). x ∷ r) (lay_over_lem xs l m (omega arith) (omega arith) (λ k. let e = c (omega arith) in omega (arith, e)))

  -- A word that was laid, and one past them.
  pub lay_in : (xs l : List A) (i : ℕ) → i < length xs → i < length l → get_or (lay_over xs l) i z ≡ get_or xs i z
  unfolding lay_over
  lay_in (x ∷ xs) (y ∷ l) zero a b = refl
  lay_in (x ∷ xs) (y ∷ l) (suc i) a b = lay_in xs l i (omega arith) (omega arith)
  lay_in [] l i a b = absurd (omega arith)
  lay_in (x ∷ xs) [] i a b = absurd (omega arith)

  pub lay_past : (xs l : List A) (i : ℕ) → length xs ≤ i → get_or (lay_over xs l) i z ≡ get_or l i z
  unfolding lay_over
  lay_past [] [] i a = refl
  lay_past [] (y ∷ l) i a = refl
  lay_past (x ∷ xs) [] i a = refl
  lay_past (x ∷ xs) (y ∷ l) zero a = absurd (omega arith)
  lay_past (x ∷ xs) (y ∷ l) (suc i) a = lay_past xs l i (omega arith)

-- ---- A table written word by word from the front

module _ {A : Type 0} (z : A) where
  pub overwrite_none : (f : ℕ → A) (l : List A) → overwrite 0 f l ≡ l
  unfolding overwrite tabulate
  overwrite_none f l = refl

  -- One word more.
  pub overwrite_next : (n : ℕ) (f : ℕ → A) (l : List A) → n < length l → set (overwrite n f l) n (f n) ≡ overwrite (n + 1) f l
  overwrite_next n f l h =
      is_overwrite (n + 1) f l (set (overwrite n f l) n (f n)) z (omega arith)
      (length-set (overwrite n f l) n (f n) ∙ length_overwrite n f l (omega arith))
      (λ i k. split (eqb i n)
      (λ q. rw (eqb-true i n q) (get_or-set_same (overwrite n f l) n (f n) z (rw (length_overwrite n f l (omega arith)) h)))
      (λ q. let ne : i ≡ n → ⊥ = eqb-false i n q in get_or-set_other (overwrite n f l) n i (f n) z ne ∙ get_d_overwrite n f l i z (omega arith)))
      (λ i k. get_or-set_other (overwrite n f l) n i (f n) z (λ e. omega arith) ∙ get_d_past n f l i z (omega arith))

  -- A word that is written anew anyway.
  pub overwrite_set : (n : ℕ) (f : ℕ → A) (l : List A) (i : ℕ) (v : A) → i < n → overwrite n f (set l i v) ≡ overwrite n f l
  unfolding overwrite
  overwrite_set n f l i v h = ap (λ (r : List A). tabulate n f ++ r) (drop-set-lt n l i v h)

  -- A list whose first n words are written has those words.
  pub filled_right : (f : ℕ → A) (l l' : List A) (n : ℕ) → l' ≡ overwrite n f l → (i : ℕ) → i < n → get_or l' i z ≡ f i
  filled_right f l l' n e i h = ap (λ (x : List A). get_or x i z) e ∙ get_d_overwrite n f l i z h

-- ---- A loop that fills the list l: l' is what it is after i turns

module _ {A : Type 0} where
  -- Nothing is written yet.
  pub fill_none : (f : ℕ → A) (l : List A) → l ≡ overwrite 0 f l
  unfolding overwrite tabulate
  fill_none f l = refl

  -- One word more.
  pub fill_more : (f : ℕ → A) (i : ℕ) (l l' : List A) (v : A) → l' ≡ overwrite i f l → i < length l → v ≡ f i → set l' i v ≡ overwrite (i + 1) f l
  fill_more f i l l' v e h q = ap₂ (λ (x : List A) (y : A). set x i y) e q ∙ overwrite_next v i f l h

  -- All n words are written.
  pub fill_end : (f : ℕ → A) (i n : ℕ) (l l' : List A) → l' ≡ overwrite i f l → i ≤ n → n ≤ i → l' ≡ overwrite n f l
  fill_end f i n l l' e a b = e ∙ ap (λ (k : ℕ). overwrite k f l) (le_antisymm a b)
