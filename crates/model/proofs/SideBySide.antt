-- In an evening of several price lists a grocer's totals lie side by side. Assumes nothing.
use mathlib.Core.Path.{◌≡◌, refl, sym, ap, ap₂, ◌∙◌, subst}
use mathlib.Core.List.{List, [], ◌∷◌, ◌++◌, append_assoc}
use mathlib.Core.Bool.{Bool, true, false, cond, ◌&&◌, ◌||◌}
use Prim.Native.Nat.{ℕ, zero, suc, ◌+◌, ◌*◌, ◌/◌, ◌%◌, ◌<◌}
use native.Mathlib.Omega.{arith}
use native.Mathlib.Nat.{mod-lt, div-lt_iff_lt-mul, div-add-mod', add-mul}
use lib.Arith.{digits_div, digits_mod}
use lib.ListN.{get_or, length, length-append, get_or-append}
use lib.Seq.{get_or-append-add}
use lib.Dec.{eqb, ltb}
use borrow.Author.Tests.{eqb-true, eq-eqb, ltb-true, lt-ltb}
use Rattle.laws.specs.Below.{naturals, ascending}
use Rattle.laws.specs.Tables.{tabulate}
use Rattle.laws.proofs.Bools.{same_test, and_true, and_l, and_r}
use Rattle.laws.proofs.Below.{any_at, any_find}
use Rattle.laws.proofs.Ascending.{ascending_cong}
use Rattle.laws.proofs.Sums.{sum_cong}
use Rattle.laws.proofs.Entries.{sum_scale}
use Rattle.laws.proofs.Tables.{length_tabulate, get_d_tabulate, tabulate_snoc, cell_in, row_next}
use Rattle.model.specs.Job.{Job, held_by, shares, total_word}
use Rattle.model.specs.LocalLists.{chained, local_grocers, local_grocer}
use Rattle.model.specs.PackedTotals.{is_local, totals_start, totals_length, total_place, spread, SideBySide}
use Rattle.model.specs.Spans.{beside}
use Rattle.model.proofs.LocalLists.{owned_or_shared, local_is, local_at, number_at}

nil_right : {A : Type 0} (l : List A) → l ++ [] ≡ l
nil_right [] = refl
nil_right (x ∷ l) = ap (λ r. x ∷ r) (nil_right l)

module _ (n : ℕ) where
  beside_append : (a b : List ℕ) → beside n (a ++ b) ≡ beside n a ++ beside n b
  unfolding beside
  beside_append [] b = refl
  beside_append (x ∷ a) b =
      ap (λ (l : List ℕ). tabulate n (λ l. x * n + l) ++ l) (beside_append a b) ∙ sym (append_assoc (tabulate n (λ l. x * n + l)) (beside n a) (beside n b))

  pub length-beside : (a : List ℕ) → length (beside n a) ≡ length a * n
  unfolding beside
  length-beside [] = omega arith
  length-beside (x ∷ a) =
      length-append (tabulate n (λ l. x * n + l)) (beside n a)
      ∙ ap₂ ◌+◌ (length_tabulate n (λ l. x * n + l)) (length-beside a)
      ∙ omega (arith, row_next (length a) n)

  pub get_d_beside : (a : List ℕ) (i l : ℕ) → i < length a → l < n → get_or (beside n a) (i * n + l) 0 ≡ get_or a i 0 * n + l
  unfolding beside
  get_d_beside [] i l h k = absurd (omega arith)
  get_d_beside (x ∷ a) zero l h k =
      ap (λ (m : ℕ). get_or (tabulate n (λ l. x * n + l) ++ beside n a) m 0) (omega arith)
      ∙ get_or-append (tabulate n (λ l. x * n + l)) (beside n a) 0 l (rw (length_tabulate n (λ l. x * n + l)) k)
      ∙ get_d_tabulate n (λ l. x * n + l) l 0 k
  get_d_beside (x ∷ a) (suc i) l h k =
      ap (λ (m : ℕ). get_or (tabulate n (λ l. x * n + l) ++ beside n a) m 0) (omega (arith, row_next i n, length_tabulate n (λ l. x * n + l)))
      ∙ get_or-append-add (tabulate n (λ l. x * n + l)) (beside n a) (i * n + l) 0
      ∙ get_d_beside a i l (omega arith) k

  -- Numbers of which the whole block passes or does not.
  block : (k m : ℕ) (p : ℕ → Bool) (c : Bool) → ((i : ℕ) → i < m → p (k + i) ≡ c) → ascending (k + m) p ≡ ascending k p ++ cond c (tabulate m (λ i. k + i)) []
  unfolding ascending tabulate
  block k zero p c h = ap (λ (x : ℕ). ascending x p) (plus_none k) ∙ sym (nil_right (ascending k p)) ∙ ap (λ (l : List ℕ). ascending k p ++ l) (sym (none c))
    where
      plus_none : (k : ℕ) → k + 0 ≡ k
      plus_none k = omega arith

      none : (c : Bool) → cond {A = List ℕ} c [] [] ≡ []
      none true = refl
      none false = refl
  block k (suc m) p c h =
      ap (λ (x : ℕ). ascending x p) (suc_right k m)
      ∙ ap₂ (λ (l : List ℕ) (t : Bool). l ++ cond t ((k + m) ∷ []) []) (block k m p c (λ i l. h i (omega arith))) (h m (omega arith))
      ∙ append_assoc (ascending k p) (cond c (tabulate m (λ i. k + i)) []) (cond c ((k + m) ∷ []) [])
      ∙ ap (λ (l : List ℕ). ascending k p ++ l) (more c)
    where
      suc_right : (k m : ℕ) → k + suc m ≡ suc (k + m)
      suc_right k m = omega arith

      more : (c : Bool) → cond c (tabulate m (λ i. k + i)) [] ++ cond c ((k + m) ∷ []) [] ≡ cond c (tabulate (suc m) (λ i. k + i)) []
      more true = sym (tabulate_snoc m (λ i. k + i))
      more false = refl

  ascending-beside : (m : ℕ) (p : ℕ → Bool) → ascending (m * n) (λ x. p (x / n)) ≡ beside n (ascending m p)
  unfolding ascending beside
  ascending-beside zero p = ap (λ (x : ℕ). ascending x (λ x. p (x / n))) (none n)
    where
      none : (n : ℕ) → 0 * n ≡ 0
      none n = omega arith
  ascending-beside (suc m) p =
      ap (λ (x : ℕ). ascending x (λ x. p (x / n))) (next m n)
      ∙ block (m * n) n (λ x. p (x / n)) (p m) (λ i l. ap p (digits_div m l))
      ∙ ap₂ ◌++◌ (ascending-beside m p) (one (p m))
      ∙ sym (beside_append (ascending m p) (cond (p m) (m ∷ []) []))
    where
      next : (m n : ℕ) → suc m * n ≡ m * n + n
      next m n = omega (arith, row_next m n)

      one : (c : Bool) → cond c (tabulate n (λ i. m * n + i)) [] ≡ beside n (cond c (m ∷ []) [])
      one true = sym (nil_right (tabulate n (λ i. m * n + i)))
      one false = refl

  pub chained-beside : (k : ℕ) (f g : ℕ → List ℕ) → ((a : ℕ) → a < k → f a ≡ beside n (g a)) → chained k f ≡ beside n (chained k g)
  unfolding chained beside
  chained-beside zero f g h = refl
  chained-beside (suc k) f g h =
      ap₂ ◌++◌ (chained-beside k f g (λ a l. h a (omega arith))) (h k (omega arith)) ∙ sym (beside_append (chained k g) (g k))

module _ (n : ℕ) (some : 0 < n) (p : ℕ → ℕ) (j : Job) where
  shares_spread : (g b : ℕ) → shares (spread n p j) g b ≡ shares j (g / n) b
  unfolding shares held_by spread
  shares_spread g b =
      same_test (shares (spread n p j) g b) (shares j (g / n) b)
      (λ h. let (t, l, e) = any_find (j.tallies * n) (λ t. eqb (j.tally_box (t / n)) b && ltb b j.boxes && eqb (j.tally_grocer (t / n) * n + t % n) g) h in
      let same : j.tally_grocer (t / n) * n + t % n ≡ g = eqb-true (j.tally_grocer (t / n) * n + t % n) g (and_r (eqb (j.tally_box (t / n)) b && ltb b j.boxes) _ e) in
      any_at j.tallies (λ t. eqb (j.tally_box t) b && ltb b j.boxes && eqb (j.tally_grocer t) (g / n)) (t / n) ((div-lt_iff_lt-mul some).1 l)
      (and_true (and_l (eqb (j.tally_box (t / n)) b && ltb b j.boxes) _ e)
      (eq-eqb (j.tally_grocer (t / n)) (g / n) (sym (digits_div (j.tally_grocer (t / n)) (mod-lt t some)) ∙ ap (λ (x : ℕ). x / n) same))))
      (λ h. let (t, l, e) = any_find j.tallies (λ t. eqb (j.tally_box t) b && ltb b j.boxes && eqb (j.tally_grocer t) (g / n)) h in
      let same : j.tally_grocer t ≡ g / n = eqb-true (j.tally_grocer t) (g / n) (and_r (eqb (j.tally_box t) b && ltb b j.boxes) _ e) in
      any_at (j.tallies * n) (λ t. eqb (j.tally_box (t / n)) b && ltb b j.boxes && eqb (j.tally_grocer (t / n) * n + t % n) g) (t * n + g % n)
      (cell_in t j.tallies n (g % n) l (mod-lt g some))
      (rw (digits_div t (mod-lt g some), digits_mod t (mod-lt g some))
      (and_true (and_l (eqb (j.tally_box t) b && ltb b j.boxes) _ e) (eq-eqb (j.tally_grocer t * n + g % n) g (rw same (div-add-mod' g n))))))

  word_spread : (b a g : ℕ) → total_word (spread n p j) b a g ≡ total_word j b a (g / n)
  unfolding total_word spread
  word_spread b a g = rw (shares_spread g b)

  -- The local grocers are those of the job, each with its lists side by side.
  pub local_spread : (b : ℕ) → local_grocers (spread n p j) b ≡ beside n (local_grocers j b)
  unfolding local_grocers spread
  local_spread b =
      ap₂ ◌++◌ (ascending-beside n j.grocers (λ g. eqb (j.grocer_owner g) b))
      (chained-beside n j.boxes (λ a. ascending (j.grocers * n) (total_word (spread n p j) b a)) (λ a. ascending j.grocers (total_word j b a)) (λ a l.
      ascending_cong (j.grocers * n) (total_word (spread n p j) b a) (λ g. total_word j b a (g / n)) (λ g k. word_spread b a g)
      ∙ ascending-beside n j.grocers (total_word j b a)))
      ∙ sym (beside_append n (ascending j.grocers (λ g. eqb (j.grocer_owner g) b)) (chained j.boxes (λ a. ascending j.grocers (total_word j b a))))

  pub start_spread : (b : ℕ) → totals_start (spread n p j) b ≡ totals_start j b * n
  unfolding totals_start
  start_spread b =
      sum_cong naturals b (λ c. length (local_grocers (spread n p j) c)) (λ c. length (local_grocers j c) * n) (λ c l. ap length (local_spread c) ∙ length-beside n (local_grocers j c))
      ∙ sum_scale n b (λ c. length (local_grocers j c))

  inside_spread : (g l : ℕ) → l < n → ltb (g * n + l) (j.grocers * n) ≡ ltb g j.grocers
  inside_spread g l k =
      same_test (ltb (g * n + l) (j.grocers * n)) (ltb g j.grocers)
      (λ h. lt-ltb g j.grocers (subst (λ (x : ℕ). x < j.grocers) (digits_div g k) ((div-lt_iff_lt-mul some).1 (ltb-true (g * n + l) (j.grocers * n) h))))
      (λ h. lt-ltb (g * n + l) (j.grocers * n) (cell_in g j.grocers n l (ltb-true g j.grocers h) k))

  owned_spread : (b g l : ℕ) → l < n → owned_or_shared (spread n p j) b (g * n + l) ≡ owned_or_shared j b g
  unfolding owned_or_shared spread
  owned_spread b g l k =
      ap₂ (λ (t : Bool) (o : ℕ). t && (eqb o b || (ltb o j.boxes && shares (spread n p j) (g * n + l) b))) (inside_spread g l k) (ap j.grocer_owner (digits_div g k))
      ∙ ap (λ (t : Bool). ltb g j.grocers && (eqb (j.grocer_owner g) b || (ltb (j.grocer_owner g) j.boxes && t))) (shares_spread (g * n + l) b ∙ ap (λ (x : ℕ). shares j x b) (digits_div g k))

  alike-spread : (b g l : ℕ) → l < n → is_local (spread n p j) b (g * n + l) ≡ is_local j b g
  alike-spread b g l k = local_is (spread n p j) b (g * n + l) ∙ owned_spread b g l k ∙ sym (local_is j b g)

  number_spread : (b g l : ℕ) → l < n → is_local j b g ≡ true → local_grocer (spread n p j) b (g * n + l) ≡ local_grocer j b g * n + l
  number_spread b g l k h =
      let (i, at) = local_at j b g h in
      let stands : get_or (local_grocers (spread n p j) b) (local_grocer j b g * n + l) 0 ≡ g * n + l =
      ap (λ (x : List ℕ). get_or x (local_grocer j b g * n + l) 0) (local_spread b) ∙ get_d_beside n (local_grocers j b) (local_grocer j b g) l i k ∙ ap (λ (x : ℕ). x * n + l) at in
      ap (local_grocer (spread n p j) b) (sym stands)
      ∙ (number_at (spread n p j) b (local_grocer j b g * n + l)
      (rw (ap length (local_spread b) ∙ length-beside n (local_grocers j b)) (cell_in (local_grocer j b g) (length (local_grocers j b)) n l i k))).1

  boxes_spread : totals_start (spread n p j) (spread n p j).boxes ≡ totals_start j j.boxes * n
  unfolding spread
  boxes_spread = start_spread j.boxes

  pub side_by_side : SideBySide n p j
  unfolding total_place totals_length
  side_by_side = record {
    alike = alike-spread;
    place = λ b g l k h. rw (start_spread b, number_spread b g l k h) (omega (arith, add-mul (totals_start j b) (local_grocer j b g) n));
    packed_length = boxes_spread;
  }
