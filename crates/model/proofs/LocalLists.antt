-- The local grocers of a box: those that it owns or holds a tally of, each once. Assumes nothing.
use mathlib.Core.Path.{◌≡◌, sym, ap, ◌∙◌, subst}
use mathlib.Core.List.{List, ◌++◌}
use mathlib.Core.Bool.{Bool, true, false, ◌&&◌, ◌||◌, not}
use Prim.Native.Nat.{ℕ, zero, suc, ◌+◌, ◌-◌, ◌<◌, ◌≤◌}
use native.Mathlib.Omega.{arith}
use lib.ListN.{get_or, length, length-append, get_or-append}
use lib.Seq.{get_or-append-add}
use lib.Dec.{eqb, ltb}
use borrow.Author.Tests.{eqb-true, eqb-false, eq-eqb, ltb-true, ltb-false, lt-ltb, le-ltb, not-true}
use Rattle.laws.specs.Below.{count, ascending, nth}
use Rattle.laws.proofs.Bools.{split, clash, same_test, and_true, and_l, and_r, eqb_same, or_l, or_r}
use Rattle.laws.proofs.Below.{any_at, any_find, count_lt, count_where, find_passes, find_only}
use Rattle.laws.proofs.Ascending.{length-ascending, ascending_at, get_d_ascending, nth_passes}
use Rattle.model.specs.Job.{Job, shares, total_word}
use Rattle.model.specs.LocalLists.{chained, local_grocers, local_grocer}
use Rattle.model.specs.PackedTotals.{is_local}

-- A word behind the first list.
get_d_right : {A : Type 0} (a b : List A) (i : ℕ) (z : A) → length a ≤ i → get_or (a ++ b) i z ≡ get_or b (i - length a) z
get_d_right a b i z l = ap (λ (k : ℕ). get_or (a ++ b) k z) (omega arith) ∙ get_or-append-add a b (i - length a) z

-- x stands in the list.
abbrev pub Has : List ℕ → ℕ → Type 0
Has l x = (i : ℕ) × (i < length l) × (get_or l i 0 ≡ x)

-- Every word of the list passes p.
abbrev pub Each : (ℕ → Bool) → List ℕ → Type 0
Each p l = (i : ℕ) → i < length l → p (get_or l i 0) ≡ true

-- No word stands twice.
abbrev pub Once : List ℕ → Type 0
Once l = (i m : ℕ) → i < length l → m < length l → get_or l i 0 ≡ get_or l m 0 → i ≡ m

has_left : (a b : List ℕ) (x : ℕ) → Has a x → Has (a ++ b) x
has_left a b x (i, l, e) = (i, omega (arith, length-append a b), get_or-append a b 0 i l ∙ e)

has_right : (a b : List ℕ) (x : ℕ) → Has b x → Has (a ++ b) x
has_right a b x (i, l, e) = (length a + i, omega (arith, length-append a b), get_or-append-add a b i 0 ∙ e)

each_append : (p : ℕ → Bool) (a b : List ℕ) → Each p a → Each p b → Each p (a ++ b)
each_append p a b f g i l =
    split (ltb i (length a))
    (λ q. ap p (get_or-append a b 0 i (ltb-true i (length a) q)) ∙ f i (ltb-true i (length a) q))
    (λ q. let k : length a ≤ i = ltb-false i (length a) q in
    ap p (get_d_right a b i 0 k) ∙ g (i - length a) (omega (arith, length-append a b)))

-- Two lists that a test tells apart.
module _ (p : ℕ → Bool) (a b : List ℕ) (f : Each p a) (g : Each (λ x. not (p x)) b) where
  apart : (i m : ℕ) → i < length a → length a ≤ m → m < length (a ++ b) → get_or (a ++ b) i 0 ≡ get_or (a ++ b) m 0 → ⊥
  apart i m ki km lm e =
      clash (f i ki)
      (ap p (sym (get_or-append a b 0 i ki) ∙ e ∙ get_d_right a b m 0 km) ∙ not-true (p (get_or b (m - length a) 0)) (g (m - length a) (omega (arith, length-append a b))))

  once_append : Once a → Once b → Once (a ++ b)
  once_append oa ob i m li lm e =
      split (ltb i (length a))
      (λ q. let ki : i < length a = ltb-true i (length a) q in
      split (ltb m (length a))
      (λ r. let km : m < length a = ltb-true m (length a) r in
      oa i m ki km (sym (get_or-append a b 0 i ki) ∙ e ∙ get_or-append a b 0 m km))
      (λ r. absurd (apart i m ki (ltb-false m (length a) r) lm e)))
      (λ q. let ki : length a ≤ i = ltb-false i (length a) q in
      split (ltb m (length a))
      (λ r. absurd (apart m i (ltb-true m (length a) r) ki li (sym e)))
      (λ r. let km : length a ≤ m = ltb-false m (length a) r in
      let same : i - length a ≡ m - length a = ob (i - length a) (m - length a) (omega (arith, length-append a b)) (omega (arith, length-append a b))
      (sym (get_d_right a b i 0 ki) ∙ e ∙ get_d_right a b m 0 km) in
      omega arith))

-- Numbers that pass, ascending.
has_ascending : (n : ℕ) (p : ℕ → Bool) (y : ℕ) → y < n → p y ≡ true → Has (ascending n p) y
has_ascending n p y l h = (count y p, omega (arith, length-ascending n p, count_lt n p y l h), ascending_at n p y l h)

each-ascending : (n : ℕ) (p q : ℕ → Bool) → ((i : ℕ) → i < n → p i ≡ true → q i ≡ true) → Each q (ascending n p)
each-ascending n p q h i l =
    let (a, b) = nth_passes n p i (omega (arith, length-ascending n p)) in
    ap q (get_d_ascending n p i) ∙ h (nth n p i) a b

once_ascending : (n : ℕ) (p : ℕ → Bool) → Once (ascending n p)
once_ascending n p i m li lm e =
    let (y, ly, hy, ey) = count_where n p i (omega (arith, length-ascending n p)) in
    let (z, lz, hz, ez) = count_where n p m (omega (arith, length-ascending n p)) in
    let same : y ≡ z = sym (ascending_at n p y ly hy) ∙ ap (λ (k : ℕ). get_or (ascending n p) k 0) ey ∙ e ∙ ap (λ (k : ℕ). get_or (ascending n p) k 0) (sym ez) ∙ ascending_at n p z lz hz in
    sym ey ∙ ap (λ (k : ℕ). count k p) same ∙ ez

-- Lists one behind the other.
has_chained : (n : ℕ) (f : ℕ → List ℕ) (a x : ℕ) → a < n → Has (f a) x → Has (chained n f) x
unfolding chained
has_chained zero f a x l h = absurd (omega arith)
has_chained (suc n) f a x l h =
    split (eqb a n)
    (λ q. has_right (chained n f) (f n) x (subst (λ (k : ℕ). Has (f k) x) (eqb-true a n q) h))
    (λ q. let ne : a ≡ n → ⊥ = eqb-false a n q in has_left (chained n f) (f n) x (has_chained n f a x (omega arith) h))

each-chained : (n : ℕ) (f : ℕ → List ℕ) (p : ℕ → Bool) → ((a : ℕ) → a < n → Each p (f a)) → Each p (chained n f)
unfolding chained
each-chained zero f p h i l = absurd (omega arith)
each-chained (suc n) f p h i l = each_append p (chained n f) (f n) (each-chained n f p (λ a l. h a (omega arith))) (h n (omega arith)) i l

-- Where each word tells by a key which list it stands in, none stands in two.
once_chained : (n : ℕ) (f : ℕ → List ℕ) (key : ℕ → ℕ) → ((a : ℕ) → Each (λ x. eqb (key x) a) (f a)) → ((a : ℕ) → Once (f a)) → Once (chained n f)
unfolding chained
once_chained zero f key h o i m li lm e = absurd (omega arith)
once_chained (suc n) f key h o i m li lm e =
    once_append (λ x. ltb (key x) n) (chained n f) (f n)
    (each-chained n f (λ x. ltb (key x) n) (λ a l i k. let e = eqb-true (key (get_or (f a) i 0)) a (h a i k) in lt-ltb (key (get_or (f a) i 0)) n (omega arith)))
    (λ i k. let e = eqb-true (key (get_or (f n) i 0)) n (h n i k) in ap not (le-ltb (key (get_or (f n) i 0)) n (omega arith)))
    (once_chained n f key h o) (o n) i m li lm e

-- The local grocers of box b.
module _ (j : Job) (b : ℕ) where
  -- A grocer that box b owns, or holds a tally of.
  unfoldable pub owned_or_shared : ℕ → Bool
  owned_or_shared g = ltb g j.grocers && (eqb (j.grocer_owner g) b || (ltb (j.grocer_owner g) j.boxes && shares j g b))

  abbrev own_ones : List ℕ
  own_ones = ascending j.grocers (λ g. eqb (j.grocer_owner g) b)

  abbrev other_ones : List ℕ
  other_ones = chained j.boxes (λ a. ascending j.grocers (total_word j b a))

  word_parts : (a g : ℕ) → total_word j b a g ≡ true → (j.grocer_owner g ≡ a) × (eqb (j.grocer_owner g) b ≡ false) × (shares j g b ≡ true)
  unfolding total_word
  word_parts a g h =
      let r = and_r (eqb (j.grocer_owner g) a) _ h in
      (eqb-true (j.grocer_owner g) a (and_l (eqb (j.grocer_owner g) a) _ h), not-true (eqb (j.grocer_owner g) b) (and_l (not (eqb (j.grocer_owner g) b)) _ r), and_r (not (eqb (j.grocer_owner g) b)) _ r)

  each_own : Each owned_or_shared own_ones
  unfolding owned_or_shared
  each_own = each-ascending j.grocers (λ g. eqb (j.grocer_owner g) b) owned_or_shared (λ g l e. and_true (lt-ltb g j.grocers l) (or_l (eqb (j.grocer_owner g) b) _ e))

  each_other : Each owned_or_shared other_ones
  unfolding owned_or_shared
  each_other = each-chained j.boxes (λ a. ascending j.grocers (total_word j b a)) owned_or_shared (λ a la.
      each-ascending j.grocers (total_word j b a) owned_or_shared (λ g l e.
      let (o, n, s) = word_parts a g e in
      and_true (lt-ltb g j.grocers l) (or_r (eqb (j.grocer_owner g) b) _ (and_true (lt-ltb (j.grocer_owner g) j.boxes (omega arith)) s))))

  -- Every local grocer is such a one,
  each_local : Each owned_or_shared (local_grocers j b)
  unfolding local_grocers
  each_local = each_append owned_or_shared own_ones other_ones each_own each_other

  -- and stands once.
  once_local : Once (local_grocers j b)
  unfolding local_grocers
  once_local =
      once_append (λ g. eqb (j.grocer_owner g) b) own_ones other_ones
      (each-ascending j.grocers (λ g. eqb (j.grocer_owner g) b) (λ g. eqb (j.grocer_owner g) b) (λ g l e. e))
      (each-chained j.boxes (λ a. ascending j.grocers (total_word j b a)) (λ g. not (eqb (j.grocer_owner g) b)) (λ a la.
      each-ascending j.grocers (total_word j b a) (λ g. not (eqb (j.grocer_owner g) b)) (λ g l e. ap not (word_parts a g e).1)))
      (once_ascending j.grocers (λ g. eqb (j.grocer_owner g) b))
      (once_chained j.boxes (λ a. ascending j.grocers (total_word j b a)) j.grocer_owner
      (λ a. each-ascending j.grocers (total_word j b a) (λ g. eqb (j.grocer_owner g) a) (λ g l e. eq-eqb (j.grocer_owner g) a (word_parts a g e).0))
      (λ a. once_ascending j.grocers (total_word j b a)))

  has_local : (g : ℕ) → owned_or_shared g ≡ true → Has (local_grocers j b) g
  unfolding local_grocers owned_or_shared total_word
  has_local g h =
      let l : g < j.grocers = ltb-true g j.grocers (and_l (ltb g j.grocers) _ h) in
      let r = and_r (ltb g j.grocers) _ h in
      split (eqb (j.grocer_owner g) b)
      (λ e. has_left own_ones other_ones g (has_ascending j.grocers (λ g. eqb (j.grocer_owner g) b) g l e))
      (λ e. let k : (ltb (j.grocer_owner g) j.boxes && shares j g b) ≡ true = rw e at r in
      has_right own_ones other_ones g (has_chained j.boxes (λ a. ascending j.grocers (total_word j b a)) (j.grocer_owner g) g
      (ltb-true (j.grocer_owner g) j.boxes (and_l (ltb (j.grocer_owner g) j.boxes) _ k))
      (has_ascending j.grocers (total_word j b (j.grocer_owner g)) g l
      (and_true (eqb_same (j.grocer_owner g)) (and_true (ap not e) (and_r (ltb (j.grocer_owner g) j.boxes) _ k))))))

  -- The local grocers are those that the box owns or holds a tally of.
  pub local_is : (g : ℕ) → is_local j b g ≡ owned_or_shared g
  unfolding is_local
  local_is g =
      same_test (is_local j b g) (owned_or_shared g)
      (λ h. let (i, l, e) = any_find (length (local_grocers j b)) (λ i. eqb (get_or (local_grocers j b) i 0) g) h in
      subst (λ (x : ℕ). owned_or_shared x ≡ true) (eqb-true (get_or (local_grocers j b) i 0) g e) (each_local i l))
      (λ h. let (i, l, e) = has_local g h in
      any_at (length (local_grocers j b)) (λ i. eqb (get_or (local_grocers j b) i 0) g) i l (eq-eqb (get_or (local_grocers j b) i 0) g e))

  -- A local grocer has a local number, at which it stands;
  pub local_at : (g : ℕ) → is_local j b g ≡ true → (local_grocer j b g < length (local_grocers j b)) × (get_or (local_grocers j b) (local_grocer j b g) 0 ≡ g)
  unfolding is_local local_grocer
  local_at g h =
      let (l, e) = find_passes (length (local_grocers j b)) (λ i. eqb (get_or (local_grocers j b) i 0) g) h in
      (l, eqb-true (get_or (local_grocers j b) (local_grocer j b g) 0) g e)

  -- and the grocer that stands at a number has that number.
  pub number_at : (i : ℕ) → i < length (local_grocers j b) → (is_local j b (get_or (local_grocers j b) i 0) ≡ true) × (local_grocer j b (get_or (local_grocers j b) i 0) ≡ i)
  unfolding is_local local_grocer
  number_at i l =
      let g = get_or (local_grocers j b) i 0 in (
        any_at (length (local_grocers j b)) (λ m. eqb (get_or (local_grocers j b) m 0) (get_or (local_grocers j b) i 0)) i l (eqb_same (get_or (local_grocers j b) i 0)),
        find_only (length (local_grocers j b)) (λ m. eqb (get_or (local_grocers j b) m 0) (get_or (local_grocers j b) i 0)) i l (eqb_same (get_or (local_grocers j b) i 0))
            (λ m lm e. once_local m i lm l (eqb-true (get_or (local_grocers j b) m 0) (get_or (local_grocers j b) i 0) e)),
      )
