-- Laws of the numbers that a box has: gathered, and by their classes sorted into its local list. Assumes nothing.
use mathlib.Core.Path.{◌≡◌, refl, sym, ap, ◌∙◌}
use mathlib.Core.Bool.{Bool, true, false, ◌||◌}
use mathlib.Core.List.{List}
use Prim.Native.Nat.{ℕ, suc, ◌+◌, ◌<◌, ◌≤◌}
use native.Mathlib.Omega.{arith}
use mir.Val.{bool_byte}
use lib.Dec.{eqb}
use lib.ListN.{length, set}
use lib.Seq.{get_or-set_same, get_or-set_other}
use borrow.Author.Tests.{eqb-true, eqb-false}
use Rattle.laws.specs.Below.{count}
use Rattle.laws.specs.Masks.{bit}
use Rattle.laws.specs.Tables.{tabulate, overwrite}
use Rattle.laws.proofs.Bools.{split, or_off}
use Rattle.laws.proofs.Below.{count_le, count_lt, count_next, count_where, counts_one, counts_none}
use Rattle.laws.proofs.Tables.{length_tabulate, get_d_tabulate, get_d_overwrite, overwrite_as, over-over}
use Rattle.book_sort.specs.Sort.{at, in_front, below, begin, sorted, SortIn}
use Rattle.book_keys.specs.Keys.{class_of, local_class, OwnersIn, OwnedIn}
use Rattle.book_places.specs.Spots.{class_by, list_by, total_by}
use Rattle.book_sort.proofs.Extra.{below_in}
use Rattle.book_sort.proofs.Sorting.{length-sorted, sorted_in}
use Rattle.book_sort.proofs.Placing.{begin_le}
use Rattle.book_keys.proofs.Keys.{class_own, class_held, class_none, class_le}
use Rattle.book_places.proofs.Gathered.{begin_gathered, sorted_gathered}
use Rattle.book_places.proofs.Listing.{sorted_list}

-- ---- Gathering

-- One number more is put behind those that pass.
pub stands_next : (p : ℕ → Bool) (x v : ℕ) (list : List ℕ) → count x p < length list → v ≡ x → ((y : ℕ) → y < x → p y ≡ true → at list (count y p) ≡ y) →
    (y : ℕ) → y < x + 1 → p y ≡ true → at (set list (count x p) v) (count y p) ≡ y
stands_next p x v list h ev stands y ly e =
    split (eqb y x)
    (λ q. rw (eqb-true y x q, ev) (get_or-set_same list (count x p) x 0 h))
    (λ q. let ne : y ≡ x → ⊥ = eqb-false y x q in
    get_or-set_other list (count x p) (count y p) v 0 (λ f. omega (arith, count_lt x p y (omega arith) e)) ∙ stands y (omega arith) e)

-- One more is counted where the number passes.
pub count_more : (p : ℕ → Bool) (x l : ℕ) (t : Bool) → l ≡ count x p → t ≡ p x → l + bool_byte t ≡ count (x + 1) p
count_more p x l true el e = omega (arith, el, count_next x p, counts_one (sym e))
count_more p x l false el e = omega (arith, el, count_next x p, counts_none (sym e))

-- ---- Classes

-- Of what box b has, the class is by the owner alone.
local_class_lem : (k b owner : ℕ) (held : Bool) → (eqb owner b || held) ≡ true → local_class b owner ≡ class_of k b owner held
unfolding local_class
local_class_lem k b owner held e =
    split (eqb owner b)
    (λ q. rw q (sym (class_own k b owner held q)))
    (λ q. let h : held ≡ true = rw q at e in rw q (sym (class_held k b owner held q h)))

-- What it does not have has the last class.
other_last : (k b owner : ℕ) (held : Bool) → (eqb owner b || held) ≡ false → k + 1 ≤ class_of k b owner held
other_last k b owner held e = let (q, r) = or_off (eqb owner b) held e in omega (arith, class_none k b owner held q r)

-- ---- The list of a box

module _ (k n b l : ℕ) (owners words list : List ℕ) (given : OwnersIn k n owners) (el : l ≡ count n (total_by owners words b))
    (stands : (x : ℕ) → x < n → total_by owners words b x ≡ true → at list (count x (total_by owners words b)) ≡ x) where
  -- Each number gathered is one that the box has.
  number_at : (i : ℕ) → i < l → (x : ℕ) × (x < n) × (total_by owners words b x ≡ true) × (at list i ≡ x)
  number_at i h =
      let (x, lx, e, f) = count_where n (total_by owners words b) i (omega (arith, el)) in
      (x, lx, e, ap (at list) (sym f) ∙ stands x lx e)

  pub few : l ≤ n
  few = omega (arith, el, count_le n (total_by owners words b))

  owner_at : (i : ℕ) → i < l → at owners (at list i) < k
  owner_at i h = let (x, lx, e, f) = number_at i h in rw f (given.owner_in x lx)

  pub list_owned : 500 ≤ length list → OwnedIn owners list l
  list_owned len = record {
    l_in = omega (arith, few, given.n_in);
    list_long = omega (arith, few, given.n_in);
    number_in_lem = λ i h. let (x, lx, e, f) = number_at i h in rw f (omega (arith, given.owners_long));
    owner_in = λ i h. omega (arith, owner_at i h, given.k_in);
  }

  module _ (keys : List ℕ) (ek : keys ≡ tabulate 500 (below l (λ i. local_class b (at owners (at list i))))) (m : ℕ) (em : m ≡ k + 1) where
    -- The key of a number is its class.
    key_class : (i : ℕ) → i < l → at keys i ≡ class_by k b owners words (at list i)
    unfolding class_by total_by
    key_class i h =
        let (x, lx, e, f) = number_at i h in
        ap (λ (s : List ℕ). at s i) ek
        ∙ get_d_tabulate 500 (below l (λ i. local_class b (at owners (at list i)))) i 0 (omega (arith, few, given.n_in))
        ∙ below_in l (λ i. local_class b (at owners (at list i))) i h
        ∙ local_class_lem k b (at owners (at list i)) (bit b (at words (at list i))) (rw f e)

    none_else : (y : ℕ) → y < n → total_by owners words b y ≡ false → m ≤ class_by k b owners words y
    unfolding class_by total_by
    none_else y h e = rw em (other_last k b (at owners y) (bit b (at words y)) e)

    key_le : (i : ℕ) → i < l → at keys i ≤ m
    unfolding class_by
    key_le i h = rw em (rw (key_class i h) (class_le k b (at owners (at list i)) (bit b (at words (at list i))) (owner_at i h)))

    pub keys_ready : (starts out : List ℕ) → m < length starts → n ≤ length out → SortIn keys l m starts out
    keys_ready starts out ls lo = record {
      keys_in = record {
        n_in = omega (arith, few, given.n_in);
        keys_long = omega (arith, few, given.n_in, ap length ek ∙ length_tabulate 500 (below l (λ i. local_class b (at owners (at list i)))));
        key_in = key_le;
      };
      m_in = omega (arith, em, given.k_in);
      starts_long = ls;
      out_long = omega (arith, few, begin_le (at keys) l m);
    }

    -- Each class begins where it does among all numbers.
    begin_is : (c : ℕ) → c ≤ m → begin (at keys) l c ≡ begin (class_by k b owners words) n c
    begin_is c h =
        ap (λ (z : ℕ). begin (at keys) z c) el
        ∙ begin_gathered n m (total_by owners words b) (at list) (class_by k b owners words) (at keys) stands (λ i z. key_class i (omega (arith, el))) none_else c h

    pub starts_are : (old : List ℕ) → overwrite (suc m) (begin (at keys) l) old ≡ overwrite (k + 2) (begin (class_by k b owners words) n) old
    starts_are old = overwrite_as (suc m) (k + 2) (begin (at keys) l) (begin (class_by k b owners words) n) old (omega (arith, em)) (λ i h. begin_is i (omega (arith, em)))

    -- All numbers by class are the local list.
    class_list : sorted (class_by k b owners words) n m ≡ list_by k n owners words b
    unfolding list_by class_by
    class_list = ap (sorted (class_by k b owners words) n) em ∙ sorted_list k b n (at owners) (class_by k b owners words) (λ x. bit b (at words x)) (λ x h. refl)

    pub list_length : begin (at keys) l m ≡ length (list_by k n owners words b)
    list_length = begin_is m (omega arith) ∙ sym (length-sorted (class_by k b owners words) n m) ∙ ap length class_list

    -- The places that the sort gives, and the numbers at them.
    module _ (out out' : List ℕ) (e : out' ≡ in_front (sorted (at keys) l m) out) where
      place_at : (i : ℕ) → i < begin (at keys) l m → at out' i ≡ at (sorted (at keys) l m) i
      unfolding in_front
      place_at i h =
          ap (λ (s : List ℕ). at s i) e
          ∙ get_d_overwrite (length (sorted (at keys) l m)) (at (sorted (at keys) l m)) out i 0 (omega (arith, length-sorted (at keys) l m))

      pub place_few : (i : ℕ) → i < begin (at keys) l m → at out' i < 500
      place_few i h = omega (arith, place_at i h, (sorted_in (at keys) l m i h).0, few, given.n_in)

      number_is : (i : ℕ) → i < length (list_by k n owners words b) → at list (at out' i) ≡ at (list_by k n owners words b) i
      number_is i h =
          ap (at list) (place_at i (omega (arith, list_length)))
          ∙ ap (λ (z : ℕ). at list (at (sorted (at keys) z m) i)) el
          ∙ sorted_gathered n m (total_by owners words b) (at list) (class_by k b owners words) (at keys) stands (λ i z. key_class i (omega (arith, el))) none_else i
          (omega (arith, list_length, begin_is m (omega arith)))
          ∙ ap (λ (s : List ℕ). at s i) class_list

      -- So the list is the local one.
      pub list_is : (all : ℕ) → all ≡ begin (at keys) l m → overwrite all (λ i. at list (at out' i)) out' ≡ in_front (list_by k n owners words b) out
      unfolding in_front
      list_is all f =
          let s = sorted (at keys) l m in
          ap (overwrite all (λ i. at list (at out' i)))
          (e ∙ overwrite_as (length s) all (at s) (at s) out (omega (arith, length-sorted (at keys) l m)) (λ i h. refl))
          ∙ over-over all (λ i. at list (at out' i)) (at s) out
          ∙ overwrite_as all (length (list_by k n owners words b)) (λ i. at list (at out' i)) (at (list_by k n owners words b)) out (omega (arith, list_length)) number_is
