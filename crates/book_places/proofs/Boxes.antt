-- What is told of all boxes, one box more. Assumes nothing.
use mathlib.Core.Path.{◌≡◌, refl, sym, ap, ◌∙◌}
use mathlib.Core.Bool.{Bool, true, ◌&&◌, ◌||◌}
use mathlib.Core.List.{List}
use Prim.Native.Nat.{ℕ, suc, ◌+◌, ◌-◌, ◌*◌, ◌<◌, ◌≤◌}
use native.Mathlib.Omega.{arith}
use lib.Dec.{eqb, ltb}
use lib.ListN.{length, set, replicate}
use lib.Seq.{get_or-set_same, get_or-set_other}
use borrow.Author.Tests.{eqb-true, eqb-false, ne_eqb, lt-ltb, ltb-true, ltb-false, le-ltb}
use Rattle.laws.specs.Below.{naturals, sum, only, count}
use Rattle.laws.specs.Masks.{bit}
use Rattle.laws.specs.Tables.{overwrite}
use Rattle.laws.proofs.Bools.{split, and_one}
use Rattle.laws.proofs.Below.{count_le, counts_one}
use Rattle.laws.proofs.Sums.{sum_cong, sum_none, sum_swap, sum_pick, sum_start, sum_next_lem, sum_within, sum_max, sum_ones}
use Rattle.laws.proofs.Tables.{get_d_overwrite}
use Rattle.book_sort.specs.Sort.{at, key_count, begin, in_front, sorted, place}
use Rattle.book_keys.specs.Keys.{class_of, OwnersIn}
use Rattle.book_places.specs.Spots.{class_by, list_by, total_by, count_by, start_by, group_by}
use Rattle.book_places.specs.Boxes.{place_at, ByOwner, BoxTold, HeadsTold, NumbersIn, RowsIn, RowsTold, HalfPlaces, AllPlaces}
use Rattle.book_sort.proofs.Sorting.{begin_mono, length-sorted, sorted_at, place_where, place_in}
use Rattle.book_keys.proofs.Keys.{class_own, class_held, class_none}
use Rattle.book_places.proofs.Listing.{sorted_list}
use Rattle.book_places.proofs.Modelled.{length_is, list_once}
use Rattle.book_places.proofs.Joined.{at_front, list_below}

-- ---- A box has as many totals as its list has grocers

-- Of the numbers below n just one is x, where x is below n.
one_of : (n x : ℕ) → sum naturals n (λ i. only naturals (eqb x i) 1) ≡ only naturals (ltb x n) 1
unfolding only naturals
one_of n x =
    split (ltb x n)
    (λ q. rw q (sum_cong naturals n _ (λ i. only naturals (eqb x i && true) 1) (λ i _. ap (λ (t : Bool). only naturals t 1) (sym (and_one (eqb x i)))) ∙ sum_pick naturals n x true 1 (ltb-true x n q)))
    (λ q. let l = ltb-false x n q in rw q (sum_none naturals n _ (λ i h. ap (λ (t : Bool). only naturals t 1) (ne_eqb x i (λ e. omega arith)))))

-- What box b has a total of has one of its classes.
class_total : (k b owner : ℕ) (held : Bool) → owner < k → ltb (class_of k b owner held) (k + 1) ≡ (eqb owner b || held)
class_total k b owner held l =
    split (eqb owner b)
    (λ q. rw (class_own k b owner held q, q) (lt-ltb 0 (k + 1) (omega arith)))
    (λ q. split held
    (λ r. rw (class_held k b owner held q r, q, r) (lt-ltb (owner + 1) (k + 1) (omega arith)))
    (λ r. rw (class_none k b owner held q r, q, r) (le-ltb (k + 1) (k + 1) (omega arith))))

list_count : (k m : ℕ) (owners words : List ℕ) (b : ℕ) → OwnersIn k m owners → length (list_by k m owners words b) ≡ count_by m owners words b
unfolding list_by count_by total_by begin key_count count
list_count k m owners words b h =
    length_is k m (at owners) (λ x. bit b (at words x)) b
    ∙ sum_swap naturals (k + 1) m (λ c x. only naturals (eqb (class_of k b (at owners x) (bit b (at words x))) c) 1)
    ∙ sum_cong naturals m _ (λ x. only naturals (eqb (at owners x) b || bit b (at words x)) 1)
    (λ x l. one_of (k + 1) (class_of k b (at owners x) (bit b (at words x))) ∙ ap (λ (t : Bool). only naturals t 1) (class_total k b (at owners x) (bit b (at words x)) (h.owner_in x l)))

-- The next box begins behind it, and it is before every later one.
pub start_next : (k m : ℕ) (owners words : List ℕ) (b : ℕ) → OwnersIn k m owners → start_by m owners words (b + 1) ≡ start_by m owners words b + length (list_by k m owners words b)
unfolding start_by naturals
start_next k m owners words b h = sum_next_lem naturals b (count_by m owners words) ∙ ap (λ (x : ℕ). sum naturals b (count_by m owners words) + x) (sym (list_count k m owners words b h))

pub start_before : (k m : ℕ) (owners words : List ℕ) (c b : ℕ) → OwnersIn k m owners → c < b → start_by m owners words c + length (list_by k m owners words c) ≤ start_by m owners words b
unfolding start_by
start_before k m owners words c b h l = omega (arith, list_count k m owners words c h, sum_within c b (count_by m owners words) l)

-- ---- Places put by key, one more

pub keyed_more : (key : ℕ → ℕ) (from to i : ℕ) (w : List ℕ) (v : ℕ) → from ≤ i → i < to → key i < length w → v ≡ i →
    ((x y : ℕ) → from ≤ x → x < to → from ≤ y → y < to → key x ≡ key y → x ≡ y) →
    ((x : ℕ) → from ≤ x → x < i → at w (key x) ≡ x) → (x : ℕ) → from ≤ x → x < i + 1 → at (set w (key i) v) (key x) ≡ x
keyed_more key from to i w v fi ti lk e once h x fx lx =
    split (eqb x i)
    (λ q. rw (eqb-true x i q) (get_or-set_same w (key i) v 0 lk ∙ e))
    (λ q. let ne = eqb-false x i q in get_or-set_other w (key i) (key x) v 0 (λ z. ne (once x i fx (omega arith) fi ti z)) ∙ h x fx (omega arith))

-- ---- The list of a box, by places

module _ (k n : ℕ) (owners words : List ℕ) (b : ℕ) where
  list_sorted : sorted (class_by k b owners words) n (k + 1) ≡ list_by k n owners words b
  unfolding list_by class_by
  list_sorted = sorted_list k b n (at owners) (class_by k b owners words) (λ x. bit b (at words x)) (λ x l. refl)

  pub list_ends : begin (class_by k b owners words) n (k + 1) ≡ length (list_by k n owners words b)
  list_ends = sym (length-sorted (class_by k b owners words) n (k + 1)) ∙ ap length list_sorted

  -- A number of the box stands at its place.
  pub list_place : (x : ℕ) → x < n → class_by k b owners words x < k + 1 → at (list_by k n owners words b) (place (class_by k b owners words) n x) ≡ x
  list_place x l h = ap (λ (s : List ℕ). at s (place (class_by k b owners words) n x)) (sym list_sorted) ∙ sorted_at (class_by k b owners words) n (k + 1) x l h

  -- So numbers that stand at their places are the list.
  placed_list : (start : ℕ) (out : List ℕ) → ((x : ℕ) → x < n → class_by k b owners words x < k + 1 → at out (start + place (class_by k b owners words) n x) ≡ x) →
      (i : ℕ) → i < length (list_by k n owners words b) → at out (start + i) ≡ at (list_by k n owners words b) i
  placed_list start out h i l =
      let (x, lx, lc, e) = place_where (class_by k b owners words) n (k + 1) i (omega (arith, list_ends)) in
      ap (λ (j : ℕ). at out (start + j)) (sym e) ∙ h x lx lc ∙ sym (list_place x lx lc) ∙ ap (at (list_by k n owners words b)) e

  -- Its groups end before the last box does.
  pub groups_within : OwnersIn k n owners → b < k → (d : ℕ) → d ≤ k + 1 → start_by n owners words b + begin (class_by k b owners words) n d ≤ start_by n owners words k
  groups_within h lb d ld = omega (arith, start_before k n owners words b k h lb, list_ends, begin_mono (class_by k b owners words) n d (k + 1) ld)

-- One box more.
pub box_more : (k n : ℕ) (owners words : List ℕ) (b : ℕ) (heads out heads' out' : List ℕ) → OwnersIn k n owners → HeadsTold k n owners words b heads out →
    BoxTold k n owners words b heads' out' → ((i : ℕ) → i < b * 18 → at heads' i ≡ at heads i) → ((i : ℕ) → i < start_by n owners words b → at out' i ≡ at out i) →
    HeadsTold k n owners words (b + 1) heads' out'
box_more k n owners words b heads out heads' out' h told one kh ko = record {
  heads_are = λ c d lc ld. split (eqb c b)
      (λ q. rw (eqb-true c b q) (one.heads_are d ld))
      (λ q. let ne = eqb-false c b q in kh (c * 18 + d) (omega (arith, h.k_in)) ∙ told.heads_are c d (omega arith) ld);
  numbers_are = λ c i lc li. split (eqb c b)
      (λ q. here c i (eqb-true c b q) li)
      (λ q. let ne = eqb-false c b q in before c i (omega arith) li);
}
  where
    here : (c i : ℕ) → c ≡ b → i < length (list_by k n owners words c) → at out' (start_by n owners words c + i) ≡ at (list_by k n owners words c) i
    here c i e li = rw e (placed_list k n owners words b (start_by n owners words b) out' one.numbers_are i (rw e at li))

    before : (c i : ℕ) → c < b → i < length (list_by k n owners words c) → at out' (start_by n owners words c + i) ≡ at (list_by k n owners words c) i
    before c i lc li = ko (start_by n owners words c + i) (omega (arith, start_before k n owners words c b h lc)) ∙ told.numbers_are c i lc li

-- Starts of boxes are small numbers.
pub start_few : (n : ℕ) (owners words : List ℕ) (b : ℕ) → n ≤ 500 → b ≤ 16 → start_by n owners words b ≤ 8_000
unfolding start_by count_by
start_few n owners words b few lb = omega (arith, sum_max b 500 (count_by n owners words) (λ c l. omega (arith, count_le n (total_by owners words c))))

-- Nothing is told at first.
pub told_none : (k m : ℕ) (owners words heads out : List ℕ) → HeadsTold k m owners words 0 heads out
told_none k m owners words heads out = record { heads_are = λ c d l. absurd (omega arith); numbers_are = λ c i l. absurd (omega arith) }

pub start_none : (m : ℕ) (owners words : List ℕ) → 0 ≡ start_by m owners words 0
unfolding start_by naturals
start_none m owners words = sym (sum_start naturals (count_by m owners words))

-- ---- The numbers sorted by owner

pub by_owner_lem : (k n : ℕ) (owners words starts list : List ℕ) → OwnersIn k n owners → n ≤ length words → starts ≡ overwrite (suc k) (begin (at owners) n) (replicate 18 0) → length starts ≡ 18 →
    list ≡ in_front (sorted (at owners) n k) (replicate 500 0) → length list ≡ 500 → ByOwner k n owners words starts list
by_owner_lem k n owners words starts list h lw es ls el ll = record {
  owners_in = h;
  words_long = lw;
  starts_long = omega (arith, h.k_in);
  starts_are = λ c l. ap (λ (s : List ℕ). at s c) es ∙ get_d_overwrite (suc k) (begin (at owners) n) (replicate 18 0) c 0 (omega arith);
  list_long = ll;
  list_is = λ x l. ap (λ (s : List ℕ). at s (place (at owners) n x)) el
      ∙ at_front (sorted (at owners) n k) (replicate 500 0) (place (at owners) n x) (omega (arith, length-sorted (at owners) n k, place_in (at owners) n k x l (h.owner_in x l)))
      ∙ sorted_at (at owners) n k x l (h.owner_in x l);
}

-- All of them have an owner.
pub all_owned : (k n : ℕ) (owners : List ℕ) → OwnersIn k n owners → begin (at owners) n k ≡ n
unfolding begin key_count count
all_owned k n owners h =
    sum_swap naturals k n (λ c x. only naturals (eqb (at owners x) c) 1)
    ∙ sum_cong naturals n _ (λ x. 1) (λ x l. one_of k (at owners x) ∙ counts_one (lt-ltb (at owners x) k (h.owner_in x l)))
    ∙ sum_ones n

-- ---- The grocers of the boxes, by place

module _ (k m : ℕ) (owners words heads grocers : List ℕ) (h : OwnersIn k m owners) (told : HeadsTold k m owners words k heads grocers) where
  first_is : (c : ℕ) → c < k → at heads (c * 18) ≡ start_by m owners words c
  unfolding group_by begin naturals
  first_is c l = ap (at heads) (omega arith) ∙ told.heads_are c 0 l (omega arith) ∙ omega (arith, sum_start naturals (key_count (class_by k c owners words) m))

  last_is : (c : ℕ) → c < k → at heads (c * 18 + (k + 1)) ≡ start_by m owners words c + length (list_by k m owners words c)
  unfolding group_by
  last_is c l = told.heads_are c (k + 1) l (omega arith) ∙ ap (λ (x : ℕ). start_by m owners words c + x) (list_ends k m owners words c)

  number_at : (c i : ℕ) → c < k → at heads (c * 18) ≤ i → i < at heads (c * 18 + (k + 1)) →
      (i - start_by m owners words c < length (list_by k m owners words c)) × (at grocers i ≡ at (list_by k m owners words c) (i - start_by m owners words c))
  number_at c i l f t =
      let low : start_by m owners words c ≤ i = omega (arith, first_is c l) in
      let inside : i - start_by m owners words c < length (list_by k m owners words c) = omega (arith, last_is c l) in
      (inside, ap (at grocers) (omega arith) ∙ told.numbers_are c (i - start_by m owners words c) l inside)

  same : (c : ℕ) → c < k → (i x : ℕ) → at heads (c * 18) ≤ i → i < at heads (c * 18 + (k + 1)) → at heads (c * 18) ≤ x → x < at heads (c * 18 + (k + 1)) → at grocers i ≡ at grocers x → i ≡ x
  unfolding list_by
  same c l i x fi ti fx tx z =
      let (a, e) = number_at c i l fi ti in
      let (p, g) = number_at c x l fx tx in
      let one = list_once k m (at owners) (λ x. bit c (at words x)) c (i - start_by m owners words c) (x - start_by m owners words c) a p (sym e ∙ z ∙ g) in
      omega (arith, one, first_is c l)

  pub told_rows : m ≤ 255 → k * 18 ≤ length heads → start_by m owners words k ≤ length grocers → RowsIn k heads grocers
  told_rows few lh lg = record {
    k_in = h.k_in;
    heads_long = lh;
    numbers_in = λ c l. record {
      ordered = omega (arith, first_is c l, last_is c l);
      few = omega (arith, last_is c l, start_before k m owners words c k h l, start_few m owners words k h.n_in h.k_in);
      long = omega (arith, last_is c l, start_before k m owners words c k h l);
      word_in_lem = λ i f t. let (a, e) = number_at c i l f t in omega (arith, e, list_below k m owners words c (i - start_by m owners words c) a);
      once = same c l;
    };
  }

  -- Both halves are all.
  pub all_told : (half n : ℕ) (boxes items old mid places : List ℕ) → HalfPlaces k 0 half n boxes items heads grocers old mid → HalfPlaces k half k n boxes items heads grocers mid places →
      AllPlaces k m n owners words boxes items heads grocers places
  all_told half n boxes items old mid places one two = record {
    heads_are = told.heads_are;
    grocers_are = told.numbers_are;
    places_are = λ t i lt lb li ei.
        let from : at heads (at boxes t * 18) ≤ start_by m owners words (at boxes t) + i = omega (arith, first_is (at boxes t) lb) in
        let to : start_by m owners words (at boxes t) + i < at heads (at boxes t * 18 + (k + 1)) = omega (arith, last_is (at boxes t) lb) in
        let is = told.numbers_are (at boxes t) i lb li ∙ ei in
        split (ltb (at boxes t) half)
        (λ q. two.before_kept t lt (ltb-true (at boxes t) half q) ∙ one.places_are t (start_by m owners words (at boxes t) + i) lt (omega arith) (ltb-true (at boxes t) half q) from to is)
        (λ q. two.places_are t (start_by m owners words (at boxes t) + i) lt (ltb-false (at boxes t) half q) lb from to is);
    others_none = λ t lt lb. two.behind_none t lt lb;
  }

-- ---- Places by box and grocer, one box more

-- The same of places known by equations.
pub numbers_as : (list : List ℕ) {from to from' to' : ℕ} → from' ≡ from → to' ≡ to → NumbersIn list from to → NumbersIn list from' to'
numbers_as list p q h = rw (p, q) h

pub rows_none : (k first : ℕ) (heads grocers table : List ℕ) → RowsTold k first first heads grocers table
rows_none k first heads grocers table = record { table_is = λ c i f l. absurd (omega arith) }

pub rows_more : (k first b : ℕ) (heads grocers table table' : List ℕ) → first ≤ b →
    ((c : ℕ) → c < b → (i : ℕ) → at heads (c * 18) ≤ i → i < at heads (c * 18 + (k + 1)) → at grocers i < 255) → RowsTold k first b heads grocers table →
    (from to row : ℕ) → from ≡ at heads (b * 18) → to ≡ at heads (b * 18 + (k + 1)) → row ≡ (b - first) * 255 →
    ((i : ℕ) → from ≤ i → i < to → at table' (row + at grocers i) ≡ i) → ((x : ℕ) → x < row → at table' x ≡ at table x) → RowsTold k first (b + 1) heads grocers table'
rows_more k first b heads grocers table table' lf small told from to row ef et er put kept = record {
  table_is = λ c i fc lc fi ti. split (eqb c b)
      (λ q. here c i (eqb-true c b q) fi ti)
      (λ q. let ne = eqb-false c b q in
      kept ((c - first) * 255 + at grocers i) (omega (arith, er, small c (omega arith) i fi ti)) ∙ told.table_is c i fc (omega arith) fi ti);
}
  where
    here : (c i : ℕ) → c ≡ b → at heads (c * 18) ≤ i → i < at heads (c * 18 + (k + 1)) → at table' ((c - first) * 255 + at grocers i) ≡ i
    here c i e fi ti = rw e (rw er at (put i (rw ef (rw e at fi)) (rw et (rw e at ti))))

-- ---- The places of the tallies

-- What is looked up, by where the box is.
pub place_before_lem : (first last : ℕ) (table : List ℕ) (b g old : ℕ) → b < first → place_at first last table b g old ≡ old
unfolding place_at
place_before_lem first last table b g old l = rw (lt-ltb b first l)

pub place_in_half : (first last : ℕ) (table : List ℕ) (b g old : ℕ) → first ≤ b → b < last → place_at first last table b g old ≡ at table ((b - first) * 255 + g)
unfolding place_at
place_in_half first last table b g old f l = rw (le-ltb b first f, lt-ltb b last l)

pub place_behind : (first last : ℕ) (table : List ℕ) (b g old : ℕ) → first ≤ b → last ≤ b → place_at first last table b g old ≡ 0
unfolding place_at
place_behind first last table b g old f l = rw (le-ltb b first f, le-ltb b last l)

-- The places by box and grocer are told, and those of the tallies looked up.
pub half_told : (k first last n : ℕ) (boxes items heads grocers table old places : List ℕ) → first ≤ last → RowsTold k first last heads grocers table →
    places ≡ overwrite n (λ t. place_at first last table (at boxes t) (at items t) (at old t)) old → HalfPlaces k first last n boxes items heads grocers old places
half_told k first last n boxes items heads grocers table old places lf told e = record {
  places_are = λ t i lt lb ll fi ti ei. word t lt ∙ place_in_half first last table (at boxes t) (at items t) (at old t) lb ll
      ∙ ap (λ (g : ℕ). at table ((at boxes t - first) * 255 + g)) (sym ei) ∙ told.table_is (at boxes t) i lb ll fi ti;
  before_kept = λ t lt lb. word t lt ∙ place_before_lem first last table (at boxes t) (at items t) (at old t) lb;
  behind_none = λ t lt lb. word t lt ∙ place_behind first last table (at boxes t) (at items t) (at old t) (omega arith) lb;
}
  where
    word : (t : ℕ) → t < n → at places t ≡ place_at first last table (at boxes t) (at items t) (at old t)
    word t lt = ap (λ (s : List ℕ). at s t) e ∙ get_d_overwrite n (λ t. place_at first last table (at boxes t) (at items t) (at old t)) old t 0 lt
