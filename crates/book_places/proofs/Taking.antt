-- Of the numbers of one owner those that a box has are one group of its list. Assumes nothing.
use mathlib.Core.Path.{◌≡◌, refl, sym, ap, ap₂, ◌∙◌}
use mathlib.Core.Bool.{Bool, true, false, ◌&&◌, ◌||◌}
use mathlib.Core.List.{List}
use Prim.Native.Nat.{ℕ, zero, suc, ◌+◌, ◌<◌, ◌≤◌}
use native.Mathlib.Omega.{arith}
use native.Mathlib.Numerals.{add-one}
use lib.Dec.{eqb}
use lib.ListN.{length, set}
use lib.Seq.{get_or-set_same, get_or-set_other}
use borrow.Author.Tests.{eqb-true, eqb-false, ne_eqb, eq-eqb}
use Rattle.laws.specs.Below.{naturals, only, count}
use Rattle.laws.specs.Masks.{bit}
use Rattle.laws.proofs.Bools.{split, clash, and_l, and_r}
use Rattle.laws.proofs.Below.{any_false, count_none, count_start, count_next, count_lt, counts_one, counts_none}
use Rattle.book_sort.specs.Sort.{at, key_count, begin, place}
use Rattle.book_keys.specs.Keys.{class_of}
use Rattle.book_places.specs.Spots.{class_by, total_by}
use Rattle.book_places.specs.Boxes.{takes, group_owner, group_size, ByOwner, TakeIn}
use Rattle.book_sort.proofs.Extra.{sum_zero}
use Rattle.book_sort.proofs.Sorting.{begin_suc, begin_mono, place_in, place_where}
use Rattle.book_sort.proofs.Placing.{keys_next, keys_none, begin_le}
use Rattle.book_places.proofs.Listing.{own_class, other_class}

-- One number more is put behind those taken.
pub taken_next : (p : ℕ → Bool) (word : ℕ → ℕ) (start x v : ℕ) (out : List ℕ) → v ≡ word x → (p x ≡ true → start + count x p < length out) →
    ((y : ℕ) → y < x → p y ≡ true → at out (start + count y p) ≡ word y) → (y : ℕ) → y < x + 1 → p y ≡ true → at (set out (start + count x p) v) (start + count y p) ≡ word y
taken_next p word start x v out ev room stands y ly e =
    split (eqb y x)
    (λ q. here y (eqb-true y x q) e)
    (λ q. let ne : y ≡ x → ⊥ = eqb-false y x q in
    get_or-set_other out (start + count x p) (start + count y p) v 0 (λ f. omega (arith, count_lt x p y (omega arith) e)) ∙ stands y (omega arith) e)
  where
    here : (y : ℕ) → y ≡ x → p y ≡ true → at (set out (start + count x p) v) (start + count y p) ≡ word y
    here y f t = rw f (get_or-set_same out (start + count x p) v 0 (room (rw f at t)) ∙ ev)

-- ---- As many are taken as the class has

module _ (n c d : ℕ) (own class : ℕ → ℕ) (has : ℕ → Bool) (held : ℕ → ℕ) (same : (x : ℕ) → x < n → eqb (class x) d ≡ (eqb (own x) c && has x))
    (stands : (x : ℕ) → x < n → eqb (own x) c ≡ true → held (key_count own x c) ≡ x) where
  counted : (x : ℕ) → x ≤ n → count (key_count own x c) (λ i. has (held i)) ≡ key_count class x d
  counted zero l = ap (λ (i : ℕ). count i (λ i. has (held i))) (keys_none own c) ∙ count_start (λ i. has (held i)) ∙ sym (keys_none class d)
  counted (suc x) l =
      let before = counted x (omega arith) in
      split (eqb (own x) c)
      (λ q. ap (λ (i : ℕ). count i (λ i. has (held i))) (more x q) ∙ count_next (key_count own x c) (λ i. has (held i))
      ∙ ap₂ (λ (s : ℕ) (t : Bool). s + only naturals t 1) before (ap has (stands x (omega arith) q) ∙ sym (same x (omega arith) ∙ ap (λ (t : Bool). t && has x) q))
      ∙ sym (last x))
      (λ q. ap (λ (i : ℕ). count i (λ i. has (held i))) (none x q) ∙ before ∙ omega (arith, last x, counts_none (same x (omega arith) ∙ ap (λ (t : Bool). t && has x) q)))
    where
      more : (x : ℕ) → eqb (own x) c ≡ true → key_count own (suc x) c ≡ key_count own x c + 1
      more x q = ap (λ (i : ℕ). key_count own i c) (sym (add-one x)) ∙ omega (arith, keys_next own x c, counts_one q)

      none : (x : ℕ) → eqb (own x) c ≡ false → key_count own (suc x) c ≡ key_count own x c
      none x q = ap (λ (i : ℕ). key_count own i c) (sym (add-one x)) ∙ omega (arith, keys_next own x c, counts_none q)

      last : (x : ℕ) → key_count class (suc x) d ≡ key_count class x d + only naturals (eqb (class x) d) 1
      last x = ap (λ (i : ℕ). key_count class i d) (sym (add-one x)) ∙ keys_next class x d

-- ---- Owners of groups

owner_first : (b : ℕ) → group_owner b 0 ≡ b
unfolding group_owner
owner_first b = refl

owner_next : (b e : ℕ) → group_owner b (suc e) ≡ e
unfolding group_owner
owner_next b e = rw (ne_eqb (suc e) 0 (λ z. omega arith)) (omega arith)

-- The owner of a group is one of the boxes.
pub owner_below : (k b d : ℕ) → b < k → d ≤ k → group_owner b d < k
owner_below k b zero lb ld = omega (arith, owner_first b)
owner_below k b (suc e) lb ld = omega (arith, owner_next b e)

absorb : (a t : Bool) → a ≡ (a && (a || t))
absorb true t = refl
absorb false t = refl

-- The class of group d, by the owner and whether the box has the number.
class_is : (k b d owner : ℕ) (held : Bool) → d ≤ k → (d ≡ b + 1 → ⊥) → eqb (class_of k b owner held) d ≡ (eqb owner (group_owner b d) && (eqb owner b || held))
class_is k b zero owner held ld ne = rw (owner_first b) (own_class k b owner held ∙ absorb (eqb owner b) held)
class_is k b (suc e) owner held ld ne =
    rw (owner_next b e) (other_class k b owner e held (omega arith)
    ∙ split (eqb owner e)
    (λ q. rw (q, other (eqb-true owner e q)))
    (λ q. rw q))
  where
    other : owner ≡ e → eqb owner b ≡ false
    other f = ne_eqb owner b (λ z. ne (omega arith))

-- No number has the class of the box among the others.
class_never : (k b owner : ℕ) (held : Bool) → b < k → eqb (class_of k b owner held) (b + 1) ≡ false
class_never k b owner held lb =
    ap (eqb (class_of k b owner held)) (add-one b) ∙ other_class k b owner b held lb ∙ split (eqb owner b) (λ q. rw q) (λ q. rw q)

-- ---- Groups

-- A number of group d among those that the group is taken from.
pub record TakenAt (k n : ℕ) (owners words starts list : List ℕ) (b d x : ℕ) : Type 0 where
  pub turn : ℕ
  pub turn_in : turn < group_size starts b d
  pub taken : takes owners words b list (at starts (group_owner b d)) turn ≡ true
  pub rank : count turn (takes owners words b list (at starts (group_owner b d))) ≡ key_count (class_by k b owners words) x d
  pub number : at list (at starts (group_owner b d) + turn) ≡ x

module _ (k n : ℕ) (owners words starts list : List ℕ) (h : ByOwner k n owners words starts list) (b d : ℕ) (lb : b < k) (ld : d ≤ k) where
  start_is : at starts (group_owner b d) ≡ begin (at owners) n (group_owner b d)
  start_is = h.starts_are (group_owner b d) (omega (arith, owner_below k b d lb ld))

  end_is : at starts (group_owner b d + 1) ≡ begin (at owners) n (group_owner b d) + key_count (at owners) n (group_owner b d)
  end_is =
      h.starts_are (group_owner b d + 1) (omega (arith, owner_below k b d lb ld)) ∙ ap (begin (at owners) n) (add-one (group_owner b d)) ∙ begin_suc (at owners) n (group_owner b d)

  pub part_ordered : at starts (group_owner b d) ≤ at starts (group_owner b d + 1)
  part_ordered = omega (arith, start_is, end_is)

  size_none : d ≡ b + 1 → group_size starts b d ≡ 0
  unfolding group_size
  size_none e = rw (eq-eqb d (b + 1) e)

  size_is : (d ≡ b + 1 → ⊥) → group_size starts b d ≡ key_count (at owners) n (group_owner b d)
  unfolding group_size
  size_is ne = rw (ne_eqb d (b + 1) ne) (omega (arith, start_is, end_is))

  pub part_within : at starts (group_owner b d) + group_size starts b d ≤ at starts (group_owner b d + 1)
  part_within =
      split (eqb d (b + 1))
      (λ q. omega (arith, size_none (eqb-true d (b + 1) q), part_ordered))
      (λ q. omega (arith, size_is (eqb-false d (b + 1) q), start_is, end_is))

  held_is : (x : ℕ) → x < n → eqb (at owners x) (group_owner b d) ≡ true → at list (at starts (group_owner b d) + key_count (at owners) x (group_owner b d)) ≡ x
  unfolding place
  held_is x l q =
      let e : at owners x ≡ group_owner b d = eqb-true (at owners x) (group_owner b d) q in
      ap (λ (z : ℕ). at list (z + key_count (at owners) x (group_owner b d))) start_is
      ∙ ap (λ (c : ℕ). at list (begin (at owners) n c + key_count (at owners) x c)) (sym e)
      ∙ h.list_is x l

  same_class : (d ≡ b + 1 → ⊥) → (x : ℕ) → x < n → eqb (class_by k b owners words x) d ≡ (eqb (at owners x) (group_owner b d) && total_by owners words b x)
  unfolding class_by total_by
  same_class ne x l = class_is k b d (at owners x) (bit b (at words x)) ld ne

  never : d ≡ b + 1 → (x : ℕ) → eqb (class_by k b owners words x) d ≡ false
  unfolding class_by
  never e x = ap (eqb (class_by k b owners words x)) e ∙ class_never k b (at owners x) (bit b (at words x)) lb

  counted_below : (d ≡ b + 1 → ⊥) → (x : ℕ) → x ≤ n →
      count (key_count (at owners) x (group_owner b d)) (takes owners words b list (at starts (group_owner b d))) ≡ key_count (class_by k b owners words) x d
  unfolding takes
  counted_below ne x l =
      counted n (group_owner b d) d (at owners) (class_by k b owners words) (total_by owners words b) (λ i. at list (at starts (group_owner b d) + i)) (same_class ne) held_is x l

  -- As many are taken as the class has,
  pub taken_count : count (group_size starts b d) (takes owners words b list (at starts (group_owner b d))) ≡ key_count (class_by k b owners words) n d
  unfolding key_count
  taken_count =
      split (eqb d (b + 1))
      (λ q. let e = eqb-true d (b + 1) q in
      ap (λ (s : ℕ). count s (takes owners words b list (at starts (group_owner b d)))) (size_none e) ∙ count_start _
      ∙ sym (count_none n (λ x. eqb (class_by k b owners words x) d) (any_false n (λ x. eqb (class_by k b owners words x) d) (λ x l. never e x))))
      (λ q. let ne = eqb-false d (b + 1) q in
      ap (λ (s : ℕ). count s (takes owners words b list (at starts (group_owner b d)))) (size_is ne) ∙ counted_below ne n (omega arith))

  key_lt : (x : ℕ) → x < n → eqb (at owners x) (group_owner b d) ≡ true → key_count (at owners) x (group_owner b d) < key_count (at owners) n (group_owner b d)
  unfolding key_count
  key_lt x l q = count_lt n (λ y. eqb (at owners y) (group_owner b d)) x l q

  taken_there : (x i : ℕ) → at list (at starts (group_owner b d) + i) ≡ x → total_by owners words b x ≡ true → takes owners words b list (at starts (group_owner b d)) i ≡ true
  unfolding takes
  taken_there x i f t = ap (total_by owners words b) f ∙ t

  -- and each number of the class is one of them.
  pub taken_at : (x : ℕ) → x < n → eqb (class_by k b owners words x) d ≡ true → TakenAt k n owners words starts list b d x
  taken_at x l e =
      split (eqb d (b + 1))
      (λ q. absurd (clash e (never (eqb-true d (b + 1) q) x)))
      (λ q. let ne = eqb-false d (b + 1) q in
      let both = sym (same_class ne x l) ∙ e in
      let own = and_l (eqb (at owners x) (group_owner b d)) (total_by owners words b x) both in
      let has = and_r (eqb (at owners x) (group_owner b d)) (total_by owners words b x) both in
      record {
        turn = key_count (at owners) x (group_owner b d);
        turn_in = rw (size_is ne) (key_lt x l own);
        taken = taken_there x (key_count (at owners) x (group_owner b d)) (held_is x l own) has;
        rank = counted_below ne x (omega arith);
        number = held_is x l own;
      })

  -- What stands in the part is a number with an owner and a word.
  number_below : (i : ℕ) → i < group_size starts b d → at list (at starts (group_owner b d) + i) < n
  number_below i l =
      let (x, lx, kx, e) = place_where (at owners) n k (at starts (group_owner b d) + i) (omega (
        arith,
        part_within,
        h.starts_are (group_owner b d + 1) (omega (arith, owner_below k b d lb ld)),
        begin_mono (at owners) n (group_owner b d + 1) k (omega (arith, owner_below k b d lb ld)),
      )) in
      rw (sym e) (rw (h.list_is x lx) lx)

  part_few : at starts (group_owner b d) + group_size starts b d ≤ n
  part_few =
      omega (arith, part_within, h.starts_are (group_owner b d + 1) (omega (arith, owner_below k b d lb ld)), begin_le (at owners) n (group_owner b d + 1))

  -- ---- One group more: its part is so many numbers from a place on

  module _ (from size : ℕ) (ef : from ≡ at starts (group_owner b d)) (es : size ≡ group_size starts b d) where
    pub part_in : TakeIn list from size (length owners) (length words)
    part_in = rw (ef, es) (record {
      few = omega (arith, part_few, h.owners_in.n_in);
      long = omega (arith, part_few, h.owners_in.n_in, h.list_long);
      list_few = omega (arith, h.list_long);
      owner_in = λ i l. omega (arith, number_below i l, h.owners_in.owners_long);
      word_in_lem = λ i l. omega (arith, number_below i l, h.words_long);
    })

    module _ (start next : ℕ) (en : next ≡ start + begin (class_by k b owners words) n d) where
      -- Where the next group begins.
      pub next_is : next + count size (takes owners words b list from) ≡ start + begin (class_by k b owners words) n (d + 1)
      next_is = rw (ef, es, add-one d) (omega (arith, en, taken_count, begin_suc (class_by k b owners words) n d))

      spot : (x r : ℕ) → class_by k b owners words x ≡ d → r ≡ key_count (class_by k b owners words) x d → start + place (class_by k b owners words) n x ≡ next + r
      unfolding place
      spot x r e f = rw e (omega (arith, en, f))

      -- Each number of the groups so far stands at its place.
      pub group_more : (out out' : List ℕ) → ((x : ℕ) → x < n → class_by k b owners words x < d → at out (start + place (class_by k b owners words) n x) ≡ x) →
          ((i : ℕ) → i < size → takes owners words b list from i ≡ true → at out' (next + count i (takes owners words b list from)) ≡ at list (from + i)) →
          ((i : ℕ) → i < next → at out' i ≡ at out i) →
          (x : ℕ) → x < n → class_by k b owners words x < d + 1 → at out' (start + place (class_by k b owners words) n x) ≡ x
      group_more out out' old put kept x lx lc =
          split (eqb (class_by k b owners words x) d)
          (λ q. let t = taken_at x lx q in
          ap (at out') (spot x _ (eqb-true (class_by k b owners words x) d q) t.rank) ∙ (rw (ef, es) at put) t.turn t.turn_in t.taken ∙ t.number)
          (λ q. let ne = eqb-false (class_by k b owners words x) d q in
          kept (start + place (class_by k b owners words) n x) (omega (arith, en, place_in (class_by k b owners words) n d x lx (omega arith))) ∙ old x lx (omega arith))

-- ---- Where the groups begin

pub begin_none : (key : ℕ → ℕ) (n : ℕ) → begin key n 0 ≡ 0
unfolding begin
begin_none key n = sum_zero (key_count key n)

-- The first start,
pub head_first : (f : ℕ → ℕ) (row v : ℕ) (heads : List ℕ) → row < length heads → v ≡ f 0 → (e : ℕ) → e < 1 → at (set heads row v) (row + e) ≡ f e
head_first f row v heads l ev e le =
    let z : e ≡ 0 = omega arith in
    ap (at (set heads row v)) (omega arith) ∙ get_or-set_same heads row v 0 l ∙ ev ∙ ap f (sym z)

-- and one more.
pub head_more : (f : ℕ → ℕ) (row d v : ℕ) (heads : List ℕ) → row + d + 1 < length heads → v ≡ f (d + 1) → ((e : ℕ) → e < d + 1 → at heads (row + e) ≡ f e) →
    (e : ℕ) → e < d + 1 + 1 → at (set heads (row + d + 1) v) (row + e) ≡ f e
head_more f row d v heads l ev h e le =
    split (eqb e (d + 1))
    (λ q. let z : e ≡ d + 1 = eqb-true e (d + 1) q in
    ap (at (set heads (row + d + 1) v)) (omega arith) ∙ get_or-set_same heads (row + d + 1) v 0 l ∙ ev ∙ ap f (sym z))
    (λ q. let ne = eqb-false e (d + 1) q in get_or-set_other heads (row + d + 1) (row + e) v 0 (λ z. ne (omega arith)) ∙ h e (omega arith))
