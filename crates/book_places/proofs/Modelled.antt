-- The lists of a box, from tables without bags, are the model's. Assumes nothing.
use mathlib.Core.Path.{◌≡◌, refl, sym, ap, ap₂, ◌∙◌, subst}
use mathlib.Core.Bool.{Bool, true, ◌&&◌, not}
use mathlib.Core.List.{List, [], ◌++◌}
use Prim.Native.Nat.{ℕ, ◌+◌, ◌<◌, ◌≤◌}
use native.Mathlib.Omega.{arith}
use lib.Dec.{eqb}
use lib.ListN.{length}
use borrow.Author.Tests.{eqb-true, eq-eqb, ne_eqb, lt-ltb}
use Rattle.laws.specs.Below.{any, find, ascending}
use Rattle.laws.proofs.Bools.{split, clash, and_one, and_true, eqb_same}
use Rattle.laws.proofs.Below.{any_at, find_only, find_passes, find_none, any_cong}
use Rattle.laws.proofs.Tables.{word_in_lem}
use Rattle.laws.proofs.Ascending.{ascending_cong}
use Rattle.laws.specs.Masks.{bit}
use Rattle.laws.specs.Tables.{tabulate}
use Rattle.model.specs.Job.{held_by, needs, shares, price_word, total_word}
use Rattle.model.specs.Tables.{JobTables, job_of}
use Rattle.model.specs.LocalLists.{local_offers, local_grocers, local_grocer}
use Rattle.book_sort.specs.Sort.{at, begin, sorted, place}
use Rattle.book_keys.specs.Keys.{class_of, number_in}
use Rattle.book_places.specs.Lists.{local_list, held_of}
use Rattle.book_places.specs.Spots.{list_by}
use Rattle.job_masks.specs.Masks.{holder_word}
use Rattle.model.proofs.Handed.{bare_stands}
use Rattle.book_sort.proofs.Extra.{chained_cong}
use Rattle.book_sort.proofs.Sorting.{length-sorted, sorted_at, sorted_in, sorted_once, place_in}
use Rattle.book_sort.proofs.Placing.{begin_le}
use Rattle.book_places.proofs.Listing.{sorted_list, word_held}

-- Owners and marks that agree below n make the same list.
pub list_cong : (k n b : ℕ) (owner owner' : ℕ → ℕ) (marked marked' : ℕ → Bool) → ((x : ℕ) → x < n → owner x ≡ owner' x) → ((x : ℕ) → x < n → marked x ≡ marked' x) →
    local_list k n owner marked b ≡ local_list k n owner' marked' b
unfolding local_list
list_cong k n b owner owner' marked marked' ho hm =
    ap₂ ◌++◌
    (ascending_cong n (λ x. eqb (owner x) b) (λ x. eqb (owner' x) b) (λ x l. rw (ho x l)))
    (chained_cong k (λ a. ascending n (λ x. eqb (owner x) a && (not (eqb (owner x) b) && marked x))) (λ a. ascending n (λ x. eqb (owner' x) a && (not (eqb (owner' x) b) && marked' x)))
    (λ a la. ascending_cong n (λ x. eqb (owner x) a && (not (eqb (owner x) b) && marked x)) (λ x. eqb (owner' x) a && (not (eqb (owner' x) b) && marked' x)) (λ x l. rw (ho x l, hm x l))))

-- The list by words of holders.
pub by_holders : (size k n tallies b : ℕ) (owners boxes items words : List ℕ) → k ≤ 16 → b < k → n ≤ size → words ≡ tabulate size (holder_word k tallies boxes items) →
    list_by k n owners words b ≡ local_list k n (at owners) (held_of items boxes tallies b) b
unfolding list_by
by_holders size k n tallies b owners boxes items words lk lb ln e =
    list_cong k n b (at owners) (at owners) (λ x. bit b (at words x)) (held_of items boxes tallies b) (λ x l. refl) (λ x l. word_held size k tallies b boxes items words x lk lb (omega arith) e)

-- ---- The words of a local list: few, below n, and no two alike.

module _ (k n : ℕ) (owner : ℕ → ℕ) (marked : ℕ → Bool) (b : ℕ) where
  abbrev class : ℕ → ℕ
  class x = class_of k b (owner x) (marked x)

  as_sorted : sorted class n (k + 1) ≡ local_list k n owner marked b
  as_sorted = sorted_list k b n owner class marked (λ x l. refl)

  pub length_is : length (local_list k n owner marked b) ≡ begin class n (k + 1)
  length_is = ap length (sym as_sorted) ∙ length-sorted class n (k + 1)

  pub list_le : length (local_list k n owner marked b) ≤ n
  list_le = omega (arith, length_is, begin_le class n (k + 1))

  pub list_in : (i : ℕ) → i < length (local_list k n owner marked b) → at (local_list k n owner marked b) i < n
  list_in i h = rw as_sorted at (sorted_in class n (k + 1) i (omega (arith, length_is))).0

  -- What is marked stands in it: its local number is one of the list's places.
  list_has : (x : ℕ) → x < n → owner x < k → marked x ≡ true → number_in (local_list k n owner marked b) (length (local_list k n owner marked b)) x < length (local_list k n owner marked b)
  unfolding number_in class_of
  list_has x hx ho hm =
      let small : class x < k + 1 = split (eqb (owner x) b) (λ q. rw q (omega arith)) (λ q. rw (q, hm) (omega arith)) in
      (find_passes (length (local_list k n owner marked b)) (λ i. eqb (at (local_list k n owner marked b) i) x)
      (any_at (length (local_list k n owner marked b)) (λ i. eqb (at (local_list k n owner marked b) i) x) (place class n x)
      (omega (arith, length_is, place_in class n (k + 1) x hx small))
      (eq-eqb (at (local_list k n owner marked b) (place class n x)) x (ap (λ (s : List ℕ). at s (place class n x)) (sym as_sorted) ∙ sorted_at class n (k + 1) x hx small)))).0

  pub list_once : (i m : ℕ) → i < length (local_list k n owner marked b) → m < length (local_list k n owner marked b) → at (local_list k n owner marked b) i ≡ at (local_list k n owner marked b) m → i ≡ m
  list_once i m hi hm e = sorted_once class n (k + 1) i m (omega (arith, length_is)) (omega (arith, length_is)) (rw as_sorted e)

-- ---- Local numbers in a list with no two words alike.

-- x has the local number c just where it stands at place c.
pub number_is : (list : List ℕ) (l x c : ℕ) → ((i m : ℕ) → i < l → m < l → at list i ≡ at list m → i ≡ m) → c < l → eqb (number_in list l x) c ≡ eqb x (at list c)
unfolding number_in
number_is list l x c once h =
    split (eqb x (at list c))
    (λ q. let e : x ≡ at list c = eqb-true x (at list c) q in
    rw q (eq-eqb (find l (λ i. eqb (at list i) x)) c
    (find_only l (λ i. eqb (at list i) x) c h (eq-eqb (at list c) x (sym e)) (λ i li f. once i c li h (eqb-true (at list i) x f ∙ e)))))
    (λ q. rw q (ne_eqb (find l (λ i. eqb (at list i) x)) c (λ e.
    split (any l (λ i. eqb (at list i) x))
    (λ f. let (m, g) = find_passes l (λ i. eqb (at list i) x) f in
    clash (eq-eqb x (at list c) (sym (rw e at (eqb-true (at list (find l (λ i. eqb (at list i) x))) x g)))) q)
    (λ f. let n : find l (λ i. eqb (at list i) x) ≡ l = find_none l (λ i. eqb (at list i) x) f in omega arith))))

module _ (f : JobTables) (bare : f.tally_bag ≡ []) (b : ℕ) (hb : b < f.boxes) where
  -- The job's own words.
  pub held_word : (t : ℕ) → t < f.tallies → held_by (job_of f) t b ≡ eqb (at f.tally_box t) b
  unfolding held_by job_of
  held_word t l = rw (bare_stands f bare t, word_in_lem f.tallies f.tally_box 0 t l, lt-ltb b f.boxes hb) (and_one (eqb (at f.tally_box t) b))

  needs_held : (o : ℕ) → needs (job_of f) o b ≡ held_of f.tally_offer f.tally_box f.tallies b o
  unfolding needs held_of job_of
  needs_held o =
      any_cong f.tallies (λ t. held_by (job_of f) t b && eqb ((job_of f).tally_offer t) o) (λ t. eqb (at f.tally_box t) b && eqb (at f.tally_offer t) o)
      (λ t l. ap₂ ◌&&◌ (held_word t l) (ap (λ (x : ℕ). eqb x o) (word_in_lem f.tallies f.tally_offer 0 t l)))

  pub shares_held : (g : ℕ) → shares (job_of f) g b ≡ held_of f.tally_grocer f.tally_box f.tallies b g
  unfolding shares held_of job_of
  shares_held g =
      any_cong f.tallies (λ t. held_by (job_of f) t b && eqb ((job_of f).tally_grocer t) g) (λ t. eqb (at f.tally_box t) b && eqb (at f.tally_grocer t) g)
      (λ t l. ap₂ ◌&&◌ (held_word t l) (ap (λ (x : ℕ). eqb x g) (word_in_lem f.tallies f.tally_grocer 0 t l)))

  -- The list of offers is the model's, and so is that of grocers.
  pub offers_are : local_list f.boxes f.offers (at f.offer_owner) (held_of f.tally_offer f.tally_box f.tallies b) b ≡ local_offers (job_of f) b
  unfolding local_offers local_list price_word job_of
  offers_are =
      list_cong f.boxes f.offers b (at f.offer_owner) (job_of f).offer_owner (held_of f.tally_offer f.tally_box f.tallies b) (λ o. needs (job_of f) o b)
      (λ o l. sym (word_in_lem f.offers f.offer_owner 0 o l)) (λ o l. sym (needs_held o))

  pub grocers_are : local_list f.boxes f.grocers (at f.grocer_owner) (held_of f.tally_grocer f.tally_box f.tallies b) b ≡ local_grocers (job_of f) b
  unfolding local_grocers local_list total_word job_of
  grocers_are =
      list_cong f.boxes f.grocers b (at f.grocer_owner) (job_of f).grocer_owner (held_of f.tally_grocer f.tally_box f.tallies b) (λ g. shares (job_of f) g b)
      (λ g l. sym (word_in_lem f.grocers f.grocer_owner 0 g l)) (λ g l. sym (shares_held g))

  -- In range the grocer of a tally that the box holds is a local one.
  pub has_place : ((x : ℕ) → x < f.grocers → at f.grocer_owner x < f.boxes) → ((t : ℕ) → t < f.tallies → at f.tally_grocer t < f.grocers) →
      (t : ℕ) → t < f.tallies → held_by (job_of f) t b ≡ true → local_grocer (job_of f) b ((job_of f).tally_grocer t) < length (local_grocers (job_of f) b)
  unfolding local_grocer number_in held_of job_of
  has_place owners items t ht h =
      let x = at f.tally_grocer t in
      rw (word_in_lem f.tallies f.tally_grocer 0 t ht)
      (subst (λ (s : List ℕ). number_in s (length s) (at f.tally_grocer t) < length s) grocers_are
      (list_has f.boxes f.grocers (at f.grocer_owner) (held_of f.tally_grocer f.tally_box f.tallies b) b x (items t ht) (owners x (items t ht))
      (any_at f.tallies (λ t. eqb (at f.tally_box t) b && eqb (at f.tally_grocer t) x) t ht (and_true (sym (held_word t ht) ∙ h) (eqb_same x)))))
