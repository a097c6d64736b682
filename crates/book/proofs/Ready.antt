-- The refusals of the local book, and what an accepted call gives the functions below it. Assumes nothing.
use mathlib.Core.Path.{◌≡◌, refl, ap, ◌∙◌}
use mathlib.Core.Bool.{Bool, true, false, cond, ◌||◌, not}
use mathlib.Core.List.{List, [], ◌∷◌}
use Prim.Native.Nat.{ℕ, suc, ◌<◌, ◌≤◌}
use native.Mathlib.Omega.{arith}
use lib.Dec.{ltb}
use lib.ListN.{length}
use borrow.Author.Tests.{lt-ltb, le-ltb, ltb-true, ltb-false}
use Rattle.laws.specs.Checks.{first_met}
use Rattle.laws.proofs.Bools.{or_true, or_false, or_off}
use Rattle.laws.proofs.Checks.{none_of, unmet}
use Rattle.recount.specs.Recount.{counted_twice}
use Rattle.model.specs.Tables.{JobTables, counted_of, job_lengths, job_short, bags_short}
use Rattle.model.specs.Ranges.{job_in_range}
use Rattle.model.specs.Handed.{Standing}
use Rattle.model.specs.Local.{BookLengths, book_short, book_refusals, job_refusals}
use Rattle.book_sort.specs.Sort.{at, in_front}
use Rattle.book_places.specs.Lists.{local_list, held_of}
use Rattle.book_keys.specs.Keys.{TalliesIn, OwnersIn, PlacesIn}
use Rattle.model.proofs.Step.{JobIn, job_in_lem, in_handed, under_at}
use Rattle.model.proofs.Whole.{JobWhole, job_whole}
use Rattle.job_checks.proofs.Refusals.{not_off}
use Rattle.book_order.proofs.Packing.{at_front}
use Rattle.book_places.proofs.Modelled.{list_le, list_in}

-- ---- The first condition that is met

-- A test of the job's tables is met: it goes before 23.
job_first : (s i w : Bool) (x : ℕ) → (cond {A = ℕ} s 20 (cond i 21 (cond w 9 0)) ≡ 0 → ⊥) → cond {A = ℕ} s 20 (cond i 21 (cond w 9 0)) ≡ cond s 20 (cond i 21 (cond w 9 x))
job_first true i w x h = refl
job_first false true w x h = refl
job_first false false true x h = refl
job_first false false false x h = absurd (h refl)

-- None is met.
job_none : (s i w : Bool) (x : ℕ) → cond {A = ℕ} s 20 (cond i 21 (cond w 9 0)) ≡ 0 → x ≡ cond s 20 (cond i 21 (cond w 9 x))
job_none true i w x h = absurd (omega arith)
job_none false true w x h = absurd (omega arith)
job_none false false true x h = absurd (omega arith)
job_none false false false x h = refl

module _ (f : JobTables) (n : BookLengths) (b : ℕ) where
  pub met_20 : book_short f n ≡ true → 20 ≡ first_met (book_refusals f n b)
  unfolding first_met book_refusals
  met_20 h = rw (h, or_true (job_short f (job_lengths f) || bags_short f (job_lengths f)))

  module _ (h : book_short f n ≡ false) where
    -- What the job's tables meet,
    pub met_job : (first_met (job_refusals f) ≡ 0 → ⊥) → first_met (job_refusals f) ≡ first_met (book_refusals f n b)
    unfolding first_met book_refusals job_refusals
    met_job e = rw (h, or_false (job_short f (job_lengths f) || bags_short f (job_lengths f)))
        (job_first (job_short f (job_lengths f) || bags_short f (job_lengths f)) (not (job_in_range f)) (counted_twice (counted_of f)) (cond (not (ltb b f.boxes)) 23 0) e)

    -- or the box.
    met_box : first_met (job_refusals f) ≡ 0 → cond (not (ltb b f.boxes)) 23 0 ≡ first_met (book_refusals f n b)
    unfolding first_met book_refusals job_refusals
    met_box e = rw (h, or_false (job_short f (job_lengths f) || bags_short f (job_lengths f)))
        (job_none (job_short f (job_lengths f) || bags_short f (job_lengths f)) (not (job_in_range f)) (counted_twice (counted_of f)) (cond (not (ltb b f.boxes)) 23 0) e)

    pub met_23 : first_met (job_refusals f) ≡ 0 → f.boxes ≤ b → 23 ≡ first_met (book_refusals f n b)
    met_23 e l = rw (le-ltb b f.boxes l) at (met_box e)

    pub met_none : first_met (job_refusals f) ≡ 0 → b < f.boxes → 0 ≡ first_met (book_refusals f n b)
    met_none e l = rw (lt-ltb b f.boxes l) at (met_box e)

-- ---- Nothing is refused

-- Each table of the book is as long as M, N and T need.
pub record BookWhole (f : JobTables) (n : BookLengths) : Type 0 where
  pub local_offers : f.offers ≤ n.local_offers
  pub local_grocers : f.grocers ≤ n.local_grocers
  pub starts : f.offers < n.starts
  pub packed_grocers : f.tallies ≤ n.packed_grocers
  pub packed_counts : f.tallies ≤ n.packed_counts

book_whole : (f : JobTables) (n : BookLengths) → book_short f n ≡ false → BookWhole f n
unfolding book_short
book_whole f n h =
    let e = none_of (
    ltb n.local_offers f.offers
    ∷ ltb n.local_grocers f.grocers
    ∷ ltb n.starts (suc f.offers)
    ∷ ltb n.packed_grocers f.tallies
    ∷ ltb n.packed_counts f.tallies
    ∷ []) h in
    record {
      local_offers = ltb-false _ _ e.0;
      local_grocers = ltb-false _ _ e.1.0;
      starts = ltb-false _ _ e.1.1.0;
      packed_grocers = ltb-false _ _ e.1.1.1.0;
      packed_counts = ltb-false _ _ e.1.1.1.1.0;
    }

module _ (f : JobTables) (n : BookLengths) (b : ℕ) (h : first_met (book_refusals f n b) ≡ 0) where
  tests : (job_short f (job_lengths f) ≡ false) × (book_short f n ≡ false) × (job_in_range f ≡ true) × (ltb b f.boxes ≡ true)
  unfolding book_refusals
  tests =
      let u = unmet (book_refusals f n b) refl h in
      let e = or_off (job_short f (job_lengths f) || bags_short f (job_lengths f)) (book_short f n) u.0 in
      ((or_off (job_short f (job_lengths f)) (bags_short f (job_lengths f)) e.0).0, e.1, not_off (job_in_range f) u.1.0, not_off (ltb b f.boxes) u.1.1.1.0)

  pub in_range_lem : job_in_range f ≡ true
  in_range_lem = tests.2

  pub box_in : b < f.boxes
  box_in = ltb-true b f.boxes tests.3

  pub long : BookWhole f n
  long = book_whole f n tests.1

  pub whole : JobWhole f
  whole = job_whole f tests.0

  words : JobIn f
  words = job_in_lem f (in_handed f in_range_lem)

  pub offer_owners_lem : OwnersIn f.boxes f.offers f.offer_owner
  offer_owners_lem = record {
    k_in = words.boxes≤;
    n_in = words.offers≤;
    owners_long = whole.offer_owner;
    owner_in = λ o l. under_at f.boxes f.offers f.offer_owner o words.offer_owner l;
  }

  pub grocer_owners_lem : OwnersIn f.boxes f.grocers f.grocer_owner
  grocer_owners_lem = record {
    k_in = words.boxes≤;
    n_in = omega (arith, words.grocers≤);
    owners_long = whole.grocer_owner;
    owner_in = λ g l. under_at f.boxes f.grocers f.grocer_owner g words.grocer_owner l;
  }

  pub grocer_in : (t : ℕ) → t < f.tallies → at f.tally_grocer t < f.grocers
  grocer_in t l = under_at f.grocers f.tallies f.tally_grocer t words.tally_grocer l

  -- With the standing boxes.
  module _ (boxes : List ℕ) (s : Standing f boxes) where
    pub offer_tallies : TalliesIn boxes f.tally_offer f.tallies
    offer_tallies = record {
      tallies_in = words.tallies≤;
      boxes_long = s.long;
      items_long = whole.tally_offer;
      item_in = λ t l. omega (arith, under_at f.offers f.tallies f.tally_offer t words.tally_offer l, words.offers≤);
    }

    pub grocer_tallies : TalliesIn boxes f.tally_grocer f.tallies
    grocer_tallies = record {
      tallies_in = words.tallies≤;
      boxes_long = s.long;
      items_long = whole.tally_grocer;
      item_in = λ t l. omega (arith, under_at f.grocers f.tallies f.tally_grocer t words.tally_grocer l, words.grocers≤);
    }

-- A local list as it stands in front of its table is a list of places.
pub places_in : (k n : ℕ) (owner : ℕ → ℕ) (items boxes : List ℕ) (tallies b : ℕ) (list rest : List ℕ) (l : ℕ) → n ≤ 500 → n ≤ length rest → length list ≡ length rest →
    list ≡ in_front (local_list k n owner (held_of items boxes tallies b) b) rest → l ≡ length (local_list k n owner (held_of items boxes tallies b) b) →
    PlacesIn list l × (l ≤ n)
places_in k n owner items boxes tallies b list rest l hn hr kept e el =
    let le = list_le k n owner (held_of items boxes tallies b) b in (
      record {
        l_in = omega arith;
        list_long = omega arith;
        place_in = λ i h. omega (arith, ap (λ (s : List ℕ). at s i) e ∙ at_front (local_list k n owner (held_of items boxes tallies b) b) rest i (omega arith), list_in k n owner (held_of items boxes tallies b) b i (omega arith));
      },
      omega arith,
    )
