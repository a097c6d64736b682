-- The step on tables as lent, in a list that begins fresh: its answer, and the tables that it leaves. Assumes nothing.
use mathlib.Core.Path.{◌≡◌}
use mathlib.Core.Bool.{true, false, cond, ◌&&◌}
use mathlib.Core.List.{List, [], ◌∷◌}
use Prim.Native.Nat.{ℕ, suc, ◌+◌, ◌*◌, ◌/◌, ◌%◌, ◌<◌, ◌≤◌, suc-le-suc}
use native.Mathlib.Omega.{arith}
use native.Mathlib.Nat.{mul-le-mul}
use lib.Dec.{eqb, ltb, leb}
use lib.Seq.{get_or-take}
use lib.ListN.{get_or, take, length}
use lib.IntN.{ℤ, pos, nat_abs}
use borrow.Author.Tests.{le-ltb, ltb-true, ltb-false, le-leb, leb-true}
use Rattle.laws.specs.Tables.{overwrite, recell, word, cell}
use Rattle.laws.specs.Lists.{list_words}
use Rattle.laws.specs.Limits.{max_boxes, max_grocers, max_offers, max_tallies, max_lists, max_price, max_count}
use Rattle.laws.proofs.Entries.{entry_in, list_in, div_past, cell_past, few_of}
use Rattle.laws.specs.Checks.{any_of}
use Rattle.laws.proofs.Checks.{any_each, each_of, all_each}
use Rattle.laws.proofs.Bools.{split, and_true, and_l, and_r, cond_either}
use Rattle.laws.proofs.Below.{all_at, all_of_lem, all_cong, count_le}
use Rattle.laws.proofs.Tables.{get_d_overwrite, long_overwrite, word_in_lem, word_past, cell_in, cell_at}
use Rattle.model.specs.Tables.{JobTables, nobody, job_of, with_lists, evening_of, StateTables, store, marks_of, state_lengths, state_short, totals_short}
use Rattle.model.specs.Job.{Job}
use Rattle.model.specs.PackedTotals.{totals_length, total_rows, pack_totals, spread}
use Rattle.model.specs.Ranges.{up_to, under, around, sizes_in_range, job_words_in_range, job_in_range, state_in_range, totals_in_range}
use Rattle.model.specs.Handed.{handed_in_range}
use Rattle.model.specs.Steps.{places, Steps, at_place, State}
use Rattle.model.proofs.PackedTotals.{pack_over, pack_long, rows_each}
use Rattle.model.proofs.Range.{InRange}
use Rattle.model.proofs.Ranges.{Limits, Bounds, Within}
use Rattle.model.proofs.EveningJob.{at_sizes}

-- What the tests of a table say of its words.
pub up_at : (m n : ℕ) (l : List ℕ) (i : ℕ) → up_to m n l ≡ true → i < n → get_or l i 0 ≤ m
unfolding up_to
up_at m n l i h k = leb-true (get_or l i 0) m (all_at n (λ i. leb (get_or l i 0) m) i k h)

pub under_at : (m n : ℕ) (l : List ℕ) (i : ℕ) → under m n l ≡ true → i < n → get_or l i 0 < m
unfolding under
under_at m n l i h k = ltb-true (get_or l i 0) m (all_at n (λ i. ltb (get_or l i 0) m) i k h)

pub around_at : (m n : ℕ) (l : List ℤ) (i : ℕ) → around m n l ≡ true → i < n → nat_abs (get_or l i (pos 0)) ≤ m
unfolding around
around_at m n l i h k = leb-true (nat_abs (get_or l i (pos 0))) m (all_at n (λ i. leb (nat_abs (get_or l i (pos 0))) m) i k h)

pub up_over : (m n : ℕ) (f : ℕ → ℕ) (l : List ℕ) → ((i : ℕ) → f i ≤ m) → up_to m n (overwrite n f l) ≡ true
unfolding up_to
up_over m n f l h = all_of_lem n (λ i. leb (get_or (overwrite n f l) i 0) m) (λ i k. rw (get_d_overwrite n f l i 0 k) (le-leb (f i) m (h i)))

pub around-over : (m n : ℕ) (f : ℕ → ℤ) (l : List ℤ) → ((i : ℕ) → nat_abs (f i) ≤ m) → around m n (overwrite n f l) ≡ true
unfolding around
around-over m n f l h = all_of_lem n (λ i. leb (nat_abs (get_or (overwrite n f l) i (pos 0))) m) (λ i k. rw (get_d_overwrite n f l i (pos 0) k) (le-leb (nat_abs (f i)) m (h i)))

-- The tests of a part that is long enough are those of the whole.
pub up_take : (m n k : ℕ) (l : List ℕ) → n ≤ k → up_to m n (take k l) ≡ up_to m n l
unfolding up_to
up_take m n k l h = all_cong n (λ i. leb (get_or (take k l) i 0) m) (λ i. leb (get_or l i 0) m) (λ i q. rw (get_or-take k l i 0 (omega arith)))

pub under-take : (m n k : ℕ) (l : List ℕ) → n ≤ k → under m n (take k l) ≡ under m n l
unfolding under
under-take m n k l h = all_cong n (λ i. ltb (get_or (take k l) i 0) m) (λ i. ltb (get_or l i 0) m) (λ i q. rw (get_or-take k l i 0 (omega arith)))

pub around-take : (m n k : ℕ) (l : List ℤ) → n ≤ k → around m n (take k l) ≡ around m n l
unfolding around
around-take m n k l h = all_cong n (λ i. leb (nat_abs (get_or (take k l) i (pos 0))) m) (λ i. leb (nat_abs (get_or l i (pos 0))) m) (λ i q. rw (get_or-take k l i (pos 0) (omega arith)))

-- The tests of a table's words, one by one.
pub record JobIn (f : JobTables) : Type 0 where
  pub boxes≤ : f.boxes ≤ 16
  pub grocers≤ : f.grocers ≤ max_grocers
  pub offers≤ : f.offers ≤ max_offers
  pub tallies≤ : f.tallies ≤ max_tallies
  pub lists≤ : f.lists ≤ max_lists
  pub price : up_to max_price (list_words f.lists f.offers) f.price ≡ true
  pub offer_owner : under f.boxes f.offers f.offer_owner ≡ true
  pub grocer_owner : under f.boxes f.grocers f.grocer_owner ≡ true
  pub tally_grocer : under f.grocers f.tallies f.tally_grocer ≡ true
  pub tally_box : up_to nobody f.tallies f.tally_box ≡ true
  pub tally_offer : under f.offers f.tallies f.tally_offer ≡ true
  pub tally_count : around max_count f.tallies f.tally_count ≡ true

-- A job whose tables are in range is one that the theory takes.
module _ (f : JobTables) (ok : handed_in_range f ≡ true) where
  pub job_in_lem : JobIn f
  unfolding handed_in_range sizes_in_range
  job_in_lem =
      let s = each_of (
      leb f.lists max_lists
      ∷ (leb 1 f.boxes && leb f.boxes max_boxes)
      ∷ (leb 1 f.grocers && leb f.grocers max_grocers)
      ∷ (leb 1 f.offers && leb f.offers max_offers)
      ∷ leb f.tallies max_tallies
      ∷ []) (and_l (sizes_in_range f) _ ok) in
      let e = each_of (
      up_to max_price (list_words f.lists f.offers) f.price
      ∷ under f.boxes f.offers f.offer_owner
      ∷ under f.boxes f.grocers f.grocer_owner
      ∷ under f.grocers f.tallies f.tally_grocer
      ∷ up_to nobody f.tallies f.tally_box
      ∷ under f.offers f.tallies f.tally_offer
      ∷ around max_count f.tallies f.tally_count
      ∷ []) (and_r (sizes_in_range f) _ ok) in
      record {
        boxes≤ = leb-true f.boxes max_boxes (and_r (leb 1 f.boxes) _ s.1.0);
        grocers≤ = leb-true f.grocers max_grocers (and_r (leb 1 f.grocers) _ s.1.1.0);
        offers≤ = leb-true f.offers max_offers (and_r (leb 1 f.offers) _ s.1.1.1.0);
        tallies≤ = leb-true f.tallies max_tallies s.1.1.1.1.0;
        lists≤ = leb-true f.lists max_lists s.0;
        price = e.0;
        offer_owner = e.1.0;
        grocer_owner = e.1.1.0;
        tally_grocer = e.1.1.1.0;
        tally_box = e.1.1.1.1.0;
        tally_offer = e.1.1.1.1.1.0;
        tally_count = e.1.1.1.1.1.1.0;
      }

  pub range : InRange (job_of f)
  unfolding job_of
  range = record {
    owner< = λ o l. rw (word_in_lem f.offers f.offer_owner 0 o l) (under_at f.boxes f.offers f.offer_owner o job_in_lem.offer_owner l);
    grocerOwner< = λ g l. rw (word_in_lem f.grocers f.grocer_owner 0 g l) (under_at f.boxes f.grocers f.grocer_owner g job_in_lem.grocer_owner l);
    grocer< = λ t l. rw (word_in_lem f.tallies f.tally_grocer 0 t l) (under_at f.grocers f.tallies f.tally_grocer t job_in_lem.tally_grocer l);
    offer< = λ t l. rw (word_in_lem f.tallies f.tally_offer 0 t l) (under_at f.offers f.tallies f.tally_offer t job_in_lem.tally_offer l);
    no_price = λ o l. word_past f.offers f.price 0 o l;
    boxes≤ = job_in_lem.boxes≤;
  }

  pub limits : Limits (job_of f)
  unfolding job_of
  limits = record {
    grocers≤ = job_in_lem.grocers≤;
    offers≤ = job_in_lem.offers≤;
    tallies≤ = job_in_lem.tallies≤;
    ofGrocer≤ = λ g. omega (arith, count_le f.tallies (λ t. eqb (word f.tallies f.tally_grocer 0 t) g), job_in_lem.tallies≤);
    price≤ = λ o. split (ltb o f.offers)
        (λ e. rw (word_in_lem f.offers f.price 0 o (ltb-true o f.offers e)) (up_at max_price (list_words f.lists f.offers) f.price o job_in_lem.price
        (omega (arith, ltb-true o f.offers e))))
        (λ e. rw (word_past f.offers f.price 0 o (ltb-false o f.offers e)) (omega arith));
    count≤ = λ t. split (ltb t f.tallies)
        (λ e. rw (word_in_lem f.tallies f.tally_count (pos 0) t (ltb-true t f.tallies e)) (around_at max_count f.tallies f.tally_count t job_in_lem.tally_count (ltb-true t f.tallies e)))
        (λ e. rw (word_past f.tallies f.tally_count (pos 0) t (ltb-false t f.tallies e)) (omega arith));
  }

  -- The evening's job likewise.
  pub lists_range : (l : ℕ) → InRange (with_lists l f)
  unfolding with_lists spread job_of
  lists_range l = record {
    owner< = λ o h. range.owner< (o / suc l) (entry_in l f.offers o h);
    grocerOwner< = λ g h. range.grocerOwner< (g / suc l) (entry_in l f.grocers g h);
    grocer< = λ t h. cell_in ((job_of f).tally_grocer (t / suc l)) f.grocers (suc l) (t % suc l) (range.grocer< (t / suc l) (entry_in l f.tallies t h)) (list_in l t);
    offer< = λ t h. cell_in ((job_of f).tally_offer (t / suc l)) f.offers (suc l) (t % suc l) (range.offer< (t / suc l) (entry_in l f.tallies t h)) (list_in l t);
    no_price = λ o h. cell_past (suc l) f.offers f.price 0 (o % suc l) (o / suc l) (div_past l f.offers o h);
    boxes≤ = job_in_lem.boxes≤;
  }

  pub evening_range : InRange (evening_of f)
  evening_range = lists_range f.lists

  -- "90,600 at most": seven hundred and fifty-five entries of fifteen boxes and eight lists.
  pub evening_bounds : Bounds (evening_of f)
  unfolding with_lists spread job_of
  evening_bounds = record {
    words≤ = words_few;
    ofGrocer≤ = λ g. omega (arith, few_of f.lists (job_of f).tally_grocer g f.tallies, job_in_lem.tallies≤);
    price≤ = λ o. price_few o;
    count≤ = λ t. limits.count≤ (t / suc f.lists);
  }
    where
      words_few : 15 * (f.offers * suc f.lists + f.grocers * suc f.lists) ≤ 1_000_000
      words_few = omega (arith, mul-le-mul job_in_lem.offers≤ (suc-le-suc job_in_lem.lists≤), mul-le-mul job_in_lem.grocers≤ (suc-le-suc job_in_lem.lists≤))

      price_few : (o : ℕ) → cell (suc f.lists) f.offers f.price 0 (o % suc f.lists) (o / suc f.lists) ≤ max_price
      price_few o =
          split (ltb (o / suc f.lists) f.offers)
          (λ e. rw (cell_at (suc f.lists) f.offers f.price 0 (o % suc f.lists) (o / suc f.lists) (list_in f.lists o) (ltb-true _ _ e))
          (up_at max_price (list_words f.lists f.offers) f.price (o % suc f.lists * f.offers + o / suc f.lists) job_in_lem.price
          (omega (arith, cell_in (o % suc f.lists) (suc f.lists) f.offers (o / suc f.lists) (list_in f.lists o) (ltb-true _ _ e)))))
          (λ e. rw (cell_past (suc f.lists) f.offers f.price 0 (o % suc f.lists) (o / suc f.lists) (ltb-false _ _ e)) (omega arith))

-- The boxes as lent are below K.
pub boxes_under : (f : JobTables) → job_in_range f ≡ true → under f.boxes f.tallies f.tally_box ≡ true
unfolding job_in_range job_words_in_range
boxes_under f ok = let w = and_r (sizes_in_range f) (job_words_in_range f) ok in search (and_l, and_r) depth 12

-- Words below a bound are up to one above it.
up_under : (m b n : ℕ) (l : List ℕ) → b ≤ m → under b n l ≡ true → up_to m n l ≡ true
unfolding up_to
up_under m b n l h k = all_of_lem n (λ i. leb (get_or l i 0) m) (λ i q. le-leb (get_or l i 0) m (omega (arith, under_at b n l i k q)))

-- Tables in the ranges of 21 are in those of tables handed.
pub in_handed : (f : JobTables) → job_in_range f ≡ true → handed_in_range f ≡ true
unfolding job_in_range job_words_in_range handed_in_range sizes_in_range
in_handed f ok =
    let sizes = and_l (sizes_in_range f) (job_words_in_range f) ok in
    let e = each_of (
    up_to max_price (list_words f.lists f.offers) f.price
    ∷ under f.boxes f.offers f.offer_owner
    ∷ under f.boxes f.grocers f.grocer_owner
    ∷ under f.grocers f.tallies f.tally_grocer
    ∷ under f.boxes f.tallies f.tally_box
    ∷ under f.offers f.tallies f.tally_offer
    ∷ around max_count f.tallies f.tally_count
    ∷ []) (and_r (sizes_in_range f) (job_words_in_range f) ok) in
    let few : f.boxes ≤ nobody = leb-true f.boxes max_boxes (let w = sizes in search (and_l, and_r) depth 12) in
    and_true sizes (all_each (_ ∷ _ ∷ _ ∷ _ ∷ _ ∷ _ ∷ _ ∷ [])
    (e.0, (e.1.0, (e.1.1.0, (e.1.1.1.0, (up_under nobody f.boxes f.tallies f.tally_box few e.1.1.1.1.0, e.1.1.1.1.1))))))

-- Marks are 0 or 1.
pub marks_bits : (k : ℕ) (d : Steps) (marks : List ℕ) → up_to 1 (6 * k * k) (marks_of k d marks) ≡ true
unfolding marks_of
marks_bits k d marks =
    up_over 1 (places k) (λ i. cond (at_place k d i) 1 0) marks (λ i. cond_either (λ (n : ℕ). n ≤ 1) (at_place k d i) 1 0 (omega arith) (omega arith))

-- What a state within its ranges is written to is in range.
pub ok_store : (f : JobTables) (s : State) (t : StateTables) → Within s → state_in_range f (store (evening_of f) s t) ≡ true
unfolding state_in_range store recell
ok_store f s t w =
    at_sizes f.lists f (λ k m n. (
    up_to 9_999_999 (f.boxes * list_words f.lists f.offers) (overwrite (k * n) (λ i. s.known (i / n) (i % n)) t.known)
    && up_to 9_999_999 (f.boxes * list_words f.lists f.offers) (overwrite (k * n) (λ i. s.price_transit (i / n) (i % n)) t.price_transit)
    && around 1_000_000_000_000_000 (list_words f.lists f.grocers) (overwrite m s.statement t.statement)
    && up_to 1 (6 * f.boxes * f.boxes) (marks_of k s.done t.done)
    && up_to 1_000_000 1 (overwrite 1 (λ i. s.sent) t.sent)) ≡ true)
    (and_true (and_true (and_true (and_true
    (up_over 9_999_999 _ _ t.known (λ i. w.known≤ (i / list_words f.lists f.offers) (i % list_words f.lists f.offers)))
    (up_over 9_999_999 _ _ t.price_transit (λ i. w.priceTransit≤ (i / list_words f.lists f.offers) (i % list_words f.lists f.offers))))
    (around-over 1_000_000_000_000_000 _ s.statement t.statement w.statement≤))
    (marks_bits f.boxes s.done t.done))
    (up_over 1_000_000 1 (λ i. s.sent) t.sent (λ i. w.sent≤)))

-- The packed tables likewise, of any job.
pub totals_store : (j : Job) (s : State) (t : StateTables) → Within s → totals_in_range j (store j s t) ≡ true
unfolding totals_in_range store
totals_store j s t w =
    and_true (packed_range s.working t.working w.working≤) (packed_range s.total_transit t.total_transit w.totalTransit≤)
  where
    packed_range : (v : ℕ → ℕ → ℤ) (l : List ℤ) → ((b g : ℕ) → nat_abs (v b g) ≤ 1_000_000_000_000_000) → around 1_000_000_000_000_000 (totals_length j) (pack_totals j v l) ≡ true
    packed_range v l h =
        rw (pack_over j v l) (around-over 1_000_000_000_000_000 (totals_length j) (λ i. get_or (total_rows j j.boxes v) i (pos 0)) l
        (rows_each j v (λ (z : ℤ). nat_abs z ≤ 1_000_000_000_000_000) (omega arith) h))

-- The tables that hold a written state are whole.
pub whole-store : (f : JobTables) (s : State) (t : StateTables) → state_short f (state_lengths (store (evening_of f) s t)) ≡ false
unfolding state_short state_lengths store recell marks_of
whole-store f s t =
    at_sizes f.lists f (λ k m n. any_of (
    ltb (length (overwrite (k * n) (λ i. s.known (i / n) (i % n)) t.known)) (f.boxes * list_words f.lists f.offers)
    ∷ ltb (length (overwrite (k * n) (λ i. s.price_transit (i / n) (i % n)) t.price_transit)) (f.boxes * list_words f.lists f.offers)
    ∷ ltb (length (overwrite m s.statement t.statement)) (list_words f.lists f.grocers)
    ∷ ltb (length (overwrite (6 * k * k) (λ i. cond (at_place k s.done i) 1 0) t.done)) (6 * f.boxes * f.boxes)
    ∷ ltb (length (overwrite 1 (λ i. s.sent) t.sent)) 1
    ∷ []) ≡ false)
    (any_each (_ ∷ _ ∷ _ ∷ _ ∷ _ ∷ []) (
      le-ltb _ _ (long_overwrite _ _ t.known),
      (
        le-ltb _ _ (long_overwrite _ _ t.price_transit),
        (
          le-ltb _ _ (long_overwrite _ _ t.statement),
          (le-ltb _ _ (long_overwrite (6 * f.boxes * f.boxes) _ t.done), (le-ltb _ _ (long_overwrite 1 _ t.sent), tt)),
        ),
      ),
    ))

pub whole_totals : (j : Job) (s : State) (t : StateTables) → totals_short j (state_lengths (store j s t)) ≡ false
unfolding totals_short state_lengths store
whole_totals j s t = rw (le-ltb _ _ (pack_long j s.working t.working), le-ltb _ _ (pack_long j s.total_transit t.total_transit))
