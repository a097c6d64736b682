-- Parts of tables that are lent: long enough, they hold what the whole holds, and what is written into them is written into the whole. Assumes nothing.
use mathlib.Core.Path.{◌≡◌, sym, ◌∙◌}
use mathlib.Core.Bool.{false, cond}
use mathlib.Core.List.{List, [], ◌∷◌}
use Prim.Native.Nat.{ℕ, suc, ◌*◌, ◌/◌, ◌%◌, ◌≤◌}
use native.Mathlib.Omega.{arith}
use lib.ListN.{take, take-append-drop}
use lib.Seq.{get_or-take}
use lib.Dec.{ltb}
use lib.IntN.{pos}
use borrow.Author.Tests.{ltb-true, ltb-false}
use Rattle.laws.specs.Tables.{recell}
use Rattle.laws.specs.Lists.{list_words}
use Rattle.laws.proofs.Bools.{split, or_off}
use Rattle.laws.proofs.Checks.{none_of}
use Rattle.laws.proofs.Tables.{over-over, word_take, cell_take, overwrite_take, long_take}
use Rattle.recount.specs.Recount.{stands}
use Rattle.model.specs.Job.{Job}
use Rattle.model.specs.Requests.{lent_job, lent_state, returned}
use Rattle.model.specs.Tables.{JobTables, job_of, with_lists, evening_of, StateTables, steps_done, marks_of, view, store}
use Rattle.model.specs.Tables.{JobLengths, StateLengths, job_lengths, state_lengths, job_short, bags_short, state_short, totals_short, counted_of, nobody}
use Rattle.model.specs.PackedTotals.{totals_length, spread}
use Rattle.model.specs.Ranges.{sizes_in_range, job_words_in_range, job_in_range, state_in_range, totals_in_range}
use Rattle.model.specs.Steps.{Kind, kind_number, step_place, at_place, State}
use Rattle.model.proofs.PackedTotals.{unpack_take, pack_take, pack_pack}
use Rattle.model.proofs.Step.{up_take, under-take, around-take}
use Rattle.model.proofs.Core.{state_eq}
use Rattle.model.proofs.EveningJob.{at_sizes}
use Rattle.model.proofs.Tables.{place_in, kind_six}

-- What a length test of a lent part says.
le_of : (m n : ℕ) → ltb n m ≡ false → m ≤ n
le_of m n h = ltb-false n m h

-- Lent lengths that are long enough, one by one.
pub record JobLong (m o t l : ℕ) (n : JobLengths) : Type 0 where
  pub price : list_words l o ≤ n.price
  pub offer_owner : o ≤ n.offer_owner
  pub grocer_owner : m ≤ n.grocer_owner
  pub tally_grocer : t ≤ n.tally_grocer
  pub tally_box : t ≤ n.tally_box
  pub tally_offer : t ≤ n.tally_offer
  pub tally_count : t ≤ n.tally_count

pub job_long : (f : JobTables) (n : JobLengths) → job_short f n ≡ false → JobLong f.grocers f.offers f.tallies f.lists n
unfolding job_short
job_long f n h =
    let e = none_of (
    ltb n.price (list_words f.lists f.offers)
    ∷ ltb n.offer_owner f.offers
    ∷ ltb n.grocer_owner f.grocers
    ∷ ltb n.tally_grocer f.tallies
    ∷ ltb n.tally_box f.tallies
    ∷ ltb n.tally_offer f.tallies
    ∷ ltb n.tally_count f.tallies
    ∷ []) h in
    record {
      price = le_of _ _ e.0;
      offer_owner = le_of _ _ e.1.0;
      grocer_owner = le_of _ _ e.1.1.0;
      tally_grocer = le_of _ _ e.1.1.1.0;
      tally_box = le_of _ _ e.1.1.1.1.0;
      tally_offer = le_of _ _ e.1.1.1.1.1.0;
      tally_count = le_of _ _ e.1.1.1.1.1.1.0;
    }

pub record StateLong (k m o : ℕ) (n : StateLengths) : Type 0 where
  pub known : k * o ≤ n.known
  pub price_transit : k * o ≤ n.price_transit
  pub statement : m ≤ n.statement
  pub done : 6 * k * k ≤ n.done
  pub sent : 1 ≤ n.sent

pub state_long : (f : JobTables) (n : StateLengths) → state_short f n ≡ false → StateLong f.boxes (list_words f.lists f.grocers) (list_words f.lists f.offers) n
unfolding state_short
state_long f n h =
    let e = none_of (
    ltb n.known (f.boxes * list_words f.lists f.offers)
    ∷ ltb n.price_transit (f.boxes * list_words f.lists f.offers)
    ∷ ltb n.statement (list_words f.lists f.grocers)
    ∷ ltb n.done (6 * f.boxes * f.boxes)
    ∷ ltb n.sent 1
    ∷ []) h in
    record {
      known = le_of _ _ e.0;
      price_transit = le_of _ _ e.1.0;
      statement = le_of _ _ e.1.1.0;
      done = le_of _ _ e.1.1.1.0;
      sent = le_of _ _ e.1.1.1.1.0;
    }

-- The same as the evening's job says it.
pub evening_long : (f : JobTables) (n : StateLengths) → state_short f n ≡ false → StateLong (evening_of f).boxes (evening_of f).grocers (evening_of f).offers n
evening_long f n h = at_sizes f.lists f (λ k m o. StateLong k m o n) (state_long f n h)

-- The packed tables likewise.
pub record TotalsLong (length : ℕ) (n : StateLengths) : Type 0 where
  pub working : length ≤ n.working
  pub total_transit : length ≤ n.total_transit

pub totals_long : (j : Job) (n : StateLengths) → totals_short j n ≡ false → TotalsLong (totals_length j) n
unfolding totals_short
totals_long j n h =
    let e = or_off (ltb n.working (totals_length j)) (ltb n.total_transit (totals_length j)) h in
    record { working = le_of _ _ e.0; total_transit = le_of _ _ e.1 }

-- The job's lent tables are short just where the lent lengths are.
pub lent_job_short : (f : JobTables) (n : JobLengths) → job_short f (job_lengths f) ≡ false → job_short f (job_lengths (lent_job f n)) ≡ job_short f n
unfolding job_short job_lengths lent_job
lent_job_short f n h =
    let l = job_long f (job_lengths f) h in
    rw (
      long_take (list_words f.lists f.offers) n.price f.price l.price,
      long_take f.offers n.offer_owner f.offer_owner l.offer_owner,
      long_take f.grocers n.grocer_owner f.grocer_owner l.grocer_owner,
      long_take f.tallies n.tally_grocer f.tally_grocer l.tally_grocer,
      long_take f.tallies n.tally_box f.tally_box l.tally_box,
      long_take f.tallies n.tally_offer f.tally_offer l.tally_offer,
      long_take f.tallies n.tally_count f.tally_count l.tally_count,
    )

-- Bags and revisions likewise.
pub record BagsLong (t : ℕ) (n : JobLengths) : Type 0 where
  pub tally_bag : t ≤ n.tally_bag
  pub tally_revision : t ≤ n.tally_revision

pub bags_long : (f : JobTables) (n : JobLengths) → bags_short f n ≡ false → BagsLong f.tallies n
unfolding bags_short
bags_long f n h =
    let e = or_off (ltb n.tally_bag f.tallies) (ltb n.tally_revision f.tallies) h in
    record { tally_bag = le_of _ _ e.0; tally_revision = le_of _ _ e.1 }

pub lent_bags_short : (f : JobTables) (n : JobLengths) → bags_short f (job_lengths f) ≡ false → bags_short f (job_lengths (lent_job f n)) ≡ bags_short f n
unfolding bags_short job_lengths lent_job
lent_bags_short f n h =
    let l = bags_long f (job_lengths f) h in
    rw (
      long_take f.tallies n.tally_bag f.tally_bag l.tally_bag,
      long_take f.tallies n.tally_revision f.tally_revision l.tally_revision,
    )

-- The job that lent tables hold, where they are long enough.
module _ (f : JobTables) (n : JobLengths) (l : JobLong f.grocers f.offers f.tallies f.lists n) (b : BagsLong f.tallies n) where
  -- What the recount rule looks at is the same.
  pub lent_counted : counted_of (lent_job f n) ≡ counted_of f
  unfolding counted_of lent_job
  lent_counted = λ i. record {
    size = f.tallies;
    grocer = λ t. word_take f.tallies n.tally_grocer f.tally_grocer 0 t l.tally_grocer i;
    offer = λ t. word_take f.tallies n.tally_offer f.tally_offer 0 t l.tally_offer i;
    bag = λ t. word_take f.tallies n.tally_bag f.tally_bag 0 t b.tally_bag i;
    revision = λ t. word_take f.tallies n.tally_revision f.tally_revision 0 t b.tally_revision i;
  }

  pub lent_job_lem : job_of (lent_job f n) ≡ job_of f
  unfolding job_of lent_job
  lent_job_lem = λ i. record {
    boxes = f.boxes;
    grocers = f.grocers;
    offers = f.offers;
    tallies = f.tallies;
    price = λ o. word_take f.offers n.price f.price 0 o (omega (arith, l.price)) i;
    offer_owner = λ o. word_take f.offers n.offer_owner f.offer_owner 0 o l.offer_owner i;
    grocer_owner = λ g. word_take f.grocers n.grocer_owner f.grocer_owner 0 g l.grocer_owner i;
    tally_grocer = λ t. word_take f.tallies n.tally_grocer f.tally_grocer 0 t l.tally_grocer i;
    tally_box = λ t. cond (stands (lent_counted i) t) (word_take f.tallies n.tally_box f.tally_box 0 t l.tally_box i) nobody;
    tally_offer = λ t. word_take f.tallies n.tally_offer f.tally_offer 0 t l.tally_offer i;
    tally_count = λ t. word_take f.tallies n.tally_count f.tally_count (pos 0) t l.tally_count i;
  }

  -- and so for all price lists,
  lent_lists : (q : ℕ) → suc q * f.offers ≤ n.price → with_lists q (lent_job f n) ≡ with_lists q f
  unfolding with_lists lent_job
  lent_lists q h = λ i. spread (suc q) (λ o. cell_take (suc q) f.offers n.price f.price 0 (o % suc q) (o / suc q) h i) (lent_job_lem i)

  pub lent_evening : evening_of (lent_job f n) ≡ evening_of f
  unfolding lent_job
  lent_evening = lent_lists f.lists (omega (arith, l.price))

  pub lent_job_range : job_in_range (lent_job f n) ≡ job_in_range f
  unfolding job_in_range sizes_in_range job_words_in_range lent_job
  lent_job_range =
      rw (
        up_take 9_999_999 (list_words f.lists f.offers) n.price f.price l.price,
        under-take f.boxes f.offers n.offer_owner f.offer_owner l.offer_owner,
        under-take f.boxes f.grocers n.grocer_owner f.grocer_owner l.grocer_owner,
        under-take f.grocers f.tallies n.tally_grocer f.tally_grocer l.tally_grocer,
        under-take f.boxes f.tallies n.tally_box f.tally_box l.tally_box,
        under-take f.offers f.tallies n.tally_offer f.tally_offer l.tally_offer,
        around-take 99_999 f.tallies n.tally_count f.tally_count l.tally_count,
      )

-- The lent tables of a state are short just where the lent lengths are.
pub lent_state_short : (f : JobTables) (t : StateTables) (n : StateLengths) → state_short f (state_lengths t) ≡ false → state_short f (state_lengths (lent_state t n)) ≡ state_short f n
unfolding state_short state_lengths lent_state
lent_state_short f t n h =
    let l = state_long f (state_lengths t) h in
    rw (
      long_take (f.boxes * list_words f.lists f.offers) n.known t.known l.known,
      long_take (f.boxes * list_words f.lists f.offers) n.price_transit t.price_transit l.price_transit,
      long_take (list_words f.lists f.grocers) n.statement t.statement l.statement,
      long_take (6 * f.boxes * f.boxes) n.done t.done l.done,
      long_take 1 n.sent t.sent l.sent,
    )

-- The packed tables likewise.
pub lent_totals_short : (j : Job) (t : StateTables) (n : StateLengths) → totals_short j (state_lengths t) ≡ false → totals_short j (state_lengths (lent_state t n)) ≡ totals_short j n
unfolding totals_short state_lengths lent_state
lent_totals_short j t n h =
    let l = totals_long j (state_lengths t) h in
    rw (
      long_take (totals_length j) n.working t.working l.working,
      long_take (totals_length j) n.total_transit t.total_transit l.total_transit,
    )

-- Of the marks the first that K boxes need are read.
pub marks_take : (k n : ℕ) (marks : List ℕ) (q : Kind) (a b : ℕ) → 6 * k * k ≤ n → steps_done k (take n marks) q a b ≡ steps_done k marks q a b
unfolding steps_done
marks_take k n marks q a b l =
    split (ltb a k)
    (λ e. rw e (split (ltb b k)
    (λ f. rw (f, get_or-take n marks (step_place k (kind_number q) a b) 0 (omega (arith, place_in k (kind_number q) a b (kind_six q) (ltb-true a k e) (ltb-true b k f)))))
    (λ f. rw f)))
    (λ e. rw e)

-- The state that lent tables hold, where they are long enough.
module _ (j : Job) (t : StateTables) (n : StateLengths) (l : StateLong j.boxes j.grocers j.offers n) (m : TotalsLong (totals_length j) n) where
  pub lent_view : view j (lent_state t n) ≡ view j t
  unfolding view lent_state
  lent_view =
      state_eq (view j (lent_state t n)) (view j t)
      (λ b o. cell_take j.boxes j.offers n.known t.known 0 b o l.known)
      (λ b o. cell_take j.boxes j.offers n.price_transit t.price_transit 0 b o l.price_transit)
      (unpack_take j n.working t.working m.working)
      (unpack_take j n.total_transit t.total_transit m.total_transit)
      (λ g. word_take j.grocers n.statement t.statement (pos 0) g l.statement)
      (λ i k a b. marks_take j.boxes n.done t.done k a b l.done i)
      (word_take 1 n.sent t.sent 0 0 l.sent)

  -- A state that is written into the lent part is written into the whole.
  pub lent_store : (s : State) → returned t n (store j s (lent_state t n)) ≡ store j s t
  unfolding returned store lent_state recell marks_of
  lent_store s = λ i. record {
    known = overwrite_take (j.boxes * j.offers) n.known (λ k. s.known (k / j.offers) (k % j.offers)) t.known l.known i;
    price_transit = overwrite_take (j.boxes * j.offers) n.price_transit (λ k. s.price_transit (k / j.offers) (k % j.offers)) t.price_transit l.price_transit i;
    working = pack_take j s.working n.working t.working m.working i;
    total_transit = pack_take j s.total_transit n.total_transit t.total_transit m.total_transit i;
    statement = overwrite_take j.grocers n.statement s.statement t.statement l.statement i;
    done = overwrite_take (6 * j.boxes * j.boxes) n.done (λ k. cond (at_place j.boxes s.done k) 1 0) t.done l.done i;
    sent = overwrite_take 1 n.sent (λ k. s.sent) t.sent l.sent i;
  }

-- The ranges of lent tables are those of the whole.
pub lent_state_range : (f : JobTables) (n' : JobLengths) (t : StateTables) (n : StateLengths) → StateLong f.boxes (list_words f.lists f.grocers) (list_words f.lists f.offers) n →
    state_in_range (lent_job f n') (lent_state t n) ≡ state_in_range f t
unfolding state_in_range lent_job lent_state
lent_state_range f n' t n l =
    rw (
      up_take 9_999_999 (f.boxes * list_words f.lists f.offers) n.known t.known l.known,
      up_take 9_999_999 (f.boxes * list_words f.lists f.offers) n.price_transit t.price_transit l.price_transit,
      around-take 1_000_000_000_000_000 (list_words f.lists f.grocers) n.statement t.statement l.statement,
      up_take 1 (6 * f.boxes * f.boxes) n.done t.done l.done,
      up_take 1_000_000 1 n.sent t.sent l.sent,
    )

pub lent_totals_range : (j : Job) (t : StateTables) (n : StateLengths) → TotalsLong (totals_length j) n → totals_in_range j (lent_state t n) ≡ totals_in_range j t
unfolding totals_in_range lent_state
lent_totals_range j t n m =
    rw (
      around-take 1_000_000_000_000_000 (totals_length j) n.working t.working m.working,
      around-take 1_000_000_000_000_000 (totals_length j) n.total_transit t.total_transit m.total_transit,
    )

-- Tables that come back as they were lent are as they were.
pub lent_back : (t : StateTables) (n : StateLengths) → returned t n (lent_state t n) ≡ t
unfolding returned lent_state
lent_back t n = λ i. record {
  known = take-append-drop n.known t.known i;
  price_transit = take-append-drop n.price_transit t.price_transit i;
  working = take-append-drop n.working t.working i;
  total_transit = take-append-drop n.total_transit t.total_transit i;
  statement = take-append-drop n.statement t.statement i;
  done = take-append-drop n.done t.done i;
  sent = take-append-drop n.sent t.sent i;
}

-- A state written twice is the one written last.
pub store-store : (j : Job) (s r : State) (t : StateTables) → store j s (store j r t) ≡ store j s t
unfolding store recell marks_of
store-store j s r t = λ i. record {
  known = over-over (j.boxes * j.offers) (λ k. s.known (k / j.offers) (k % j.offers)) (λ k. r.known (k / j.offers) (k % j.offers)) t.known i;
  price_transit = over-over (j.boxes * j.offers) (λ k. s.price_transit (k / j.offers) (k % j.offers)) (λ k. r.price_transit (k / j.offers) (k % j.offers)) t.price_transit i;
  working = pack_pack j s.working r.working t.working i;
  total_transit = pack_pack j s.total_transit r.total_transit t.total_transit i;
  statement = over-over j.grocers s.statement r.statement t.statement i;
  done = over-over (6 * j.boxes * j.boxes) (λ k. cond (at_place j.boxes s.done k) 1 0) (λ k. cond (at_place j.boxes r.done k) 1 0) t.done i;
  sent = over-over 1 (λ k. s.sent) (λ k. r.sent) t.sent i;
}
