-- An accepted file gives a job in range that holds what it says, and demand 3 holds. Assumes nothing.
use mathlib.Core.Path.{◌≡◌, refl, ap, ◌∙◌, sym}
use mathlib.Core.List.{List}
use mathlib.Core.Bool.{true, false}
use Prim.Native.Nat.{ℕ, zero, suc, ◌+◌, ◌*◌, ◌/◌, ◌%◌, ◌<◌, ◌≤◌}
use native.Mathlib.Omega.{arith}
use native.Mathlib.Nat.{mul_comm, div-lt_iff_lt-mul, mod-lt, div-add-mod'}
use native.Mathlib.Decide.{ℕ_discrete, dec_lt}
use lib.Dec.{ltb, leb}
use lib.ListN.{length, get_or}
use lib.IntN.{ℤ, pos, nat_abs}
use borrow.Author.Tests.{lt-ltb, le-leb, le-ltb}
use Rattle.laws.specs.Below.{integers, sum}
use Rattle.laws.proofs.Bools.{and_true, clash}
use Rattle.laws.proofs.Sums.{sum_cong}
use Rattle.laws.proofs.Below.{all_of_lem}
use Rattle.laws.proofs.Tables.{word_in_lem, long_overwrite, get_d_overwrite}
use Rattle.recount.specs.Recount.{stands, counted_twice, Reordered}
use Rattle.model.specs.Job.{plain_sum}
use Rattle.model.specs.Tables.{counted_of, job_of, evening_of, job_lengths, job_short, bags_short, JobTables}
use Rattle.model.specs.Ranges.{up_to, under, around, sizes_in_range, job_words_in_range, job_in_range, Settles}
use Rattle.format.specs.Job.{FileJob, price_on, names, place_of, counted_tallies, offer_name}
use Rattle.format.specs.File.{decode}
use Rattle.format.specs.Refusals.{file_refusal}
use Rattle.format.specs.Tables.{FileTables, ReaderTables, ReadOutcome, Long, file_job_of, read_refusal, read_result, store_read}
use Rattle.printing.specs.Printed.{job_read}
use Rattle.printing.specs.Accepted.{owed_by_file, Holds, Accepted}
use Rattle.format.specs.Same.{SameWords}
use Rattle.format.specs.Codes.{same_offer}
use Rattle.recount.proofs.Recount.{recount_laws, same_order}
use Rattle.model.proofs.Standing.{standing_count}
use Rattle.model.proofs.Demand3.{demand3, demand3_run}
use Rattle.format.proofs.Range.{InRange, fine, only_place}
use Rattle.format.proofs.Accept.{job_accepted, accepted_range}
use Rattle.format.proofs.Tables.{read_file, long_tables, read_long, read_range, read_place, read_job, read_accepted}
use Rattle.format.proofs.Codes.{same_turn}
use Rattle.printing.proofs.OneJob.{price_held}
use Rattle.printing.proofs.Owed.{owed_at}

up_all : (m n : ℕ) (l : List ℕ) → ((i : ℕ) → i < n → get_or l i 0 ≤ m) → up_to m n l ≡ true
unfolding up_to
up_all m n l h = all_of_lem n (λ i. leb (get_or l i 0) m) (λ i k. le-leb (get_or l i 0) m (h i k))

under_all : (m n : ℕ) (l : List ℕ) → ((i : ℕ) → i < n → get_or l i 0 < m) → under m n l ≡ true
unfolding under
under_all m n l h = all_of_lem n (λ i. ltb (get_or l i 0) m) (λ i k. lt-ltb (get_or l i 0) m (h i k))

around_all : (m n : ℕ) (l : List ℤ) → ((i : ℕ) → i < n → nat_abs (get_or l i (pos 0)) ≤ m) → around m n l ≡ true
unfolding around
around_all m n l h = all_of_lem n (λ i. leb (nat_abs (get_or l i (pos 0))) m) (λ i k. le-leb (nat_abs (get_or l i (pos 0))) m (h i k))

-- Tables that hold what a file without a refusal says.
module _ (file : List ℕ) (ok : file_refusal file ≡ 0) (f : JobTables) (h : Holds (decode file) f) where
  abbrev job : FileJob
  job = decode file

  in_file : InRange job
  in_file = accepted_range file ok

  offer_in : (o : ℕ) → o < f.offers → o < job.head.offers
  offer_in o l = omega (arith, h.offers)

  grocer_in : (g : ℕ) → g < f.grocers → g < job.head.grocers
  grocer_in g l = omega (arith, h.grocers)

  tally_in : (t : ℕ) → t < f.tallies → t < job.head.tallies
  tally_in t l = omega (arith, h.tallies)

  tally_of_lem : (t : ℕ) → t < job.head.tallies → t < f.tallies
  tally_of_lem t l = omega (arith, h.tallies)

  -- The words of the tables are the file's.
  pub price_at_lem : (q o : ℕ) → q < suc job.head.lists → o < f.offers → get_or f.price (q * f.offers + o) 0 ≡ price_on job.offer job.list_price q o
  price_at_lem q o m l = price_held job f h q o m (offer_in o l)

  -- Those of every list are in range, one after the other.
  price_most : (q o : ℕ) → q < suc job.head.lists → o < job.head.offers → price_on job.offer job.list_price q o ≤ 9_999_999
  unfolding price_on
  price_most zero o m l = (in_file.offer o l).price
  price_most (suc q) o m l = in_file.list_price q o (omega arith) l

  price_few : (i : ℕ) → i < f.offers * suc f.lists → get_or f.price i 0 ≤ 9_999_999
  price_few i l =
      let some : 1 ≤ f.offers = omega (arith, h.offers, in_file.sizes.offers_some) in
      let m : i / f.offers < suc f.lists = (div-lt_iff_lt-mul some).1 (omega (arith, mul_comm f.offers (suc f.lists))) in
      let o : i % f.offers < f.offers = mod-lt i some in
      let v : i / f.offers < suc job.head.lists = omega (arith, m, h.lists) in
      rw (
        ← (div-add-mod' i f.offers),
        price_at_lem (i / f.offers) (i % f.offers) v o,
      ) (price_most (i / f.offers) (i % f.offers) v (offer_in (i % f.offers) o))

  pub owner_at : (o : ℕ) → o < f.offers → get_or f.offer_owner o 0 ≡ (job.offer o).owner
  unfolding job_of
  owner_at o l = sym (word_in_lem f.offers f.offer_owner 0 o l) ∙ h.offer_owner o (offer_in o l)

  pub grocer_owner_at : (g : ℕ) → g < f.grocers → get_or f.grocer_owner g 0 ≡ job.grocer_owner g
  unfolding job_of
  grocer_owner_at g l = sym (word_in_lem f.grocers f.grocer_owner 0 g l) ∙ h.grocer_owner g (grocer_in g l)

  pub grocer_at : (t : ℕ) → t < f.tallies → get_or f.tally_grocer t 0 ≡ (job.tally t).grocer
  unfolding job_of
  grocer_at t l = sym (word_in_lem f.tallies f.tally_grocer 0 t l) ∙ h.tally_grocer t (tally_in t l)

  pub box_at : (t : ℕ) → t < f.tallies → get_or f.tally_box t 0 ≡ (job.tally t).box
  box_at t l = h.tally_box t (tally_in t l)

  pub place_at : (t : ℕ) → t < f.tallies → get_or f.tally_offer t 0 ≡ place_of job t
  unfolding job_of
  place_at t l = sym (word_in_lem f.tallies f.tally_offer 0 t l) ∙ h.tally_offer t (tally_in t l)

  pub count_at : (t : ℕ) → t < f.tallies → get_or f.tally_count t (pos 0) ≡ (job.tally t).count
  unfolding job_of
  count_at t l = sym (word_in_lem f.tallies f.tally_count (pos 0) t l) ∙ h.tally_count t (tally_in t l)

  sizes_ok : sizes_in_range f ≡ true
  unfolding sizes_in_range
  sizes_ok =
      let s = in_file.sizes in
      and_true (and_true (and_true (and_true (le-leb f.lists 7 (omega (arith, h.lists, s.lists_most)))
      (and_true (le-leb 1 f.boxes (omega (arith, h.boxes, s.boxes_some))) (le-leb f.boxes 16 (omega (arith, h.boxes, s.boxes_most)))))
      (and_true (le-leb 1 f.grocers (omega (arith, h.grocers, s.grocers_some))) (le-leb f.grocers 255 (omega (arith, h.grocers, s.grocers_most)))))
      (and_true (le-leb 1 f.offers (omega (arith, h.offers, s.offers_some))) (le-leb f.offers 500 (omega (arith, h.offers, s.offers_most)))))
      (le-leb f.tallies 1000 (omega (arith, h.tallies, s.tallies_most)))

  words_ok : job_words_in_range f ≡ true
  unfolding job_words_in_range
  words_ok =
      and_true (and_true (and_true (and_true (and_true (and_true
      (up_all 9_999_999 (f.offers * suc f.lists) f.price price_few)
      (under_all f.boxes f.offers f.offer_owner (λ o l. omega (arith, h.boxes, owner_at o l, (in_file.offer o (offer_in o l)).owner))))
      (under_all f.boxes f.grocers f.grocer_owner (λ g l. omega (arith, h.boxes, grocer_owner_at g l, in_file.grocer_owner g (grocer_in g l)))))
      (under_all f.grocers f.tallies f.tally_grocer (λ t l. omega (arith, h.grocers, grocer_at t l, (in_file.tally t (tally_in t l)).grocer))))
      (under_all f.boxes f.tallies f.tally_box (λ t l. omega (arith, h.boxes, box_at t l, (in_file.tally t (tally_in t l)).box))))
      (under_all f.offers f.tallies f.tally_offer (λ t l. omega (arith, h.offers, place_at t l, in_file.place t (tally_in t l)))))
      (around_all 99_999 f.tallies f.tally_count (λ t l. rw (count_at t l) (in_file.tally t (tally_in t l)).count))

  pub range_ok : job_in_range f ≡ true
  unfolding job_in_range
  range_ok = and_true sizes_ok words_ok

  -- The rule looks at the same in the tables and in the file.
  counted_same : Reordered (counted_tallies job) (counted_of f) (λ t. t) (λ t. t)
  unfolding counted_tallies counted_of job_of
  counted_same =
      same_order (counted_of f) (counted_tallies job) h.tallies h.tally_grocer h.tally_offer
      (λ t l. word_in_lem f.tallies f.tally_bag 0 t (tally_of_lem t l) ∙ h.tally_bag t l)
      (λ t l. word_in_lem f.tallies f.tally_revision 0 t (tally_of_lem t l) ∙ h.tally_revision t l)

  -- So 9 is not met, and the same tallies stand.
  pub once_ok : counted_twice (counted_of f) ≡ false
  once_ok = recount_laws.order_twice (counted_tallies job) (counted_of f) (λ t. t) (λ t. t) counted_same ∙ in_file.once

  pub stands_ok : (t : ℕ) → t < job.head.tallies → stands (counted_of f) t ≡ stands (counted_tallies job) t
  unfolding counted_of
  stands_ok t l = recount_laws.order (counted_tallies job) (counted_of f) (λ t. t) (λ t. t) counted_same t (omega (arith, l, h.tallies))

  -- Where they are as long as they must be, they settle.
  pub settles_ok : job_short f (job_lengths f) ≡ false → bags_short f (job_lengths f) ≡ false → Settles f
  settles_ok whole bags = record { whole = whole; bags = bags; in_range = range_ok; once = once_ok }

  -- The price of a tally on a list is that of the offer its code names.
  price_named : (q t : ℕ) → q < suc job.head.lists → t < f.tallies →
      get_or f.price (q * f.offers + get_or f.tally_offer t 0) 0 ≡ price_on job.offer job.list_price q (place_of job t)
  price_named q t m l =
      let p : place_of job t < job.head.offers = in_file.place t (tally_in t l) in
      ap (λ (o : ℕ). get_or f.price (q * f.offers + o) 0) (place_at t l) ∙ price_at_lem q (place_of job t) m (omega (arith, p, h.offers))

  pub sums_ok : (g q : ℕ) → q < suc job.head.lists → plain_sum (evening_of f) (g * suc job.head.lists + q) ≡ owed_by_file job g q
  unfolding owed_by_file
  sums_ok g q m =
      ap (λ (l : ℕ). plain_sum (evening_of f) (g * suc l + q)) (sym h.lists)
      ∙ (standing_count f range_ok).list_sums g q (omega (arith, m, h.lists))
      ∙ sum_cong integers f.tallies _ (owed_at job g q) (λ t l. rw (stands_ok t (tally_in t l), grocer_at t l, count_at t l, price_named q t m l))
      ∙ ap (λ (n : ℕ). sum integers n (owed_at job g q)) h.tallies

module _ (f : List ℕ) (l : ReaderTables) (ok : read_refusal f l ≡ 0) where
  -- The tables that the reader leaves, and the job that they hold.
  abbrev tables : FileTables
  tables = (read_result f l).tables.job

  abbrev read_job_of : FileJob
  read_job_of = file_job_of (decode f).head tables

  range : InRange read_job_of
  range = read_range f l ok

  long : Long (decode f).head tables
  long = long_tables (decode f).head tables (read_long f l ok)

  place-below : (t : ℕ) → t < (decode f).head.tallies → get_or (read_result f l).tables.tally_offer t 0 < (decode f).head.offers
  unfolding file_job_of
  place-below t h = rw (read_place f l ok t h) (range.place t h)

  place_long_lem : (decode f).head.tallies ≤ length (read_result f l).tables.tally_offer
  unfolding store_read
  place_long_lem = rw (read_accepted f l ok) (long_overwrite (decode f).head.tallies (place_of (decode f)) l.tally_offer)

  whole_ok : job_short (job_read f l) (job_lengths (job_read f l)) ≡ false
  unfolding job_short job_lengths job_read
  whole_ok =
      rw (
        le-ltb (length tables.offers.price) ((decode f).head.offers * suc (decode f).head.lists) long.offers.price,
        le-ltb (length tables.offers.owner) (decode f).head.offers long.offers.owner,
        le-ltb (length tables.grocer_owner) (decode f).head.grocers long.grocer_owner,
        le-ltb (length tables.tallies.grocer) (decode f).head.tallies long.tallies.grocer,
        le-ltb (length tables.tallies.box) (decode f).head.tallies long.tallies.box,
        le-ltb (length (read_result f l).tables.tally_offer) (decode f).head.tallies place_long_lem,
        le-ltb (length tables.tallies.count) (decode f).head.tallies long.tallies.count,
      )

  bags_ok : bags_short (job_read f l) (job_lengths (job_read f l)) ≡ false
  unfolding bags_short job_lengths job_read
  bags_ok =
      rw (
        le-ltb (length tables.tallies.bag) (decode f).head.tallies long.tallies.bag,
        le-ltb (length tables.tallies.revision) (decode f).head.tallies long.tallies.revision,
      )

  same : SameWords read_job_of (decode f)
  same = read_job f l ok

  -- Each word is the file's: a tally's box, bag and revision,
  its_own_box : (t : ℕ) → t < (decode f).head.tallies → get_or (job_read f l).tally_box t 0 ≡ ((decode f).tally t).box
  unfolding job_read file_job_of
  its_own_box t h = (same.tally t h).box

  its_bag : (t : ℕ) → t < (decode f).head.tallies → get_or (job_read f l).tally_bag t 0 ≡ ((decode f).tally t).bag
  unfolding job_read file_job_of
  its_bag t h = (same.tally t h).bag

  its_revision : (t : ℕ) → t < (decode f).head.tallies → get_or (job_read f l).tally_revision t 0 ≡ ((decode f).tally t).revision
  unfolding job_read file_job_of
  its_revision t h = (same.tally t h).revision

  its_grocer : (t : ℕ) → t < (decode f).head.tallies → (job_of (job_read f l)).tally_grocer t ≡ ((decode f).tally t).grocer
  unfolding job_of job_read file_job_of
  its_grocer t h = word_in_lem (decode f).head.tallies tables.tallies.grocer 0 t h ∙ (same.tally t h).grocer

  -- its place is that of the offer its code names,
  its_place : (t : ℕ) → t < (decode f).head.tallies → (job_of (job_read f l)).tally_offer t ≡ place_of (decode f) t
  unfolding job_of job_read store_read
  its_place t h =
      word_in_lem (decode f).head.tallies (read_result f l).tables.tally_offer 0 t h
      ∙ rw (read_accepted f l ok) (get_d_overwrite (decode f).head.tallies (place_of (decode f)) l.tally_offer t 0 h)

  its_count : (t : ℕ) → t < (decode f).head.tallies → (job_of (job_read f l)).tally_count t ≡ ((decode f).tally t).count
  unfolding job_of job_read file_job_of
  its_count t h = word_in_lem (decode f).head.tallies tables.tallies.count (pos 0) t h ∙ (same.tally t h).count

  its_price : (o : ℕ) → o < (decode f).head.offers → (job_of (job_read f l)).price o ≡ ((decode f).offer o).price
  unfolding job_of job_read file_job_of
  its_price o h = word_in_lem (decode f).head.offers tables.offers.price 0 o h ∙ (same.offer o h).price

  list_price_lem : (q o : ℕ) → q < (decode f).head.lists → o < (decode f).head.offers →
      get_or (job_read f l).price (suc q * (decode f).head.offers + o) 0 ≡ (decode f).list_price q o
  unfolding job_read file_job_of
  list_price_lem q o m h = same.list_price q o m h

  its_owner : (o : ℕ) → o < (decode f).head.offers → (job_of (job_read f l)).offer_owner o ≡ ((decode f).offer o).owner
  unfolding job_of job_read file_job_of
  its_owner o h = word_in_lem (decode f).head.offers tables.offers.owner 0 o h ∙ (same.offer o h).owner

  grocer_owner_lem : (g : ℕ) → g < (decode f).head.grocers → (job_of (job_read f l)).grocer_owner g ≡ (decode f).grocer_owner g
  unfolding job_of job_read file_job_of
  grocer_owner_lem g h = word_in_lem (decode f).head.grocers tables.grocer_owner 0 g h ∙ same.grocer_owner g h

  holds_ok : Holds (decode f) (job_read f l)
  unfolding job_read
  holds_ok = record {
    boxes = refl;
    grocers = refl;
    offers = refl;
    tallies = refl;
    lists = refl;
    price = its_price;
    list_price = list_price_lem;
    offer_owner = its_owner;
    grocer_owner = grocer_owner_lem;
    tally_grocer = its_grocer;
    tally_box = its_own_box;
    tally_count = its_count;
    tally_bag = its_bag;
    tally_revision = its_revision;
    tally_offer = its_place;
  }

  -- The code of a tally names the offer at its place, and no other.
  named_ok : (t : ℕ) → t < (decode f).head.tallies → (place_of (decode f) t < (decode f).head.offers) × (names (decode f) t (place_of (decode f) t) ≡ true)
  unfolding names
  named_ok t h = let r = accepted_range f (read_file f l ok) in (r.place t h, r.named t h)

  other_ok : (t i : ℕ) → t < (decode f).head.tallies → i < (decode f).head.offers → names (decode f) t i ≡ true → place_of (decode f) t ≡ i
  unfolding names
  other_ok t i h m e = only_place (decode f) t (fine (decode f) (job_accepted f (read_file f l ok))).shared i m e

  -- Two offers of one name are one.
  apart_ok : (i k : ℕ) → i < (decode f).head.offers → k < (decode f).head.offers → same_offer (offer_name (decode f) i) (offer_name (decode f) k) ≡ true → i ≡ k
  apart_ok i k h m e =
      let r = accepted_range f (read_file f l ok) in
      elim (ℕ_discrete i k) [
        | yes d ↦ d
        | no d ↦ elim (dec_lt i k) [
          | yes n ↦ absurd (clash e (r.apart k i n m))
          | no n ↦ absurd (clash (same_turn (offer_name (decode f) k) (offer_name (decode f) i) ∙ e) (r.apart i k (omega (arith, n, d)) h))
        ]
      ]

-- The tables that the reader leaves for an accepted file settle without a refusal.
pub settles : (f : List ℕ) (l : ReaderTables) → read_refusal f l ≡ 0 → Settles (job_read f l)
settles f l ok = settles_ok f (read_file f l ok) (job_read f l) (holds_ok f l ok) (whole_ok f l ok) (bags_ok f l ok)

-- Every file that the reader accepts.
pub accepted : (f : List ℕ) (l : ReaderTables) → read_refusal f l ≡ 0 → Accepted f l
accepted f l ok = record {
  holds = holds_ok f l ok;
  named = named_ok f l ok;
  no_other = other_ok f l ok;
  apart = apart_ok f l ok;
  offer_code = λ i h. ((accepted_range f (read_file f l ok)).offer i h).code;
  tally_code = λ t h. ((accepted_range f (read_file f l ok)).tally t h).code;
  once = (accepted_range f (read_file f l ok)).once;
  answer = ap (λ (o : ReadOutcome). o.answer) (read_accepted f l ok);
  settles = settles f l ok;
  steps = demand3 (job_read f l) (settles f l ok);
  run = demand3_run (job_read f l) (settles f l ok);
  standing = stands_ok f (read_file f l ok) (job_read f l) (holds_ok f l ok);
  sums = sums_ok f (read_file f l ok) (job_read f l) (holds_ok f l ok);
}
