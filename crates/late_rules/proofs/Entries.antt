-- Entries written into tables: what then stands there, and when the job so written settles. Assumes nothing.
use mathlib.Core.Path.{◌≡◌, sym}
use mathlib.Core.Bool.{true, false}
use mathlib.Core.List.{List, [], ◌∷◌}
use Prim.Native.Nat.{ℕ, suc, ◌+◌, ◌-◌, ◌*◌, ◌/◌, ◌%◌, ◌<◌, ◌≤◌}
use native.Mathlib.Nat.{mul-le-mul_right, mul_comm, zero-mul, zero-add, div-add-mod', mod-lt, div-lt_iff_lt-mul}
use native.Mathlib.Omega.{arith}
use lib.Dec.{ltb, leb}
use lib.IntN.{ℤ, pos, nat_abs}
use lib.ListN.{get_or, length}
use borrow.Author.Tests.{lt-ltb, le-leb, le-ltb, ltb-false, ltb-true}
use Rattle.laws.specs.Tables.{overwrite, recell}
use Rattle.laws.proofs.Below.{all_of_lem}
use Rattle.laws.proofs.Bools.{and_true, split}
use Rattle.laws.proofs.Tables.{get_d_overwrite, long_overwrite, pos_right}
use Rattle.laws.specs.Lists.{list_words}
use Rattle.laws.proofs.Checks.{all_each}
use Rattle.recount.specs.Recount.{counted_twice}
use Rattle.model.specs.Tables.{StateTables, counted_of, job_lengths, job_short, bags_short, state_short}
use Rattle.model.specs.Ranges.{up_to, under, around, sizes_in_range, job_words_in_range, job_in_range, Settles}
use Rattle.format.specs.Job.{Head}
use Rattle.format.specs.Refusals.{job_refusal}
use Rattle.format.specs.Tables.{ReaderTables, LongTallies, Long, store_codes, store_tallies, file_job_of}
use Rattle.format.specs.Same.{TallyWords}
use Rattle.late_rules.specs.Edit.{Entry, entry_of, store_entries, with_tallies, job_in}
use Rattle.model.specs.Edges.{less}
use Rattle.model.specs.Steps.{places}
use Rattle.format.proofs.Range.{InRange, in_range_lem}
use Rattle.format.proofs.Tables.{tallies-stored, long_tables, tables_long}
use Rattle.late_rules.proofs.Edited.{Whole}
use Rattle.model.proofs.Served.{next}

up_all : (m n : ℕ) (l : List ℕ) → ((i : ℕ) → i < n → get_or l i 0 ≤ m) → up_to m n l ≡ true
unfolding up_to
up_all m n l h = all_of_lem n (λ i. leb (get_or l i 0) m) (λ i k. le-leb (get_or l i 0) m (h i k))

under_all : (m n : ℕ) (l : List ℕ) → ((i : ℕ) → i < n → get_or l i 0 < m) → under m n l ≡ true
unfolding under
under_all m n l h = all_of_lem n (λ i. ltb (get_or l i 0) m) (λ i k. lt-ltb (get_or l i 0) m (h i k))

around_all : (m n : ℕ) (l : List ℤ) → ((i : ℕ) → i < n → nat_abs (get_or l i (pos 0)) ≤ m) → around m n l ≡ true
unfolding around
around_all m n l h = all_of_lem n (λ i. leb (nat_abs (get_or l i (pos 0))) m) (λ i k. le-leb (nat_abs (get_or l i (pos 0))) m (h i k))

-- ---- a job that the writer does not refuse, whose places are in range, and which no bag refuses, settles

module _ (h : Head) (l : ReaderTables) (ok : job_refusal (file_job_of h l.job) ≡ 0) (places : (t : ℕ) → t < h.tallies → get_or l.tally_offer t 0 < h.offers) where
  job_range : InRange (file_job_of h l.job)
  job_range = in_range_lem (file_job_of h l.job) ok

  sizes_ok : sizes_in_range (job_in h l) ≡ true
  unfolding sizes_in_range file_job_of
  sizes_ok =
      let s = job_range.sizes in
      all_each (_ ∷ _ ∷ _ ∷ _ ∷ _ ∷ []) (
        le-leb h.lists 7 s.lists_most,
        (
          and_true (le-leb 1 h.boxes s.boxes_some) (le-leb h.boxes 16 s.boxes_most),
          (
            and_true (le-leb 1 h.grocers s.grocers_some) (le-leb h.grocers 255 s.grocers_most),
            (and_true (le-leb 1 h.offers s.offers_some) (le-leb h.offers 500 s.offers_most), (le-leb h.tallies 1000 s.tallies_most, tt)),
          ),
        ),
      )

  -- A price of an additional list,
  more_price : (q o : ℕ) → q < h.lists → o < h.offers → get_or l.job.offers.price (suc q * h.offers + o) 0 ≤ 9_999_999
  unfolding file_job_of
  more_price q o lq lo = job_range.list_price q o lq lo

  -- and of any list: list after list, N words each.
  prices_ok : (i : ℕ) → i < list_words h.lists h.offers → get_or l.job.offers.price i 0 ≤ 9_999_999
  unfolding file_job_of
  prices_ok i k =
      let n = h.offers in
      let some : 0 < n = pos_left n (suc h.lists) i k in
      split (ltb i n)
      (λ q. (job_range.offer i (ltb-true i n q)).price)
      (λ q.
      let here : i / n * n + i % n ≡ i = div-add-mod' i n in
      let first : (i / n ≡ 0) → ⊥ = λ e. let w : i % n ≡ i = rw (e, zero-mul n, zero-add (i % n)) at here in let less = mod-lt i some in let m = ltb-false i n q in omega arith in
      let list_of : i / n < suc h.lists = (div-lt_iff_lt-mul some).1 (rw (mul_comm h.offers (suc h.lists)) at k) in
      let next : suc (i / n - 1) ≡ i / n = next_is (i / n) first in
      rw (sym here) (rw next at (more_price (i / n - 1) (i % n) (omega arith) (mod-lt i some))))
    where
      pos_left : (a b i : ℕ) → i < a * b → 0 < a
      pos_left a b i k = pos_right b a i (rw (mul_comm a b) at k)

      next_is : (a : ℕ) → (a ≡ 0 → ⊥) → suc (a - 1) ≡ a
      next_is a ne = omega arith

  words_ok : job_words_in_range (job_in h l) ≡ true
  unfolding job_words_in_range file_job_of
  words_ok =
      all_each (_ ∷ _ ∷ _ ∷ _ ∷ _ ∷ _ ∷ _ ∷ []) (
        up_all 9_999_999 (list_words h.lists h.offers) l.job.offers.price prices_ok,
        (
          under_all h.boxes h.offers l.job.offers.owner (λ o q. (job_range.offer o q).owner),
          (
            under_all h.boxes h.grocers l.job.grocer_owner (λ g q. job_range.grocer_owner g q),
            (
              under_all h.grocers h.tallies l.job.tallies.grocer (λ t q. (job_range.tally t q).grocer),
              (
                under_all h.boxes h.tallies l.job.tallies.box (λ t q. (job_range.tally t q).box),
                (
                  under_all h.offers h.tallies l.tally_offer places,
                  (around_all 99_999 h.tallies l.job.tallies.count (λ t q. (job_range.tally t q).count), tt),
                ),
              ),
            ),
          ),
        ),
      )

  pub in_range_is : job_in_range (job_in h l) ≡ true
  unfolding job_in_range
  in_range_is = and_true sizes_ok words_ok

module _ (h : Head) (l : ReaderTables) (s : StateTables) (w : Whole h.tallies h l s) where
  long : Long h l.job
  long = long_tables h l.job w.tables

  pub whole_ok : job_short (job_in h l) (job_lengths (job_in h l)) ≡ false
  unfolding job_short job_lengths
  whole_ok =
      rw (
        le-ltb (length l.job.offers.price) (list_words h.lists h.offers) long.offers.price,
        le-ltb (length l.job.offers.owner) h.offers long.offers.owner,
        le-ltb (length l.job.grocer_owner) h.grocers long.grocer_owner,
        le-ltb (length l.job.tallies.grocer) h.tallies long.tallies.grocer,
        le-ltb (length l.job.tallies.box) h.tallies long.tallies.box,
        w.places,
        le-ltb (length l.job.tallies.count) h.tallies long.tallies.count,
      )

  pub bags_ok : bags_short (job_in h l) (job_lengths (job_in h l)) ≡ false
  unfolding bags_short job_lengths
  bags_ok =
      rw (
        le-ltb (length l.job.tallies.bag) h.tallies long.tallies.bag,
        le-ltb (length l.job.tallies.revision) h.tallies long.tallies.revision,
      )

  pub settles_is : job_in_range (job_in h l) ≡ true → counted_twice (counted_of (job_in h l)) ≡ false → Settles (job_in h l)
  settles_is r c = record { whole = whole_ok; bags = bags_ok; in_range = r; once = c }

-- ---- entries written

-- The same words of a tally, and the same place.
pub record SameEntry (a b : Entry) : Type 0 where
  pub tally : TallyWords a.tally b.tally
  pub place : a.place ≡ b.place

module _ (n : ℕ) (e : ℕ → Entry) (l : ReaderTables) where
  pub stored : (t : ℕ) → t < n → SameEntry (entry_of (store_entries n e l) t) (e t)
  unfolding store_entries
  stored t q = record { tally = tallies-stored n l.job.tallies (λ t. (e t).tally) t q; place = get_d_overwrite n (λ t. (e t).place) l.tally_offer t 0 q }

  stored_long : LongTallies n (store_entries n e l).job.tallies
  unfolding store_entries store_tallies store_codes recell
  stored_long =
      let x = l.job.tallies in
      record {
        grocer = long_overwrite _ _ x.grocer;
        box = long_overwrite _ _ x.box;
        code = long_overwrite _ _ x.code;
        count = long_overwrite _ _ x.count;
        issuer = long_overwrite _ _ x.issuer;
        bag = long_overwrite _ _ x.bag;
        revision = long_overwrite _ _ x.revision;
      }

  -- Tables with n entries written have room for so many, and for fewer.
  pub stored-whole : (h : Head) (s : StateTables) (m k : ℕ) → m ≤ n → Whole k h l s → Whole m (with_tallies h m) (store_entries n e l) s
  unfolding store_entries state_short
  stored-whole h s m k q w =
      let o = long_tables (with_tallies h k) l.job w.tables in
      let x = stored_long in
      let c : m * 11 ≤ n * 11 = mul-le-mul_right 11 q in
      record {
        tables = tables_long (with_tallies h m) (store_entries n e l).job (record {
          offers = o.offers;
          grocer_owner = o.grocer_owner;
          tallies = record {
            grocer = omega (arith, x.grocer);
            box = omega (arith, x.box);
            code = omega (arith, x.code);
            count = omega (arith, x.count);
            issuer = omega (arith, x.issuer);
            bag = omega (arith, x.bag);
            revision = omega (arith, x.revision);
          };
        });
        places = le-ltb (length (overwrite n (λ t. (e t).place) l.tally_offer)) m (omega (arith, long_overwrite n (λ t. (e t).place) l.tally_offer));
        state = w.state;
      }

-- Tables with room for k tallies have room for fewer.
pub whole-less : (m k : ℕ) (h : Head) (l : ReaderTables) (s : StateTables) → m ≤ k → Whole k h l s → Whole m h l s
whole-less m k h l s q w =
    let o = long_tables (with_tallies h k) l.job w.tables in
    let x = o.tallies in
    let c : m * 11 ≤ k * 11 = mul-le-mul_right 11 q in
    let p : k ≤ length l.tally_offer = ltb-false (length l.tally_offer) k w.places in
    record {
      tables = tables_long (with_tallies h m) l.job (record {
        offers = o.offers;
        grocer_owner = o.grocer_owner;
        tallies = record {
          grocer = omega (arith, x.grocer);
          box = omega (arith, x.box);
          code = omega (arith, x.code);
          count = omega (arith, x.count);
          issuer = omega (arith, x.issuer);
          bag = omega (arith, x.bag);
          revision = omega (arith, x.revision);
        };
      });
      places = le-ltb (length l.tally_offer) m (omega arith);
      state = w.state;
    }
