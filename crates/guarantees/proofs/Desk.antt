-- Handed a job's own tallies, the desk answers the plain sum. Assumes nothing.
use mathlib.Core.Path.{◌≡◌, refl, ap}
use mathlib.Core.List.{List, [], ◌∷◌}
use mathlib.Core.Bool.{true, false, ◌&&◌}
use Prim.Native.Nat.{ℕ, zero, suc, ◌<◌, ◌≤◌}
use native.Mathlib.Omega.{arith}
use native.Mathlib.Nat.{le_refl, mul-le-mul}
use lib.ListN.{get_or, length}
use lib.Dec.{ltb, leb}
use lib.IntN.{pos, nat_abs}
use borrow.Author.Tests.{lt-ltb, le-ltb, le-leb}
use Rattle.laws.specs.Checks.{first_met}
use Rattle.laws.specs.Lists.{list_words}
use Rattle.laws.specs.Tables.{tabulate}
use Rattle.laws.specs.Limits.{max_boxes, max_grocers, max_offers, max_tallies, max_lists, max_price, max_count}
use Rattle.laws.proofs.Bools.{and_true, and_l}
use Rattle.laws.proofs.Below.{all_of_lem}
use Rattle.laws.proofs.Checks.{Each, each_of, all_each}
use Rattle.laws.proofs.Tables.{length_tabulate, get_d_tabulate}
use Rattle.recount.specs.Recount.{counted_twice}
use Rattle.model.specs.Job.{plain_sum}
use Rattle.model.specs.Tables.{JobTables, counted_of, job_of}
use Rattle.model.specs.Ranges.{up_to, sizes_in_range, job_words_in_range, job_in_range}
use Rattle.model.specs.Reconcile.{TallyRecord, owed, record_in_range, records_in_range, record_in, desk_refusals, desk_answer, reconciled}
use Rattle.model.proofs.Step.{JobIn, job_in_lem, in_handed, boxes_under, under_at, around_at, up_at}
use Rattle.model.proofs.Desk.{OwnRecords, own_counted, own_sum}
use Rattle.desk.specs.Records.{tally_record}
use Rattle.guarantees.specs.Calls.{job_records}

-- Records that are in range one by one.
each_in_range : (m n k : ℕ) (r : ℕ → TallyRecord) → ((t : ℕ) → t < k → record_in_range m n (r t) ≡ true) → records_in_range m n (tabulate k r) ≡ true
unfolding records_in_range tabulate
each_in_range m n zero r h = refl
each_in_range m n (suc k) r h = and_true (h 0 (omega arith)) (each_in_range m n k (λ i. r (suc i)) (λ t l. h (suc t) (omega arith)))

module _ (f : JobTables) (ok : job_in_range f ≡ true) where
  -- Tally t as a record.
  abbrev tally : ℕ → TallyRecord
  tally t = tally_record (get_or f.tally_grocer t 0) (get_or f.tally_box t 0) (get_or f.tally_offer t 0) (get_or f.tally_count t (pos 0))
      (get_or f.tally_bag t 0) (get_or f.tally_revision t 0)

  words : JobIn f
  words = job_in_lem f (in_handed f ok)

  tally_in_range : (t : ℕ) → t < f.tallies → record_in_range f.grocers f.offers (tally t) ≡ true
  unfolding record_in_range
  tally_in_range t l =
      all_each (ltb (get_or f.tally_grocer t 0) f.grocers ∷ ltb (get_or f.tally_box t 0) max_boxes ∷ ltb (get_or f.tally_offer t 0) f.offers ∷ leb (nat_abs (get_or f.tally_count t (pos 0))) max_count ∷ []) (
        lt-ltb _ _ (under_at f.grocers f.tallies f.tally_grocer t words.tally_grocer l),
        (
          lt-ltb (get_or f.tally_box t 0) max_boxes (omega (arith, under_at f.boxes f.tallies f.tally_box t (boxes_under f ok) l, words.boxes≤)),
          (
            lt-ltb _ _ (under_at f.offers f.tallies f.tally_offer t words.tally_offer l),
            (le-leb _ _ (around_at max_count f.tallies f.tally_count t words.tally_count l), tt),
          ),
        ),
      )

  -- The prices of the first list are in range.
  first_prices : up_to max_price f.offers f.price ≡ true
  unfolding up_to
  first_prices =
      all_of_lem f.offers (λ o. leb (get_or f.price o 0) max_price) (λ o l.
      le-leb (get_or f.price o 0) max_price (up_at max_price (list_words f.lists f.offers) f.price o words.price
      (omega (arith, l, mul-le-mul {n₂ = f.offers} {m₂ = suc f.lists} (le_refl f.offers) (one_list f.lists)))))
    where
      one_list : (l : ℕ) → 1 ≤ suc l
      one_list l = omega arith

  -- The record at each place is the tally.
  record_is : (t : ℕ) → t < f.tallies → record_in (job_records f) t ≡ tally t
  unfolding record_in job_records
  record_is t l = get_d_tabulate f.tallies tally t _ l

  own : OwnRecords f (job_records f)
  unfolding job_records
  own = record {
    size = length_tabulate f.tallies tally;
    grocer = λ t l. ap (λ (r : TallyRecord). r.grocer) (record_is t l);
    place = λ t l. ap (λ (r : TallyRecord). r.place) (record_is t l);
    counted = λ t l. ap (λ (r : TallyRecord). r.count) (record_is t l);
    bag = λ t l. ap (λ (r : TallyRecord). r.bag) (record_is t l);
    revision = λ t l. ap (λ (r : TallyRecord). r.revision) (record_is t l);
  }

  module _ (once : counted_twice (counted_of f) ≡ false) (long : f.offers ≤ length f.price) (g : ℕ) (l : g < f.grocers) where
    in_range_lem : Each true ((leb 1 f.grocers && leb f.grocers max_grocers) ∷ (leb 1 f.offers && leb f.offers max_offers) ∷ up_to max_price f.offers f.price
        ∷ leb (length (job_records f)) max_tallies ∷ records_in_range f.grocers f.offers (job_records f) ∷ ltb g f.grocers ∷ [])
    unfolding job_records job_in_range sizes_in_range
    in_range_lem =
        let sizes = each_of (
        leb f.lists max_lists
        ∷ (leb 1 f.boxes && leb f.boxes max_boxes)
        ∷ (leb 1 f.grocers && leb f.grocers max_grocers)
        ∷ (leb 1 f.offers && leb f.offers max_offers)
        ∷ leb f.tallies max_tallies
        ∷ []) (and_l (sizes_in_range f) (job_words_in_range f) ok) in
        let few : leb (length (tabulate f.tallies tally)) max_tallies ≡ true = rw (length_tabulate f.tallies tally) sizes.1.1.1.1.0 in
        (sizes.1.1.0, (sizes.1.1.1.0, (first_prices, (few, (each_in_range f.grocers f.offers f.tallies tally tally_in_range, (lt-ltb g f.grocers l, tt))))))

    none_met : first_met (desk_refusals f.grocers f.offers g f.price (job_records f)) ≡ 0
    unfolding first_met desk_refusals
    none_met = rw (le-ltb (length f.price) f.offers long, all_each _ in_range_lem, own_counted f (job_records f) own, once)

    -- Every grocer of such a job is owed its plain sum.
    pub answers : reconciled f.grocers f.offers g f.price (job_records f) ≡ owed (plain_sum (job_of f) g)
    unfolding reconciled desk_answer
    answers = rw (none_met, own_sum f (job_records f) own ok g)
