-- In tables in range the tallies that count are those that stand. Assumes nothing.
use mathlib.Core.Path.{◌≡◌, ap, ◌∙◌}
use mathlib.Core.Bool.{true, ◌&&◌}
use Prim.Native.Nat.{ℕ, suc, ◌+◌, ◌*◌, ◌<◌}
use native.Mathlib.Omega.{arith}
use lib.ListN.{get_or, drop}
use lib.Seq.{get_or-drop}
use lib.Dec.{eqb}
use lib.IntN.{pos, ◌*ℤ◌}
use borrow.Author.Tests.{eqb-true, lt-ltb, le-ltb}
use Rattle.laws.specs.Below.{sum, only, integers}
use Rattle.laws.specs.Tables.{word}
use Rattle.laws.proofs.Bools.{split, and_true, and_false, eqb_same}
use Rattle.laws.proofs.Sums.{sum_cong}
use Rattle.laws.proofs.Tables.{word_in_lem}
use Rattle.recount.specs.Recount.{stands}
use Rattle.model.specs.Job.{Job, held_by, held, amount, plain_sum}
use Rattle.model.specs.Tables.{JobTables, counted_of, nobody, job_of, evening_of}
use Rattle.model.specs.Ranges.{job_in_range}
use Rattle.model.specs.Standing.{StandingCount}
use Rattle.model.specs.PriceLists.{only_list}
use Rattle.model.proofs.Step.{job_in_lem, in_handed, boxes_under, under_at}
use Rattle.model.proofs.PriceLists.{list_sum}

-- Tables in range.
module _ (f : JobTables) (ok : job_in_range f ≡ true) where
  holder_is : (t b : ℕ) → t < f.tallies → held_by (job_of f) t b ≡ (stands (counted_of f) t && eqb (get_or f.tally_box t 0) b)
  unfolding held_by job_of
  holder_is t b l =
      split (stands (counted_of f) t)
      (λ e. rw (e, word_in_lem f.tallies f.tally_box 0 t l)
      (split (eqb (get_or f.tally_box t 0) b)
      (λ q. let same = eqb-true (get_or f.tally_box t 0) b q in
      rw (q, lt-ltb b f.boxes (omega (arith, same, under_at f.boxes f.tallies f.tally_box t (boxes_under f ok) l))))
      (λ q. rw q)))
      (λ e. rw e (split (eqb nobody b)
      (λ q. let same = eqb-true nobody b q in rw (le-ltb b f.boxes (omega (arith, same, (job_in_lem f (in_handed f ok)).boxes≤))) (and_false (eqb nobody b)))
      (λ q. rw q)))

  counts_is : (t : ℕ) → t < f.tallies → held (job_of f) t ≡ stands (counted_of f) t
  unfolding held held_by job_of
  counts_is t l =
      split (stands (counted_of f) t)
      (λ e. rw (e, word_in_lem f.tallies f.tally_box 0 t l)
      (and_true (eqb_same (get_or f.tally_box t 0)) (lt-ltb (get_or f.tally_box t 0) f.boxes (under_at f.boxes f.tallies f.tally_box t (boxes_under f ok) l))))
      (λ e. rw (e, le-ltb nobody f.boxes (job_in_lem f (in_handed f ok)).boxes≤))

  sums_is : (g : ℕ) → plain_sum (job_of f) g
      ≡ sum integers f.tallies (λ t. only integers (stands (counted_of f) t && eqb (get_or f.tally_grocer t 0) g)
      (get_or f.tally_count t (pos 0) *ℤ pos (get_or f.price (get_or f.tally_offer t 0) 0)))
  unfolding plain_sum amount job_of
  sums_is g =
      sum_cong integers f.tallies (λ t. only integers (held (job_of f) t && eqb ((job_of f).tally_grocer t) g) (amount (job_of f) ((job_of f).price ((job_of f).tally_offer t)) t)) _
      (λ t l. rw (
        counts_is t l,
        word_in_lem f.tallies f.tally_grocer 0 t l,
        word_in_lem f.tallies f.tally_count (pos 0) t l,
        word_in_lem f.tallies f.tally_offer 0 t l,
        word_in_lem f.offers f.price 0 (get_or f.tally_offer t 0) (under_at f.offers f.tallies f.tally_offer t (job_in_lem f (in_handed f ok)).tally_offer l),
      ))

  alone_sums : (g q : ℕ) → plain_sum (job_of (only_list f q)) g
      ≡ sum integers f.tallies (λ t. only integers (stands (counted_of f) t && eqb (get_or f.tally_grocer t 0) g)
      (get_or f.tally_count t (pos 0) *ℤ pos (get_or f.price (q * f.offers + get_or f.tally_offer t 0) 0)))
  unfolding plain_sum held held_by amount job_of only_list counted_of
  alone_sums g q =
      sum_cong integers f.tallies (λ t. only integers (held (job_of f) t && eqb ((job_of f).tally_grocer t) g)
      (amount (job_of f) (word f.offers (drop (q * f.offers) f.price) 0 ((job_of f).tally_offer t)) t)) _
      (λ t l. rw (
        counts_is t l,
        word_in_lem f.tallies f.tally_grocer 0 t l,
        word_in_lem f.tallies f.tally_count (pos 0) t l,
        word_in_lem f.tallies f.tally_offer 0 t l,
        word_in_lem f.offers (drop (q * f.offers) f.price) 0 (get_or f.tally_offer t 0)
            (under_at f.offers f.tallies f.tally_offer t (job_in_lem f (in_handed f ok)).tally_offer l),
        get_or-drop (q * f.offers) f.price (get_or f.tally_offer t 0) 0,
      ))

  -- The evening's sums of list q are those of the job with this list alone.
  list_sums_lem : (g q : ℕ) → q < suc f.lists → plain_sum (evening_of f) (g * suc f.lists + q)
      ≡ sum integers f.tallies (λ t. only integers (stands (counted_of f) t && eqb (get_or f.tally_grocer t 0) g)
      (get_or f.tally_count t (pos 0) *ℤ pos (get_or f.price (q * f.offers + get_or f.tally_offer t 0) 0)))
  list_sums_lem g q h =
      list_sum f.lists f q h g ∙ alone_sums g q

  pub standing_count : StandingCount f
  standing_count = record { holder = holder_is; counts = counts_is; sums = sums_is; list_sums = list_sums_lem }
