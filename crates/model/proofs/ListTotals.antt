-- The packed totals of an evening of several price lists, told from the entries: places, lengths and spans. Assumes nothing.
use mathlib.Core.Path.{◌≡◌, ap, ◌∙◌}
use mathlib.Core.Bool.{Bool, true, false, ◌&&◌, ◌||◌}
use mathlib.Core.List.{List}
use Prim.Native.Nat.{ℕ, zero, suc, ◌+◌, ◌*◌, ◌<◌, ◌≤◌}
use native.Mathlib.Omega.{arith}
use native.Mathlib.Nat.{mul-le-mul}
use lib.Arith.{digits_div, digits_mod}
use lib.Dec.{eqb, ltb}
use lib.IntN.{ℤ, pos}
use lib.ListN.{get_or}
use borrow.Author.Tests.{eqb-true}
use Rattle.laws.specs.Below.{naturals, integers, sum, only, count}
use Rattle.laws.proofs.Bools.{split, and_l, and_r, and_false}
use Rattle.laws.proofs.Sums.{sum_cong, sum_digits, sum_pick}
use Rattle.laws.proofs.Entries.{sum_scale, count_entry, pair_same}
use Rattle.model.specs.Job.{Job, held_by, total_word, amount}
use Rattle.model.specs.LocalLists.{local_grocers}
use Rattle.model.specs.PackedTotals.{has_total, totals_start, totals_length, total_place, unpack_totals, spread}
use Rattle.model.specs.Tables.{JobTables, job_of, with_lists, evening_of, StateTables, StateLengths, state_lengths, view, totals_short}
use Rattle.model.specs.Ranges.{job_in_range}
use Rattle.model.specs.Handed.{handed_in_range}
use Rattle.model.specs.Spans.{group_start, beside, place_grocers, tally_place, added_at, BySpans, ListSpans}
use Rattle.model.specs.PriceLists.{ListTotals}
use Rattle.model.proofs.Range.{InRange}
use Rattle.model.proofs.SideBySide.{chained-beside, local_spread, start_spread, side_by_side}
use Rattle.model.proofs.Spans.{tally_has, length_most, by_spans}
use Rattle.model.proofs.EveningJob.{held_entry, total_words_lem}
use Rattle.model.proofs.Step.{range, evening_range, in_handed}

-- A job with suc l lists.
module _ (l : ℕ) (f : JobTables) where
  has_list : (b g q : ℕ) → q < suc l → has_total (with_lists l f) b (g * suc l + q) ≡ has_total (job_of f) b g
  unfolding has_total with_lists spread
  has_list b g q k = ap (λ (c : Bool). ltb b (job_of f).boxes && c) ((side_by_side (suc l) (omega arith) _ (job_of f)).alike b g q k)

  place_list : (b g q : ℕ) → q < suc l → has_total (job_of f) b g ≡ true → total_place (with_lists l f) b (g * suc l + q) ≡ total_place (job_of f) b g * suc l + q
  unfolding has_total with_lists
  place_list b g q k h = (side_by_side (suc l) (omega arith) _ (job_of f)).place b g q k (and_r (ltb b (job_of f).boxes) _ h)

  read_list : (w : List ℤ) (b g q : ℕ) → q < suc l → has_total (job_of f) b g ≡ true →
      unpack_totals (with_lists l f) w b (g * suc l + q) ≡ get_or w (total_place (job_of f) b g * suc l + q) (pos 0)
  unfolding unpack_totals
  read_list w b g q k h = rw (has_list b g q k, h, place_list b g q k h)

  start_list : (b : ℕ) → totals_start (with_lists l f) b ≡ totals_start (job_of f) b * suc l
  unfolding with_lists
  start_list b = start_spread (suc l) (omega arith) _ (job_of f) b

  length_list : totals_length (with_lists l f) ≡ totals_length (job_of f) * suc l
  unfolding with_lists
  length_list = (side_by_side (suc l) (omega arith) _ (job_of f)).packed_length

  -- The groups of a box.
  own_list : (a : ℕ) → count (with_lists l f).grocers (λ g. eqb ((with_lists l f).grocer_owner g) a) ≡ count (job_of f).grocers (λ g. eqb ((job_of f).grocer_owner g) a) * suc l
  unfolding with_lists spread
  own_list a = count_entry l (job_of f).grocers (λ g. eqb ((job_of f).grocer_owner g) a)

  others_list : (a c : ℕ) → sum naturals c (λ d. count (with_lists l f).grocers (total_word (with_lists l f) a d)) ≡ sum naturals c (λ d. count (job_of f).grocers (total_word (job_of f) a d)) * suc l
  others_list a c =
      sum_cong naturals c (λ d. count (with_lists l f).grocers (total_word (with_lists l f) a d)) (λ d. count (job_of f).grocers (total_word (job_of f) a d) * suc l) (λ d k. total_words_lem l f a d)
      ∙ sum_scale (suc l) c (λ d. count (job_of f).grocers (total_word (job_of f) a d))

  group_list : (a c : ℕ) → group_start (with_lists l f) a c ≡ group_start (job_of f) a c * suc l
  unfolding group_start
  group_list a zero = start_list a
  group_list a (suc c) = omega (arith, start_list a, own_list a, others_list a c)

  -- The grocers of places.
  grocers_list : place_grocers (with_lists l f) ≡ beside (suc l) (place_grocers (job_of f))
  unfolding place_grocers with_lists spread
  grocers_list =
      chained-beside (suc l) (job_of f).boxes (local_grocers (with_lists l f)) (local_grocers (job_of f)) (λ b k. local_spread (suc l) (omega arith) _ (job_of f) b)

  -- The places of tallies.
  module _ (r : InRange (job_of f)) where
    tally_total : (t a : ℕ) → t < f.tallies → held_by (job_of f) t a ≡ true → has_total (job_of f) ((job_of f).tally_box t) ((job_of f).tally_grocer t) ≡ true
    unfolding held_by job_of
    tally_total t a h e =
        rw (eqb-true ((job_of f).tally_box t) a (and_l (eqb ((job_of f).tally_box t) a) _ e)) (tally_has (job_of f) r t a h e)

    tally_list : (t a q : ℕ) → t < f.tallies → held_by (job_of f) t a ≡ true → q < suc l → tally_place (with_lists l f) (t * suc l + q) ≡ tally_place (job_of f) t * suc l + q
    unfolding tally_place with_lists spread
    tally_list t a q h e k = rw (digits_div t k, digits_mod t k) (place_list ((job_of f).tally_box t) ((job_of f).tally_grocer t) q k (tally_total t a h e))

    -- What steps 2 and 3 add at a place of list q: of the numbers that a tally has, that of this list.
    module _ (know : ℕ → ℕ) (p : ℕ → Bool) (a i q : ℕ) (in-lists : q < suc l) where
      -- Tally t adds there,
      abbrev counts : ℕ → Bool
      counts t = held_by (job_of f) t a && eqb (tally_place (job_of f) t) i && p ((job_of f).tally_offer t * suc l + q)

      -- this,
      abbrev brings : ℕ → ℤ
      brings t = amount (job_of f) (know ((job_of f).tally_offer t * suc l + q)) t

      -- and number t of the evening's tallies this.
      abbrev numbered : ℕ → ℤ
      numbered t =
          only integers (held_by (with_lists l f) t a && eqb (tally_place (with_lists l f) t) (i * suc l + q) && p ((with_lists l f).tally_offer t))
          (amount (with_lists l f) (know ((with_lists l f).tally_offer t)) t)

      one_added : (t x : ℕ) → t < f.tallies → x < suc l → numbered (t * suc l + x) ≡ only integers (eqb q x && counts t) (brings t)
      unfolding amount with_lists spread only integers
      one_added t x h k =
          split (held_by (job_of f) t a)
          (λ e. rw (held_entry l f (t * suc l + x) a, digits_div t k, digits_mod t k, e, tally_list t a x h e k, pair_same (suc l) (tally_place (job_of f) t) i x q k in-lists)
          (split (eqb q x)
          (λ y. rw (y, ← (eqb-true q x y)))
          (λ y. rw y)))
          (λ e. simp (held_entry l f (t * suc l + x) a, digits_div t k, e, and_false))

      added_list : added_at (with_lists l f) know p a (i * suc l + q) ≡ sum integers f.tallies (λ t. only integers (counts t) (brings t))
      unfolding added_at with_lists spread job_of
      added_list =
          sum_digits integers f.tallies (suc l) numbered
          ∙ sum_cong integers f.tallies (λ t. sum integers (suc l) (λ x. numbered (t * suc l + x))) (λ t. only integers (counts t) (brings t)) (λ t h.
          sum_cong integers (suc l) (λ x. numbered (t * suc l + x)) (λ x. only integers (eqb q x && counts t) (brings t)) (λ x k. one_added t x h k)
          ∙ sum_pick integers (suc l) q (counts t) (brings t) in-lists)

-- The evening's job.
module _ (f : JobTables) where
  length_evening : totals_length (evening_of f) ≡ totals_length (job_of f) * suc f.lists
  length_evening = length_list f.lists f

  short_evening : (n : StateLengths) → totals_short (evening_of f) n
      ≡ (ltb n.working (totals_length (job_of f) * suc f.lists) || ltb n.total_transit (totals_length (job_of f) * suc f.lists))
  unfolding totals_short
  short_evening n = rw length_evening

  most_evening : job_in_range f ≡ true → totals_length (evening_of f) ≤ (f.grocers + f.tallies) * suc f.lists
  unfolding job_of
  most_evening ok = rw length_evening (mul-le-mul (length_most (job_of f) (range f (in_handed f ok))) (omega arith))

  pub read_evening : (w : List ℤ) (b g q : ℕ) → q < suc f.lists → has_total (job_of f) b g ≡ true →
      unpack_totals (evening_of f) w b (g * suc f.lists + q) ≡ get_or w (total_place (job_of f) b g * suc f.lists + q) (pos 0)
  read_evening w b g q k h = read_list f.lists f w b g q k h

  pub list_totals_lem : ListTotals f
  unfolding view
  list_totals_lem = record {
    alike = λ b g q k. has_list f.lists f b g q k;
    place = λ b g q k h. place_list f.lists f b g q k h;
    working = λ t. read_evening t.working;
    total_transit = λ t. read_evening t.total_transit;
    packed_length = length_evening;
    short = short_evening;
    most = most_evening;
  }

  evening_grocers : place_grocers (evening_of f) ≡ beside (suc f.lists) (place_grocers (job_of f))
  evening_grocers = grocers_list f.lists f

  pub list_spans : handed_in_range f ≡ true → ListSpans f
  list_spans ok = record {
    groups = λ a c. group_list f.lists f a c;
    grocers = evening_grocers;
    tallies = λ t a q h e k. tally_list f.lists f (range f ok) t a q h e k;
    added = λ know p a i q k. added_list f.lists f (range f ok) know p a i q k;
  }

  -- What code goes by, of the evening's job.
  pub evening_spans : handed_in_range f ≡ true → (t : StateTables) → totals_short (evening_of f) (state_lengths t) ≡ false → BySpans (evening_of f) t
  evening_spans ok t x = by_spans (evening_of f) (evening_range f ok) t x
