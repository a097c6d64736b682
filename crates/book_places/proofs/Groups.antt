-- Where the classes of a box's grocers begin, in the counting sort, is where the groups of its packed totals begin. Assumes nothing.
use mathlib.Core.Path.{◌≡◌, sym, ap, ap₂, ◌∙◌}
use mathlib.Core.Bool.{Bool, ◌&&◌, not}
use mathlib.Core.List.{[]}
use Prim.Native.Nat.{ℕ, zero, suc, ◌+◌, ◌<◌, ◌≤◌}
use native.Mathlib.Omega.{arith}
use lib.Dec.{eqb}
use Rattle.laws.specs.Below.{naturals, sum, count}
use Rattle.laws.proofs.Below.{count_cong}
use Rattle.laws.proofs.Sums.{sum_cong}
use Rattle.laws.proofs.Tables.{word_in_lem}
use Rattle.model.specs.Job.{total_word}
use Rattle.model.specs.PackedTotals.{totals_start}
use Rattle.model.specs.Spans.{group_start}
use Rattle.model.specs.Tables.{JobTables, job_of}
use Rattle.book_sort.specs.Sort.{at, key_count, begin}
use Rattle.book_keys.specs.Keys.{class_of}
use Rattle.book_places.specs.Lists.{held_of}
use Rattle.book_places.proofs.Listing.{own_class, other_class}
use Rattle.book_places.proofs.Modelled.{shares_held}

-- The first term of a sum brought to the front.
sum_head : (n : ℕ) (f : ℕ → ℕ) → sum naturals (suc n) f ≡ f 0 + sum naturals n (λ d. f (suc d))
unfolding sum naturals
sum_head zero f = omega arith
sum_head (suc n) f = omega (arith, sum_head n f)

module _ (f : JobTables) (bare : f.tally_bag ≡ []) (b : ℕ) (hb : b < f.boxes) (key : ℕ → ℕ)
    (is : (x : ℕ) → x < f.grocers → key x ≡ class_of f.boxes b (at f.grocer_owner x) (held_of f.tally_grocer f.tally_box f.tallies b x)) where
  -- Class 0 is the box's own grocers,
  own_count : key_count key f.grocers 0 ≡ count f.grocers (λ g. eqb ((job_of f).grocer_owner g) b)
  unfolding key_count job_of
  own_count =
      count_cong f.grocers (λ x. eqb (key x) 0) (λ g. eqb ((job_of f).grocer_owner g) b) (λ x l.
      ap (λ (c : ℕ). eqb c 0) (is x l) ∙ own_class f.boxes b (at f.grocer_owner x) (held_of f.tally_grocer f.tally_box f.tallies b x)
      ∙ ap (λ (o : ℕ). eqb o b) (sym (word_in_lem f.grocers f.grocer_owner 0 x l)))

  -- and class c + 1 those of its message to box c.
  other_count : (c : ℕ) → c < f.boxes → key_count key f.grocers (suc c) ≡ count f.grocers (total_word (job_of f) b c)
  unfolding key_count total_word job_of
  other_count c lc =
      count_cong f.grocers (λ x. eqb (key x) (suc c)) (total_word (job_of f) b c) (λ x l.
      ap (λ (k : ℕ). eqb k (suc c)) (is x l) ∙ other_class f.boxes b (at f.grocer_owner x) c (held_of f.tally_grocer f.tally_box f.tallies b x) lc
      ∙ ap₂ (λ (o : ℕ) (h : Bool). eqb o c && (not (eqb o b) && h)) (sym (word_in_lem f.grocers f.grocer_owner 0 x l)) (sym (shares_held f bare b hb x)))

  -- So `starts` of the sort, behind the start of the box, has where each group begins.
  pub groups_are : (c : ℕ) → c ≤ f.boxes → totals_start (job_of f) b + begin key f.grocers (suc c) ≡ group_start (job_of f) b (suc c)
  unfolding begin group_start job_of
  groups_are c l =
      let others = sum_cong naturals c (λ d. key_count key f.grocers (suc d)) (λ d. count f.grocers (total_word (job_of f) b d)) (λ d k. other_count d (omega arith)) in
      omega (arith, sum_head c (key_count key f.grocers), own_count, others)
