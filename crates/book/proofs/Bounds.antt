-- The words of the local book of every job: how many there are, and their ranges. Assumes nothing.
use mathlib.Core.Path.{◌≡◌, refl, sym, ap, ◌∙◌, subst}
use mathlib.Core.Bool.{Bool, true, ◌&&◌}
use mathlib.Core.List.{List}
use Prim.Native.Nat.{ℕ, suc, ◌+◌, ◌<◌, ◌≤◌}
use native.Mathlib.Omega.{arith}
use lib.Dec.{eqb}
use lib.ListN.{length, get_or, length-map}
use lib.IntN.{pos, nat_abs}
use borrow.Author.Tests.{eqb-true}
use Rattle.laws.specs.Below.{naturals, only, count, ascending}
use Rattle.laws.proofs.Bools.{split, and_r}
use Rattle.laws.proofs.Sums.{sum_le}
use Rattle.laws.proofs.Below.{counts_one, counts_none}
use Rattle.laws.proofs.Tables.{length_tabulate, get_d_tabulate}
use Rattle.laws.proofs.Ascending.{length-ascending, get_d_ascending, nth_passes}
use Rattle.model.specs.Job.{Job, held_by, needs, shares, price_word, total_word}
use Rattle.model.specs.LocalLists.{chained, local_offers, local_grocers, local_grocer}
use Rattle.model.specs.Local.{of_offer, start, starts, packed, packed_grocers, packed_counts}
use Rattle.book_sort.specs.Sort.{at, key_count, begin}
use Rattle.book_keys.specs.Keys.{number_in}
use Rattle.book_places.specs.Lists.{local_list}
use Rattle.book_sort.proofs.Extra.{length-chained, chained_at, sum_where, map_at}
use Rattle.book_sort.proofs.Placing.{begin_le}
use Rattle.book_places.proofs.Modelled.{list_le, list_in, list_once, number_is}

module _ (j : Job) (b : ℕ) where
  offers_list : local_offers j b ≡ local_list j.boxes j.offers j.offer_owner (λ o. needs j o b) b
  unfolding local_offers local_list price_word
  offers_list = refl

  grocers_list : local_grocers j b ≡ local_list j.boxes j.grocers j.grocer_owner (λ g. shares j g b) b
  unfolding local_grocers local_list total_word
  grocers_list = refl

  -- At most N local offers, each below N, no two alike,
  pub offers_few : length (local_offers j b) ≤ j.offers
  offers_few = rw offers_list (list_le j.boxes j.offers j.offer_owner (λ o. needs j o b) b)

  pub offer_below : (i : ℕ) → i < length (local_offers j b) → at (local_offers j b) i < j.offers
  offer_below = rw offers_list (list_in j.boxes j.offers j.offer_owner (λ o. needs j o b) b)

  offer_once : (i m : ℕ) → i < length (local_offers j b) → m < length (local_offers j b) → at (local_offers j b) i ≡ at (local_offers j b) m → i ≡ m
  offer_once = rw offers_list (list_once j.boxes j.offers j.offer_owner (λ o. needs j o b) b)

  -- and at most M local grocers, each below M.
  pub grocers_few : length (local_grocers j b) ≤ j.grocers
  grocers_few = rw grocers_list (list_le j.boxes j.grocers j.grocer_owner (λ g. shares j g b) b)

  pub grocer_below : (i : ℕ) → i < length (local_grocers j b) → at (local_grocers j b) i < j.grocers
  grocer_below = rw grocers_list (list_in j.boxes j.grocers j.grocer_owner (λ g. shares j g b) b)

  -- A tally of the local offer c has c for its key.
  abbrev key : ℕ → ℕ
  key t = number_in (local_offers j b) (length (local_offers j b)) (j.tally_offer t)

  key_is : (c t : ℕ) → c < length (local_offers j b) → of_offer j b c t ≡ true → eqb (key t) c ≡ true
  unfolding of_offer
  key_is c t l h = number_is (local_offers j b) (length (local_offers j b)) (j.tally_offer t) c offer_once l ∙ and_r (held_by j t b) _ h

  part_few : (c : ℕ) → c < length (local_offers j b) → count j.tallies (of_offer j b c) ≤ key_count key j.tallies c
  unfolding key_count count
  part_few c l =
      sum_le j.tallies (λ t. only naturals (of_offer j b c t) 1) (λ t. only naturals (eqb (key t) c) 1) (λ t m.
      split (of_offer j b c t)
      (λ e. omega (arith, counts_one e, counts_one (key_is c t l e)))
      (λ e. omega (arith, counts_none e)))

  -- Starts are at most T.
  pub start_few : (i : ℕ) → i ≤ length (local_offers j b) → start j b i ≤ j.tallies
  unfolding start begin
  start_few i h =
      omega (
        arith,
        sum_le i (λ c. count j.tallies (of_offer j b c)) (key_count key j.tallies) (λ c l. part_few c (omega arith)),
        begin_le key j.tallies i,
      )

  pub starts_long : length (starts j b) ≡ length (local_offers j b) + 1
  unfolding starts
  starts_long = omega (arith, length_tabulate (suc (length (local_offers j b))) (start j b))

  pub start_below : (i : ℕ) → i < length (starts j b) → at (starts j b) i ≤ j.tallies
  unfolding starts
  start_below i l =
      let m : i < suc (length (local_offers j b)) = omega (arith, starts_long) in
      rw (get_d_tabulate (suc (length (local_offers j b))) (start j b) i 0 m) (start_few i (omega arith))

-- What holds of the words of each list holds of those of the lists one behind the other.
chained-each : (P : ℕ → Type 0) (n : ℕ) (f : ℕ → List ℕ) → ((c : ℕ) → c < n → (i : ℕ) → i < length (f c) → P (at (f c) i)) →
    (i : ℕ) → i < length (chained n f) → P (at (chained n f) i)
chained-each P n f h i l =
    let (c, lc, k, lk, e) = sum_where n (λ c. length (f c)) i (rw (length-chained n f) at l) in
    subst P (sym (chained_at n f c k lc lk) ∙ ap (at (chained n f)) e) (h c lc k lk)

-- The numbers in an ascending list are below n and pass.
ascending-each : (n : ℕ) (p : ℕ → Bool) (i : ℕ) → i < length (ascending n p) → (at (ascending n p) i < n) × (p (at (ascending n p) i) ≡ true)
ascending-each n p i l = rw (get_d_ascending n p i) (nth_passes n p i (rw (length-ascending n p) at l))

module _ (j : Job) (b : ℕ) where
  abbrev Local : ℕ → Type 0
  Local t = local_grocer j b (j.tally_grocer t) < length (local_grocers j b)

  abbrev by_grocer : ℕ → ℕ → List ℕ
  by_grocer c d = ascending j.tallies (λ t. of_offer j b c t && eqb (local_grocer j b (j.tally_grocer t)) d)

  -- The grocer of a packed tally is a local one,
  packed_local_lem : (i : ℕ) → i < length (packed j b) → local_grocer j b (j.tally_grocer (at (packed j b) i)) < length (local_grocers j b)
  unfolding packed
  packed_local_lem =
      chained-each Local (length (local_offers j b)) (λ c. chained (length (local_grocers j b)) (by_grocer c)) (λ c lc.
      chained-each Local (length (local_grocers j b)) (by_grocer c) (λ d ld i l.
      let x = local_grocer j b (j.tally_grocer (at (by_grocer c d) i)) in
      let h = (ascending-each j.tallies (λ t. of_offer j b c t && eqb (local_grocer j b (j.tally_grocer t)) d) i l).1 in
      omega (arith, eqb-true x d (and_r (of_offer j b c (at (by_grocer c d) i)) (eqb x d) h))))

  pub grocers_long : length (packed_grocers j b) ≡ length (packed j b)
  unfolding packed_grocers
  grocers_long = length-map (packed j b) (λ t. local_grocer j b (j.tally_grocer t))

  pub packed_grocer_lem : (i : ℕ) → i < length (packed_grocers j b) → at (packed_grocers j b) i < length (local_grocers j b)
  unfolding packed_grocers
  packed_grocer_lem i l =
      let m : i < length (packed j b) = omega (arith, grocers_long) in
      rw (map_at (λ t. local_grocer j b (j.tally_grocer t)) (packed j b) i 0 m) (packed_local_lem i m)

  -- and its count is as large as the job's counts at most.
  pub counts_long : length (packed_counts j b) ≡ length (packed j b)
  unfolding packed_counts
  counts_long = length-map (packed j b) j.tally_count

  pub packed_count_lem : (m : ℕ) → ((t : ℕ) → nat_abs (j.tally_count t) ≤ m) → (i : ℕ) → i < length (packed_counts j b) → nat_abs (get_or (packed_counts j b) i (pos 0)) ≤ m
  unfolding packed_counts
  packed_count_lem m h i l = rw (map_at j.tally_count (packed j b) i (pos 0) (omega (arith, counts_long))) (h (at (packed j b) i))
