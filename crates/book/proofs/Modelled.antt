-- The lists, starts and packed tallies of a box, from tables without bags, are the model's. Assumes nothing.
use mathlib.Core.Path.{◌≡◌, sym, ap, ◌∙◌, subst}
use mathlib.Core.Bool.{Bool, true, false, ◌&&◌}
use mathlib.Core.List.{List, []}
use Prim.Native.Nat.{ℕ, suc, ◌<◌, ◌≤◌}
use native.Mathlib.Omega.{arith}
use lib.Dec.{eqb}
use lib.ListN.{length, get_or, length-map}
use lib.IntN.{ℤ, pos}
use borrow.Author.Tests.{ne_eqb}
use Rattle.laws.specs.Below.{naturals, count, find, ascending}
use Rattle.laws.proofs.Bools.{split, and_l, and_comm}
use Rattle.laws.proofs.Sums.{sum_cong}
use Rattle.laws.proofs.Below.{find_cong}
use Rattle.laws.specs.Tables.{overwrite}
use Rattle.laws.proofs.Tables.{overwrite_cong, overwrite_as, length_tabulate, get_d_tabulate, word_in_lem}
use Rattle.laws.proofs.Ascending.{ascending_cong, length-ascending}
use Rattle.model.specs.Job.{Job, held_by}
use Rattle.model.specs.Tables.{JobTables, job_of}
use Rattle.model.specs.LocalLists.{chained, local_offers, local_grocers, local_grocer}
use Rattle.model.specs.Local.{of_offer, start, starts, packed, packed_grocers, packed_counts}
use Rattle.book_sort.specs.Sort.{at, in_front}
use Rattle.book_places.specs.Lists.{held_of}
use Rattle.book_keys.specs.Keys.{number_in, tally_key}
use Rattle.book_order.specs.Twice.{PackLent, pack_words, packed_part, packed_tallies, packed_start}
use Rattle.book.specs.Pack.{packed_number, packed_count}
use Rattle.book_sort.proofs.Extra.{chained_cong, length-chained, map_at, count_keys}
use Rattle.book_places.proofs.Modelled.{list_once, number_is, held_word, offers_are, has_place}
use Rattle.book_order.proofs.Packing.{at_front}
use Rattle.book_order.proofs.Twice.{length_packed, packed_in}

-- ---- Where each of the box's tallies has a local grocer, the packed list has them all.

module _ (j : Job) (b : ℕ) (has : (t : ℕ) → t < j.tallies → held_by j t b ≡ true → local_grocer j b (j.tally_grocer t) < length (local_grocers j b)) where
  pub part_whole : (c : ℕ) →
      length (chained (length (local_grocers j b)) (λ d. ascending j.tallies (λ t. of_offer j b c t && eqb (local_grocer j b (j.tally_grocer t)) d))) ≡ count j.tallies (of_offer j b c)
  unfolding of_offer
  part_whole c =
      length-chained (length (local_grocers j b)) (λ d. ascending j.tallies (λ t. of_offer j b c t && eqb (local_grocer j b (j.tally_grocer t)) d))
      ∙ sum_cong naturals (length (local_grocers j b)) (λ d. length (ascending j.tallies (λ t. of_offer j b c t && eqb (local_grocer j b (j.tally_grocer t)) d)))
      (λ d. count j.tallies (λ t. of_offer j b c t && eqb (local_grocer j b (j.tally_grocer t)) d))
      (λ d l. length-ascending j.tallies (λ t. of_offer j b c t && eqb (local_grocer j b (j.tally_grocer t)) d))
      ∙ count_keys j.tallies (length (local_grocers j b)) (of_offer j b c) (λ t. local_grocer j b (j.tally_grocer t)) (λ t l e. has t l (and_l _ _ e))

  pub packed_whole_lem : length (packed j b) ≡ start j b (length (local_offers j b))
  unfolding packed start
  packed_whole_lem =
      length-chained (length (local_offers j b)) (λ c. chained (length (local_grocers j b)) (λ d. ascending j.tallies (λ t. of_offer j b c t && eqb (local_grocer j b (j.tally_grocer t)) d)))
      ∙ sum_cong naturals (length (local_offers j b))
      (λ c. length (chained (length (local_grocers j b)) (λ d. ascending j.tallies (λ t. of_offer j b c t && eqb (local_grocer j b (j.tally_grocer t)) d))))
      (λ c. count j.tallies (of_offer j b c)) (λ c l. part_whole c)

-- ---- The packed tallies, from the lists as they stand in front of their tables.

module _ (f : JobTables) (bare : f.tally_bag ≡ []) (b : ℕ) (hb : b < f.boxes) (list rest : List ℕ) (l : ℕ)
    (list_is : list ≡ in_front (local_offers (job_of f) b) rest) (l-is : l ≡ length (local_offers (job_of f) b)) where
  abbrev key : ℕ → ℕ
  key = tally_key f.tally_box f.tally_offer list l b

  offer_at : (i : ℕ) → i < l → at list i ≡ at (local_offers (job_of f) b) i
  offer_at i h = ap (λ (s : List ℕ). at s i) list_is ∙ at_front (local_offers (job_of f) b) rest i (omega arith)

  -- No offer stands twice.
  offer_once : (i m : ℕ) → i < l → m < l → at list i ≡ at list m → i ≡ m
  offer_once i m hi hm e =
      let s = offers_are f bare b hb in
      list_once f.boxes f.offers (at f.offer_owner) (held_of f.tally_offer f.tally_box f.tallies b) b i m
      (omega (arith, ap length s)) (omega (arith, ap length s)) (rw s (sym (offer_at i hi) ∙ e ∙ offer_at m hm))

  -- A tally has the key c just where it is one of the box's tallies of the local offer c.
  key_of : (c t : ℕ) → c < l → t < f.tallies → eqb (key t) c ≡ of_offer (job_of f) b c t
  unfolding tally_key of_offer job_of
  key_of c t hc ht =
      split (eqb (at f.tally_box t) b)
      (λ q. rw (held_word f bare b hb t ht, q, word_in_lem f.tallies f.tally_offer 0 t ht)
      (number_is list l (at f.tally_offer t) c offer_once hc ∙ ap (eqb (at f.tally_offer t)) (offer_at c hc)))
      (λ q. rw (held_word f bare b hb t ht, q) (ne_eqb l c (λ e. omega arith)))

  module _ (names more : List ℕ) (g : ℕ) (names-are : names ≡ in_front (local_grocers (job_of f) b) more) (g-is : g ≡ length (local_grocers (job_of f) b)) where
    name_at : (i : ℕ) → i < g → at names i ≡ at (local_grocers (job_of f) b) i
    name_at i h = ap (λ (s : List ℕ). at s i) names-are ∙ at_front (local_grocers (job_of f) b) more i (omega arith)

    -- The local number of a grocer is the model's.
    number_model : (x : ℕ) → number_in names g x ≡ local_grocer (job_of f) b x
    unfolding number_in local_grocer
    number_model x =
        find_cong g (λ i. eqb (at names i) x) (λ i. eqb (at (local_grocers (job_of f) b) i) x) (λ i h. ap (λ (v : ℕ). eqb v x) (name_at i h))
        ∙ ap (λ (n : ℕ). find n (λ i. eqb (at (local_grocers (job_of f) b) i) x)) g-is

    -- What packing is lent.
    abbrev lent : PackLent
    lent = pack_words f.tally_grocer f.tally_box f.tally_offer f.tallies b list l names g

    abbrev grocer_of : ℕ → ℕ
    grocer_of t = local_grocer (job_of f) b ((job_of f).tally_grocer t)

    -- The first key of a tally that the box holds is its local grocer.
    grocer_key : (t : ℕ) → t < f.tallies → eqb (at f.tally_box t) b ≡ true → tally_key f.tally_box f.tally_grocer names g b t ≡ grocer_of t
    unfolding tally_key job_of
    grocer_key t ht q = rw q (number_model (at f.tally_grocer t) ∙ ap (local_grocer (job_of f) b) (sym (word_in_lem f.tallies f.tally_grocer 0 t ht)))

    not_held : (c t : ℕ) → t < f.tallies → eqb (at f.tally_box t) b ≡ false → of_offer (job_of f) b c t ≡ false
    unfolding of_offer
    not_held c t ht q = rw (held_word f bare b hb t ht, q)

    -- Both keys say what the model asks.
    both_keys : (c d t : ℕ) → c < l → t < f.tallies →
        (eqb (tally_key f.tally_box f.tally_grocer names g b t) d && eqb (key t) c) ≡ (of_offer (job_of f) b c t && eqb (grocer_of t) d)
    both_keys c d t hc ht =
        and_comm (eqb (tally_key f.tally_box f.tally_grocer names g b t) d) (eqb (key t) c)
        ∙ ap (λ (u : Bool). u && eqb (tally_key f.tally_box f.tally_grocer names g b t) d) (key_of c t hc ht)
        ∙ split (eqb (at f.tally_box t) b)
        (λ q. ap (λ (x : ℕ). of_offer (job_of f) b c t && eqb x d) (grocer_key t ht q))
        (λ q. rw (not_held c t ht q))

    abbrev model_part : ℕ → List ℕ
    model_part c = chained (length (local_grocers (job_of f) b)) (λ d. ascending f.tallies (λ t. of_offer (job_of f) b c t && eqb (grocer_of t) d))

    part_model : (c : ℕ) → c < l → packed_part lent c ≡ model_part c
    unfolding packed_part
    part_model c hc =
        chained_cong g (λ d. ascending f.tallies (λ t. eqb (tally_key f.tally_box f.tally_grocer names g b t) d && eqb (key t) c))
        (λ d. ascending f.tallies (λ t. of_offer (job_of f) b c t && eqb (grocer_of t) d))
        (λ d hd. ascending_cong f.tallies (λ t. eqb (tally_key f.tally_box f.tally_grocer names g b t) d && eqb (key t) c) (λ t. of_offer (job_of f) b c t && eqb (grocer_of t) d) (λ t ht. both_keys c d t hc ht))
        ∙ ap (λ (n : ℕ). chained n (λ d. ascending f.tallies (λ t. of_offer (job_of f) b c t && eqb (grocer_of t) d))) g-is

    -- The packed tallies are the model's,
    packed_model : packed_tallies lent ≡ packed (job_of f) b
    unfolding packed_tallies packed job_of
    packed_model = chained_cong l (packed_part lent) model_part part_model ∙ ap (λ (n : ℕ). chained n model_part) l-is

    packed_length_lem : packed_start lent l ≡ length (packed (job_of f) b)
    packed_length_lem = sym (length_packed lent) ∙ ap length packed_model

    tally_in : (i : ℕ) → i < length (packed (job_of f) b) → at (packed (job_of f) b) i < f.tallies
    tally_in i h = subst (λ (s : List ℕ). at s i < f.tallies) packed_model (packed_in lent i (omega (arith, packed_length_lem)))

    -- with the local grocers
    pub grocers_model : (n : ℕ) (old : List ℕ) → n ≡ packed_start lent l →
        overwrite n (packed_number names g f.tally_grocer (packed_tallies lent)) old ≡ in_front (packed_grocers (job_of f) b) old
    unfolding in_front packed_grocers packed_number job_of
    grocers_model n old e =
        overwrite_as n (length (packed_grocers (job_of f) b)) (packed_number names g f.tally_grocer (packed_tallies lent)) (at (packed_grocers (job_of f) b)) old
        (e ∙ packed_length_lem ∙ sym (length-map (packed (job_of f) b) grocer_of))
        (λ i h. let small : i < length (packed (job_of f) b) = omega (arith, length-map (packed (job_of f) b) grocer_of) in
        ap (λ (s : List ℕ). number_in names g (at f.tally_grocer (at s i))) packed_model
        ∙ number_model (at f.tally_grocer (at (packed (job_of f) b) i))
        ∙ ap (local_grocer (job_of f) b) (sym (word_in_lem f.tallies f.tally_grocer 0 (at (packed (job_of f) b) i) (tally_in i small)))
        ∙ sym (map_at grocer_of (packed (job_of f) b) i 0 small))

    -- and counts of the model.
    pub counts_model : (n : ℕ) (old : List ℤ) → n ≡ packed_start lent l →
        overwrite n (packed_count f.tally_count (packed_tallies lent)) old ≡ overwrite (length (packed_counts (job_of f) b)) (λ i. get_or (packed_counts (job_of f) b) i (pos 0)) old
    unfolding packed_counts packed_count job_of
    counts_model n old e =
        overwrite_as n (length (packed_counts (job_of f) b)) (packed_count f.tally_count (packed_tallies lent)) (λ i. get_or (packed_counts (job_of f) b) i (pos 0)) old
        (e ∙ packed_length_lem ∙ sym (length-map (packed (job_of f) b) (job_of f).tally_count))
        (λ i h. let small : i < length (packed (job_of f) b) = omega (arith, length-map (packed (job_of f) b) (job_of f).tally_count) in
        ap (λ (s : List ℕ). get_or f.tally_count (at s i) (pos 0)) packed_model
        ∙ sym (word_in_lem f.tallies f.tally_count (pos 0) (at (packed (job_of f) b) i) (tally_in i small))
        ∙ sym (map_at (job_of f).tally_count (packed (job_of f) b) i (pos 0) small))

    -- In range each of the box's tallies has a local grocer, and so a place.
    module _ (owners : (x : ℕ) → x < f.grocers → at f.grocer_owner x < f.boxes) (items : (t : ℕ) → t < f.tallies → at f.tally_grocer t < f.grocers) where
      start_model : (i : ℕ) → i ≤ l → packed_start lent i ≡ start (job_of f) b i
      unfolding packed_start start job_of
      start_model i h =
          sum_cong naturals i (λ c. length (packed_part lent c)) (λ c. count f.tallies (of_offer (job_of f) b c))
          (λ c hc. ap length (part_model c (omega arith)) ∙ part_whole (job_of f) b (has_place f bare b hb owners items) c)

      -- The starts are the model's.
      pub starts_model : (old : List ℕ) → overwrite (suc l) (packed_start lent) old ≡ in_front (starts (job_of f) b) old
      unfolding in_front starts
      starts_model old =
          overwrite_cong (suc l) (packed_start lent) (at (starts (job_of f) b)) old
          (λ i h. start_model i (omega arith) ∙ sym (get_d_tabulate (suc (length (local_offers (job_of f) b))) (start (job_of f) b) i 0 (omega arith)))
          ∙ ap (λ (n : ℕ). overwrite n (at (starts (job_of f) b)) old) (ap suc l-is ∙ sym (length_tabulate (suc (length (local_offers (job_of f) b))) (start (job_of f) b)))

      -- The number of places is the number of the box's tallies.
      pub total_model : packed_start lent l ≡ start (job_of f) b (length (local_offers (job_of f) b))
      total_model = start_model l (omega arith) ∙ ap (start (job_of f) b) l-is
