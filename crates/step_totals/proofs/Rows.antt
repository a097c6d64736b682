-- Tallies as the calls require them, and words raised. Assumes nothing.
use mathlib.Core.Path.{◌≡◌, sym, ap, ◌∙◌}
use mathlib.Core.Bool.{Bool, true, ◌&&◌}
use mathlib.Core.List.{List}
use Prim.Native.Nat.{ℕ, ◌+◌, ◌*◌, ◌/◌, ◌%◌, ◌<◌, ◌≤◌}
use native.Mathlib.Nat.{le_trans, mod-lt, div-add-mod'}
use native.Mathlib.Omega.{arith}
use lib.Dec.{eqb}
use lib.ListN.{length, get_or}
use lib.IntN.{ℤ, pos, ◌+ℤ◌}
use borrow.Author.Tests.{eqb-true}
use Rattle.laws.specs.Below.{integers, sum, only}
use Rattle.laws.proofs.Bools.{split}
use Rattle.laws.proofs.Entries.{pair_same}
use Rattle.laws.proofs.Loops.{share}
use Rattle.laws.proofs.Sums.{sum_cong, sum_pick}
use Rattle.laws.proofs.Tables.{cell_in, length_tabulate, get_d_tabulate, is_tabulate}
use Rattle.step_links.specs.Links.{LinkedPairs}
use Rattle.step_totals.specs.Row.{Tallies, TalliesIn, PricesIn, PlacesIn, TallyIn, PlacedTallies, TalliesLinked, raised}
use Rattle.model.proofs.Step.{under_at, up_at, around_at}

module _ (width : ℕ) (l : List ℤ) (e : ℕ) where
  pub length-raised : (x : ℕ → ℤ) → length (raised width l e x) ≡ length l
  unfolding raised
  length-raised x = length_tabulate (length l) (λ p. get_or l p (pos 0) +ℤ only integers (eqb e (p / width)) (x (p % width)))

  pub raised_word : (x : ℕ → ℤ) (p : ℕ) → p < length l → get_or (raised width l e x) p (pos 0) ≡ get_or l p (pos 0) +ℤ only integers (eqb e (p / width)) (x (p % width))
  unfolding raised
  raised_word x p h = get_d_tabulate (length l) (λ p. get_or l p (pos 0) +ℤ only integers (eqb e (p / width)) (x (p % width))) p (pos 0) h

  -- What is brought where the test holds.
  pub raised_by : (t : Bool) (x : ℕ → ℤ) → t ≡ true → raised width l e x ≡ raised width l e (λ q. only integers t (x q))
  unfolding only integers
  raised_by t x h = rw h

  -- Of the words of place e, that of the word's list is added to a word.
  module _ (some : 1 ≤ width) (x : ℕ → ℤ) (p : ℕ) where
    one_list : (q : ℕ) → q < width → share (λ q. e * width + q) x p q ≡ only integers (eqb (p % width) q && eqb e (p / width)) (x (p % width))
    unfolding only integers
    one_list q h =
        ap (λ (k : ℕ). only integers (eqb (e * width + q) k) (x q)) (sym (div-add-mod' p width))
        ∙ ap (λ (b : Bool). only integers b (x q)) (pair_same width e (p / width) q (p % width) h (mod-lt p some))
        ∙ split (eqb (p % width) q)
        (λ k. ap (λ (y : ℕ). only integers (eqb (p % width) q && eqb e (p / width)) (x y)) (sym (eqb-true (p % width) q k)))
        (λ k. rw k)

    pub all_lists : sum integers width (share (λ q. e * width + q) x p) ≡ only integers (eqb e (p / width)) (x (p % width))
    all_lists =
        sum_cong integers width (share (λ q. e * width + q) x p) (λ q. only integers (eqb (p % width) q && eqb e (p / width)) (x (p % width))) one_list
        ∙ sum_pick integers width (p % width) (eqb e (p / width)) (x (p % width)) (mod-lt p some)

  -- A list to which the words of place e were added, list by list.
  pub raised_is : (l' : List ℤ) (x : ℕ → ℤ) → 1 ≤ width → length l' ≡ length l → ((p : ℕ) → get_or l' p (pos 0) ≡ get_or l p (pos 0) +ℤ sum integers width (share (λ q. e * width + q) x p)) → l' ≡ raised width l e x
  unfolding raised
  raised_is l' x some same each =
      is_tabulate l' (length l) (λ p. get_or l p (pos 0) +ℤ only integers (eqb e (p / width)) (x (p % width))) (pos 0) same (λ p h.
      each p ∙ ap (λ (z : ℤ). get_or l p (pos 0) +ℤ z) (all_lists some x p))

-- Each tally, with a place and with prices in row a of a table of prices.
pub each_tally : (e : Tallies) (width : ℕ) (prices : List ℕ) (a : ℕ) → 1 ≤ width → width ≤ 8 → TalliesIn e → PricesIn e.boxes (e.offers * width) prices → e.tallies ≤ length e.place → a < e.boxes →
    (i : ℕ) → i < e.tallies → TallyIn width e.place e.offer e.counts prices (a * (e.offers * width)) i
each_tally e width prices a some lists h p long la i l =
    let at : (q : ℕ) → q < width → a * (e.offers * width) + get_or e.offer i 0 * width + q < e.boxes * (e.offers * width) = λ q m.
    omega (arith, cell_in a e.boxes (e.offers * width) (get_or e.offer i 0 * width + q) la (cell_in (get_or e.offer i 0) e.offers width q (under_at e.offers e.tallies e.offer i h.offer_in l) m)) in
    record {
      width_some = some;
      width_in = lists;
      place_long_lem = le_trans l long;
      offer_long_lem = le_trans l h.offer_long_lem;
      count_long = le_trans l h.count_long;
      count_in = around_at 99_999 e.tallies e.counts i h.count_in l;
      price_long_lem = λ q m. le_trans (at q m) p.long;
      price_in = λ q m. up_at 9_999_999 (e.boxes * (e.offers * width)) prices (a * (e.offers * width) + get_or e.offer i 0 * width + q) p.words_in (at q m);
    }

-- Tallies with places in a table of packed totals, and prices in row a of a table of prices.
pub placed-tallies : (e : Tallies) (width : ℕ) (prices : List ℕ) (working : List ℤ) (a : ℕ) → 1 ≤ width → width ≤ 8 → TalliesIn e → PricesIn e.boxes (e.offers * width) prices →
    PlacesIn e.tallies width e.place working → a < e.boxes → PlacedTallies e.offers width e.tallies a e.place e.offer e.counts prices working
placed-tallies e width prices working a some lists h p w la = record {
  offers_in = h.offers_in;
  width_some = some;
  width_in = lists;
  tallies_in = h.tallies_in;
  box_in = le_trans la h.boxes_in;
  places_in = w;
  tally_in = each_tally e width prices a some lists h p w.long la;
}

-- The owner of a tally's offer is a box, and so links by pairs are those of the tallies.
pub pairs_linked : (e : Tallies) (holder links : List ℕ) → TalliesIn e → LinkedPairs e.tallies holder e.offer e.owner links → TalliesLinked e.tallies e.owner holder e.offer links
pairs_linked e holder links h l = record {
  owner_in = λ i q. le_trans (under_at e.boxes e.offers e.owner (get_or e.offer i 0) h.owner_in (under_at e.offers e.tallies e.offer i h.offer_in q)) h.boxes_in;
  linked = l;
}
