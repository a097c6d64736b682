-- Tallies, and what multiplying adds to packed totals.
use Rattle.std.specs.Prelude.{◌≡◌, Bool, true, ◌&&◌, List, ℕ, suc, ◌+◌, ◌*◌, ◌/◌, ◌%◌, ◌≤◌, ◌<◌, length, get_or, eqb, ℤ, pos, nat_abs, ◌+ℤ◌, ◌*ℤ◌}
use Rattle.laws.specs.Below.{integers, sum, only}
use Rattle.laws.specs.Tables.{tabulate}
use Rattle.laws.specs.Limits.{max_boxes, max_offers, max_tallies, max_lists, max_price, max_count, max_amount}
use Rattle.model.specs.Ranges.{up_to, under, around}
use Rattle.step_links.specs.Links.{LinkedPairs}

-- The tables of tallies and the owners of their offers, with K, N and T.
pub record Tallies : Type 0 where
  pub boxes : ℕ
  pub offers : ℕ
  pub tallies : ℕ
  pub owner : List ℕ  -- of an offer
  pub place : List ℕ  -- of a tally's total
  pub holder : List ℕ  -- of a tally: its box
  pub offer : List ℕ  -- of a tally: the place of its offer
  pub counts : List ℤ  -- of a tally: its count

-- The same, as a contract names them.
abbrev pub tallies : ℕ → ℕ → ℕ → List ℕ → List ℕ → List ℕ → List ℕ → List ℤ → Tallies
tallies k n t owner place holder offer counts = record {
  boxes = k;
  offers = n;
  tallies = t;
  owner = owner;
  place = place;
  holder = holder;
  offer = offer;
  counts = counts;
}

-- The tables are long enough and their words in range. A tally's box may be any number: from K on it is held by nobody.
pub record TalliesIn (e : Tallies) : Type 0 where
  pub boxes_in : e.boxes ≤ max_boxes
  pub offers_in : e.offers ≤ max_offers
  pub tallies_in : e.tallies ≤ max_tallies
  pub owner_long_lem : e.offers ≤ length e.owner
  pub holder_long : e.tallies ≤ length e.holder
  pub offer_long_lem : e.tallies ≤ length e.offer
  pub count_long : e.tallies ≤ length e.counts
  pub owner_in : under e.boxes e.offers e.owner ≡ true
  pub offer_in : under e.offers e.tallies e.offer ≡ true
  pub count_in : around max_count e.tallies e.counts ≡ true

-- A table of prices, k rows of n words, is long enough and in range.
pub record PricesIn (k n : ℕ) (prices : List ℕ) : Type 0 where
  pub long : k * n ≤ length prices
  pub words_in : up_to max_price (k * n) prices ≡ true

-- Each tally has a place in a table of amounts, with as many amounts as there are price lists, all in range.
pub record PlacesIn (t width : ℕ) (place : List ℕ) (l : List ℤ) : Type 0 where
  pub long : t ≤ length place
  pub place_in : (i : ℕ) → i < t → get_or place i 0 * width + width ≤ length l
  pub word_in_lem : (i q : ℕ) → i < t → q < width → nat_abs (get_or l (get_or place i 0 * width + q) (pos 0)) ≤ max_amount

-- A list of amounts with x q added to word q of place e, of so many words a place.
unfoldable pub raised : ℕ → List ℤ → ℕ → (ℕ → ℤ) → List ℤ
raised width l e x = tabulate (length l) (λ p. get_or l p (pos 0) +ℤ only integers (eqb e (p / width)) (x (p % width)))

-- Tally i is box a's, and of an offer of box `from`.
abbrev pub is_taken : List ℕ → List ℕ → List ℕ → ℕ → ℕ → ℕ → Bool
is_taken owner holder offer a from i = eqb (get_or holder i 0) a && eqb (get_or owner (get_or offer i 0) 0) from

-- Count × price of tally i on list q, at the prices from a place on, of so many words an offer.
abbrev pub product_at : List ℕ → List ℤ → List ℕ → ℕ → ℕ → ℕ → ℕ → ℤ
product_at offer counts prices at width q i = get_or counts i (pos 0) *ℤ pos (get_or prices (at + get_or offer i 0 * width + q) 0)

-- What tally i brings to the row of box a on list q: that where it is taken, else nothing.
abbrev pub brings : List ℕ → List ℕ → List ℕ → List ℤ → List ℕ → ℕ → ℕ → ℕ → ℕ → ℕ → ℕ → ℤ
brings owner holder offer counts prices a from at width q i =
    only integers (is_taken owner holder offer a from i) (product_at offer counts prices at width q i)

-- Tally i of these tables, with prices from a place on, one for each price list.
pub record TallyIn (width : ℕ) (place offer : List ℕ) (counts : List ℤ) (prices : List ℕ) (at i : ℕ) : Type 0 where
  pub width_some : 1 ≤ width
  pub width_in : width ≤ suc max_lists
  pub place_long_lem : i < length place
  pub offer_long_lem : i < length offer
  pub count_long : i < length counts
  pub count_in : nat_abs (get_or counts i (pos 0)) ≤ max_count
  pub price_long_lem : (q : ℕ) → q < width → at + get_or offer i 0 * width + q < length prices
  pub price_in : (q : ℕ) → q < width → get_or prices (at + get_or offer i 0 * width + q) 0 ≤ max_price

-- What adding a count's products requires: a price and a word of place e for each price list, in range.
pub record ProductsIn (at e width : ℕ) (count : ℤ) (prices : List ℕ) (row : List ℤ) : Type 0 where
  pub width_some : 1 ≤ width
  pub width_in : width ≤ suc max_lists
  pub count_in : nat_abs count ≤ max_count
  pub price_long_lem : (q : ℕ) → q < width → at + q < length prices
  pub price_in : (q : ℕ) → q < width → get_or prices (at + q) 0 ≤ max_price
  pub row_long : (q : ℕ) → q < width → e * width + q < length row
  pub word_in_lem : (q : ℕ) → q < width → nat_abs (get_or row (e * width + q) (pos 0)) ≤ 2_000_000_000_000_000

-- The links are those of t tallies with these boxes, whose offers have these owners, each a box.
pub record TalliesLinked (t : ℕ) (owner holder offer links : List ℕ) : Type 0 where
  pub owner_in : (i : ℕ) → i < t → get_or owner (get_or offer i 0) 0 < max_boxes
  pub linked : LinkedPairs t holder offer owner links

-- What multiplying for box a into packed totals requires: n offers, t tallies, the price lists and box a in range, and each tally, with row a of the
-- prices, has a place in the table, with amounts in range.
pub record PlacedTallies (n width t a : ℕ) (place offer : List ℕ) (counts : List ℤ) (prices : List ℕ) (working : List ℤ) : Type 0 where
  pub offers_in : n ≤ max_offers
  pub width_some : 1 ≤ width
  pub width_in : width ≤ suc max_lists
  pub tallies_in : t ≤ max_tallies
  pub box_in : a < max_boxes
  pub places_in : PlacesIn t width place working
  pub tally_in : (i : ℕ) → i < t → TallyIn width place offer counts prices (a * (n * width)) i

-- A packed table once t tallies are added, what each brings on each price list at its place.
unfoldable pub placed : ℕ → ℕ → List ℕ → (ℕ → ℕ → ℤ) → List ℤ → List ℤ
placed t width place brought l =
    tabulate (length l) (λ p. get_or l p (pos 0) +ℤ sum integers t (λ i. only integers (eqb (get_or place i 0) (p / width)) (brought (p % width) i)))
