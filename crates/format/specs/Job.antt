-- A job as its file says it, and conditions 4 and 6 to 9 on it: the same for the reader and the writer.
use Rattle.std.specs.Prelude.{Bool, not, ◌||◌, [], ◌∷◌, ℕ, zero, suc, ◌<◌, leb, ltb, ℤ, nat_abs}
use Rattle.laws.specs.Below.{any, find}
use Rattle.laws.specs.Checks.{any_of}
use Rattle.laws.specs.Limits.{max_boxes, max_grocers, max_offers, max_tallies, max_lists, max_price, max_count}
use Rattle.recount.specs.Recount.{Counted}
use Rattle.format.specs.Codes.{Code, Name, name_of, is_code, same_offer}

-- An offer: its price in tenths of a cent, the box that owns it, its code, and its issuer, any 16-bit number.
pub record Offer : Type 0 where
  pub price : ℕ
  pub owner : ℕ
  pub code : Code
  pub issuer : ℕ

-- A tally: its grocer, the box that holds it, its offer's code, its count, its offer's issuer, its bag and the revision of its count.
-- Bag and revision are any 16-bit numbers.
pub record Tally : Type 0 where
  pub grocer : ℕ
  pub box : ℕ
  pub code : Code
  pub count : ℤ
  pub issuer : ℕ
  pub bag : ℕ
  pub revision : ℕ

-- The numbers of the header: boxes K, grocers M, offers N and tallies T, the settlement cycle, any 16-bit number, and the number of additional
-- price lists (02 §9).
pub record Head : Type 0 where
  pub boxes : ℕ
  pub grocers : ℕ
  pub offers : ℕ
  pub tallies : ℕ
  pub cycle : ℕ
  pub lists : ℕ

-- The same, as a contract names them.
abbrev pub head_of : (boxes grocers offers tallies cycle lists : ℕ) → Head
head_of k m n t c l = record { boxes = k; grocers = m; offers = n; tallies = t; cycle = c; lists = l }

-- A job: its head, and the tables of which the first N, M and T entries count. An offer has the price of the first list.
pub record FileJob : Type 0 where
  pub head : Head
  pub offer : ℕ → Offer
  pub grocer_owner : ℕ → ℕ
  pub list_price : ℕ → ℕ → ℕ  -- of an additional list, from 0, the price of an offer
  pub tally : ℕ → Tally

-- 4: "Boxes K: 1 to 16. Grocers M: 1 to 255. Offers N: 1 to 500. Tallies T: 0 to 1,000"; "byte 14 above 7 is condition 4" (02 §9).
unfoldable pub bad_sizes : Head → Bool
bad_sizes h =
    any_of (
    ltb h.boxes 1 ∷ ltb max_boxes h.boxes ∷
    ltb h.grocers 1 ∷ ltb max_grocers h.grocers ∷
    ltb h.offers 1 ∷ ltb max_offers h.offers ∷
    ltb max_tallies h.tallies ∷ ltb max_lists h.lists ∷ [])

-- 6 of an offer: "Price: 0 to 9,999,999", its owner below K, its code a code.
unfoldable pub bad_offer : Head → Offer → Bool
bad_offer h o = any_of (ltb max_price o.price ∷ leb h.boxes o.owner ∷ not (is_code o.code) ∷ [])

-- 6 of a grocer: its owner below K.
unfoldable pub bad_owner : Head → ℕ → Bool
bad_owner h o = leb h.boxes o

-- 6 of a tally: its grocer below M, its box below K, its code a code, "Count: −99,999 to 99,999".
unfoldable pub bad_tally : Head → Tally → Bool
bad_tally h t =
    any_of (
    leb h.grocers t.grocer ∷ leb h.boxes t.box ∷ not (is_code t.code) ∷
    ltb max_count (nat_abs t.count) ∷ [])

-- 6 of a price of an additional list.
unfoldable pub bad_price : ℕ → Bool
bad_price p = ltb max_price p

-- 6 of the whole job: one of its records.
unfoldable pub bad_records : FileJob → Bool
bad_records j =
    any j.head.offers (λ i. bad_offer j.head (j.offer i)) ||
    any j.head.grocers (λ i. bad_owner j.head (j.grocer_owner i)) ||
    any j.head.lists (λ q. any j.head.offers (λ i. bad_price (j.list_price q i))) ||
    any j.head.tallies (λ i. bad_tally j.head (j.tally i))

-- The price of offer i on list q: on the first the offer's own, then those of the additional lists.
unfoldable pub price_on : (ℕ → Offer) → (ℕ → ℕ → ℕ) → ℕ → ℕ → ℕ
price_on offer more zero i = (offer i).price
price_on offer more (suc q) i = more q i

-- The name of offer i.
abbrev pub offer_name : FileJob → ℕ → Name
offer_name j i = name_of (j.offer i).issuer (j.offer i).code

-- The name that tally t has for its offer.
abbrev pub tally_name : FileJob → ℕ → Name
tally_name j t = name_of (j.tally t).issuer (j.tally t).code

-- Tally t names offer i.
unfoldable pub names : FileJob → ℕ → ℕ → Bool
names j t i = same_offer (offer_name j i) (tally_name j t)

-- The place of tally t's offer, or N where it names none.
unfoldable pub place_of : FileJob → ℕ → ℕ
place_of j t = find j.head.offers (names j t)

-- 7: "two offers share a number", under one issuer.
unfoldable pub shared : FileJob → Bool
shared j = any j.head.offers (λ i. any i (λ k. same_offer (offer_name j k) (offer_name j i)))

-- 8: "a tally's code names no offer", under its issuer.
unfoldable pub unnamed : FileJob → Bool
unnamed j = any j.head.tallies (λ t. not (any j.head.offers (names j t)))

-- What the recount rule looks at in a job: of each tally its grocer, the place of its offer, its bag and its revision.
unfoldable pub counted_tallies : FileJob → Counted
counted_tallies j = record {
  size = j.head.tallies;
  grocer = λ t. (j.tally t).grocer;
  offer = place_of j;
  bag = λ t. (j.tally t).bag;
  revision = λ t. (j.tally t).revision;
}

-- The words of a job that may be any 16 bits are 16 bits: the cycle, the issuers, bags and revisions.
pub record Words16 (j : FileJob) : Type 0 where
  pub cycle : j.head.cycle < 65536
  pub offer_issuer : (i : ℕ) → i < j.head.offers → (j.offer i).issuer < 65536
  pub tally_issuer : (t : ℕ) → t < j.head.tallies → (j.tally t).issuer < 65536
  pub tally_bag : (t : ℕ) → t < j.head.tallies → (j.tally t).bag < 65536
  pub tally_revision : (t : ℕ) → t < j.head.tallies → (j.tally t).revision < 65536
