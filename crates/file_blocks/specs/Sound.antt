-- A file of which nothing is refused but 7, 8 and 9, the index of its offers, and the places of its tallies' offers.
use Rattle.std.specs.Prelude.{◌≡◌, true, false, List, [], ◌∷◌, ℕ, ◌<◌, ◌≤◌, length, get_or}
use Rattle.laws.specs.Checks.{first_met}
use Rattle.recount.specs.Recount.{counted_twice}
use Rattle.format.specs.Codes.{is_code, name_number}
use Rattle.format.specs.Job.{Head, FileJob, offer_name, shared, unnamed, counted_tallies}
use Rattle.format.specs.File.{decode}
use Rattle.file_blocks.specs.Fills.{Whole, Placed}
use Rattle.index.specs.Index.{IsIndex, shares_number}
use Rattle.index_lookup.specs.Digits.{TopsOf}
use Rattle.file_blocks.specs.declared.look.OfferIndex.{OfferIndex}

-- The file is as long as its header says, no number of it is above its largest, and its codes are codes.
pub record Sound (f : List ℕ) (h : Head) : Type 0 where
  pub whole : Whole f h
  pub offer : (i : ℕ) → i < h.offers → is_code ((decode f).offer i).code ≡ true
  pub tally : (t : ℕ) → t < h.tallies → is_code ((decode f).tally t).code ≡ true

-- The index of a file's offers, by the numbers of their names.
pub record Indexed (f keys order : List ℕ) (h : Head) : Type 0 where
  pub numbers : List ℕ
  pub index : IsIndex keys order numbers h.offers
  pub right : (i : ℕ) → i < h.offers → get_or numbers i 0 ≡ name_number (offer_name (decode f) i)

-- The index of a sound file's offers, no two of which share a name, and where its top digits begin.
pub record Ready (f : List ℕ) (o : OfferIndex) (h : Head) : Type 0 where
  pub sound : Sound f h
  pub keys_long : h.offers ≤ length o.keys.now
  pub order_long : h.offers ≤ length o.order.now
  pub indexed : Indexed f o.keys.now o.order.now h
  pub apart : shares_number indexed.numbers h.offers ≡ false
  pub tops : TopsOf o.tops o.keys.now h.offers

-- A file that is not refused is sound, and the place of each tally's offer is kept.
pub record Kept (f places : List ℕ) : Type 0 where
  pub sound : Sound f (decode f).head
  pub placed : Placed (decode f) places (decode f).head.tallies

-- 7, where it is met, and then 8,
unfoldable pub names_refusal : FileJob → ℕ
names_refusal j = first_met ((shared j, 7) ∷ (unnamed j, 8) ∷ [])

-- and then 9.
unfoldable pub last_refusal : FileJob → ℕ
last_refusal j = first_met ((shared j, 7) ∷ (unnamed j, 8) ∷ (counted_twice (counted_tallies j), 9) ∷ [])
