-- Blocks of 512 bytes: what block k of a job's file holds, and which of its bytes are spare.
use Rattle.std.specs.Prelude.{Bool, cond, ◌||◌, List, [], ◌∷◌, ◌++◌, ℕ, ◌+◌, ◌*◌, ◌-◌, ◌/◌, ◌%◌, min, leb, ltb}
use Rattle.std.specs.Int.{w32}
use Rattle.std.proofs.Common.{of_z}
use Rattle.laws.specs.Below.{naturals, sum}
use Rattle.format.specs.Bytes.{bytes16, bytes32}
use Rattle.format.specs.Codes.{code_bytes}
use Rattle.format.specs.Job.{Head, FileJob, Offer, Tally}

-- The kinds of block; an offer and a tally block with its place among those of its kind, a price block with its list and its place among the list's.
pub data BlockKind : Type 0 where
  header : BlockKind
  offer_block : ℕ → BlockKind
  grocer_block : BlockKind
  price_block : (list block : ℕ) → BlockKind
  tally_block : ℕ → BlockKind

-- Blocks for n records of 24 bytes, "21 a block", "each kind filled before its last block".
abbrev pub blocks_for : ℕ → ℕ
blocks_for n = (n + 20) / 21

-- Blocks for the prices of n offers on one list: "126 prices of four bytes a block; each list starts a new block" (02 §9).
abbrev pub list_blocks : ℕ → ℕ
list_blocks n = (n + 125) / 126

-- The plan of blocks: the header, "Then offer, grocer and tally blocks", and price blocks "after the grocer blocks". The first offer block is block 1.
abbrev pub offers_at : ℕ
offers_at = 1

-- The grocer block, after the offer blocks.
abbrev pub grocers_at : Head → ℕ
grocers_at h = offers_at + blocks_for h.offers

-- The first price block, after the one grocer block.
abbrev pub prices_at : Head → ℕ
prices_at h = grocers_at h + 1

-- The first price block of additional list q, of lists from 0.
abbrev pub list_at : Head → ℕ → ℕ
list_at h q = prices_at h + q * list_blocks h.offers

-- The first tally block, after the price blocks of all additional lists.
abbrev pub tallies_at : Head → ℕ
tallies_at h = prices_at h + h.lists * list_blocks h.offers

-- How many blocks a file has; "T = 0 has no tally block".
abbrev pub block_count : Head → ℕ
block_count h = tallies_at h + blocks_for h.tallies

-- How many blocks a job's file has.
abbrev pub blocks : FileJob → ℕ
blocks j = block_count j.head

-- What block k of a file is, by the plan.
unfoldable pub kind_at : Head → ℕ → BlockKind
kind_at h k =
    cond (ltb k offers_at) header
    (cond (ltb k (grocers_at h)) (offer_block (k - offers_at))
    (cond (ltb k (prices_at h)) grocer_block
    (cond (ltb k (tallies_at h)) (price_block ((k - prices_at h) / list_blocks h.offers) ((k - prices_at h) % list_blocks h.offers))
    (tally_block (k - tallies_at h)))))

-- "Byte 0 kind (0 header, 1 offers, 2 grocers, 3 tallies)"; "A new block kind 4" holds prices.
abbrev pub block_kind_number : BlockKind → ℕ
block_kind_number header = 0
block_kind_number (offer_block b) = 1
block_kind_number grocer_block = 2
block_kind_number (price_block q b) = 4
block_kind_number (tally_block b) = 3

-- "byte 1 number of records"
abbrev pub records : Head → BlockKind → ℕ
records h header = 1
records h (offer_block b) = min 21 (h.offers - 21 * b)
records h grocer_block = h.grocers
records h (price_block q b) = min 126 (h.offers - 126 * b)
records h (tally_block b) = min 21 (h.tallies - 21 * b)

-- "Offer and tally records have 24 bytes (21 a block), grocer records one byte"; the header's one record has all 504.
abbrev pub record_size : BlockKind → ℕ
record_size header = 504
record_size (offer_block b) = 24
record_size grocer_block = 1
record_size (price_block q b) = 4
record_size (tally_block b) = 24

-- The bytes of a record that its fields take, from its first byte on.
abbrev pub field_size : BlockKind → ℕ
field_size header = 11
field_size (offer_block b) = 18
field_size grocer_block = 1
field_size (price_block q b) = 4
field_size (tally_block b) = 24

-- "byte 4 K, byte 5 always 1, bytes 6–7 M, 8–9 N, 10–11 T"; "Header bytes 12–13 now hold the settlement cycle" (02 §1);
-- "Header byte 14 holds the number of additional lists" (02 §9).
unfoldable pub header_bytes : Head → List ℕ
header_bytes h = h.boxes ∷ 1 ∷ bytes16 h.grocers ++ bytes16 h.offers ++ bytes16 h.tallies ++ bytes16 h.cycle ++ h.lists ∷ []

-- "Offer: 0–3 price, 4 owner, 5 digit count, 6–15 digits"; "Offer bytes 16–17 and tally bytes 18–19 hold a 16-bit issuer" (02 §2).
unfoldable pub offer_bytes : Offer → List ℕ
offer_bytes o = bytes32 o.price ++ o.owner ∷ code_bytes o.code ++ bytes16 o.issuer

-- "Tally: 0–1 grocer, 2 box, 3 digit count, 4–13 digits, 14–17 count, signed 32-bit two's complement"; 18–19 issuer;
-- "Tally bytes 20–21 hold a bag and 22–23 a revision" (02 §3).
unfoldable pub tally_bytes : Tally → List ℕ
tally_bytes t =
    bytes16 t.grocer ++ t.box ∷ code_bytes t.code ++ bytes32 (of_z w32 t.count) ++ bytes16 t.issuer ++ bytes16 t.bag ++ bytes16 t.revision

-- The fields of record r of a block; "Grocer: owner."
unfoldable pub record_bytes : FileJob → BlockKind → ℕ → List ℕ
record_bytes j header r = header_bytes j.head
record_bytes j (offer_block b) r = offer_bytes (j.offer (21 * b + r))
record_bytes j grocer_block r = j.grocer_owner r ∷ []
record_bytes j (price_block q b) r = bytes32 (j.list_price q (126 * b + r))
record_bytes j (tally_block b) r = tally_bytes (j.tally (21 * b + r))

-- "A byte of 4–507 outside every field named here is spare and 0": byte 4 + s, past the block's records or past a record's fields.
unfoldable pub spare : Head → BlockKind → ℕ → Bool
spare h b s = leb (records h b) (s / record_size b) || leb (field_size b) (s % record_size b)

-- "The first sum is bytes 0–507 added modulo 65,521"
unfoldable pub first_sum : (ℕ → ℕ) → ℕ
first_sum g = sum naturals 508 g % 65521

-- "the second adds (508 − place) × byte, same modulus"
unfoldable pub second_sum : (ℕ → ℕ) → ℕ
second_sum g = sum naturals 508 (λ p. (508 - p) * g p) % 65521
