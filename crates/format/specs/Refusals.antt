-- The refusals of the reader and of the writer, each as its list in order: "The first condition met in this order is always the one refused."
use Rattle.std.specs.Prelude.{Bool, false, not, ◌&&◌, ◌||◌, List, [], ◌∷◌, ℕ, ◌+◌, ◌*◌, ◌-◌, ◌%◌, ltb, eqb, get_or, length}
use Rattle.laws.specs.Below.{any}
use Rattle.laws.specs.Checks.{any_of, first_met}
use Rattle.recount.specs.Recount.{counted_twice}
use Rattle.format.specs.First.{first_of, first_below}
use Rattle.format.specs.Bytes.{from, after, word16}
use Rattle.format.specs.Job.{Head, FileJob, bad_sizes, bad_offer, bad_owner, bad_price, bad_tally, bad_records, shared, unnamed, counted_tallies}
use Rattle.format.specs.Blocks.{BlockKind, header, offer_block, grocer_block, price_block, tally_block, blocks, kind_at, block_kind_number, records}
use Rattle.format.specs.Blocks.{spare, first_sum, second_sum}
use Rattle.format.specs.File.{decode}

-- 1: "length 0, not a multiple of 512", over 102 blocks: "The longest file now has 102 blocks" (02 §9).
unfoldable pub bad_length : List ℕ → Bool
bad_length f = any_of (eqb (length f) 0 ∷ not (eqb (length f % 512) 0) ∷ ltb (512 * 102) (length f) ∷ [])

-- 1: "(after 5 on the header) not the header's block count".
unfoldable pub bad_count : List ℕ → Bool
bad_count f = not (eqb (length f) (512 * blocks (decode f)))

-- 2: "sums differ". "Both are compared as stored." g: the bytes of the block.
unfoldable pub sums_differ : (ℕ → ℕ) → Bool
sums_differ g = any_of (not (eqb (first_sum g) (word16 (after g 508))) ∷ not (eqb (second_sum g) (word16 (after g 510))) ∷ [])

-- 3: "kind, block number or record count not as due".
unfoldable pub not_due : Head → ℕ → (ℕ → ℕ) → Bool
not_due h k g =
    let b = kind_at h k in
    any_of (not (eqb (g 0) (block_kind_number b)) ∷ not (eqb (word16 (after g 2)) k) ∷ not (eqb (g 1) (records h b)) ∷ [])

-- 4: "byte 5, K, M, N or T outside its values", and byte 14.
unfoldable pub bad_header : List ℕ → Bool
bad_header f = not (eqb (get_or f 5 0) 1) || bad_sizes (decode f).head

-- 5: "a spare byte not 0".
unfoldable pub spare_used : Head → ℕ → (ℕ → ℕ) → Bool
spare_used h k g = any 504 (λ s. spare h (kind_at h k) s && not (eqb (g (4 + s)) 0))

-- 6 of record r of a block.
unfoldable pub bad_record : FileJob → BlockKind → ℕ → Bool
bad_record j header r = false
bad_record j (offer_block b) r = bad_offer j.head (j.offer (21 * b + r))
bad_record j grocer_block r = bad_owner j.head (j.grocer_owner r)
bad_record j (price_block q b) r = bad_price (j.list_price q (126 * b + r))
bad_record j (tally_block b) r = bad_tally j.head (j.tally (21 * b + r))

-- The header's refusal: 2, 3, 4, 5.
unfoldable pub header_refusal : List ℕ → ℕ
header_refusal f =
    let h = (decode f).head in
    let g = from f 0 in
    first_met ((sums_differ g, 2) ∷ (not_due h 0 g, 3) ∷ (bad_header f, 4) ∷ (spare_used h 0 g, 5) ∷ [])

-- The refusal of another block: 2, 3, 5, 6.
unfoldable pub block_refusal : List ℕ → ℕ → ℕ
block_refusal f k =
    let j = decode f in
    let h = j.head in
    let g = from f (512 * k) in
    let b = kind_at h k in
    first_met ((sums_differ g, 2) ∷ (not_due h k g, 3) ∷ (spare_used h k g, 5) ∷ (any (records h b) (bad_record j b), 6) ∷ [])

-- "The reader checks 20 first, then 1, the header, the block count, other blocks ascending, then 7, 8"; 9 is "checked after 8" (02 §3). 20 is in Tables.
unfoldable pub file_refusal : List ℕ → ℕ
file_refusal f =
    let j = decode f in
    first_of (
    first_met ((bad_length f, 1) ∷ []) ∷
    header_refusal f ∷
    first_met ((bad_count f, 1) ∷ []) ∷
    first_below (blocks j - 1) (λ k. block_refusal f (1 + k)) ∷
    first_met ((shared j, 7) ∷ (unnamed j, 8) ∷ (counted_twice (counted_tallies j), 9) ∷ []) ∷ [])

-- "The writer checks 20, 4, 6, 7, 8", then 9. 20 is in Tables.
unfoldable pub job_refusal : FileJob → ℕ
job_refusal j =
    first_met ((bad_sizes j.head, 4) ∷ (bad_records j, 6) ∷ (shared j, 7) ∷ (unnamed j, 8) ∷ (counted_twice (counted_tallies j), 9) ∷ [])
