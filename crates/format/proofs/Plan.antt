-- The plan of blocks: which block holds what. Assumes nothing.
use mathlib.Core.Path.{◌≡◌, refl, ap}
use Prim.Native.Nat.{ℕ, ◌+◌, ◌-◌, ◌*◌, ◌/◌, ◌%◌, ◌<◌, ◌≤◌}
use native.Mathlib.Omega.{arith}
use native.Mathlib.Decide.{dec_lt}
use native.Mathlib.Nat.{div-add-mod', div-lt_iff_lt-mul, mod-lt}
use lib.Arith.{digits_div, digits_mod}
use lib.ListN.{length}
use borrow.Author.Tests.{lt-ltb, le-ltb}
use Rattle.laws.specs.Tables.{tabulate}
use Rattle.laws.proofs.Tables.{pos_right, cell_in}
use Rattle.format.specs.Codes.{code_bytes}
use Rattle.format.specs.Job.{Head, FileJob}
use Rattle.format.specs.Blocks.{BlockKind, header, offer_block, grocer_block, price_block, tally_block, blocks_for, list_blocks, offers_at}
use Rattle.format.specs.Blocks.{grocers_at, prices_at, tallies_at, kind_at, field_size, header_bytes, offer_bytes, tally_bytes, record_bytes}

-- Where a block of a kind stands.
pub data At (h : Head) (k : ℕ) : BlockKind → Type 0 where
  at_header : k ≡ 0 → At h k header
  at_offers : (b : ℕ) → k ≡ offers_at + b → b < blocks_for h.offers → At h k (offer_block b)
  at_grocers : k ≡ grocers_at h → At h k grocer_block
  at_prices : (q b : ℕ) → k ≡ prices_at h + (q * list_blocks h.offers + b) → q < h.lists → b < list_blocks h.offers → At h k (price_block q b)
  at_tallies : (b : ℕ) → k ≡ tallies_at h + b → At h k (tally_block b)

-- Every block stands where the plan has it.
pub kind_at_lem : (h : Head) (k : ℕ) → At h k (kind_at h k)
unfolding kind_at
kind_at_lem h k =
    elim (dec_lt k offers_at) [
      | yes a ↦ rw (lt-ltb k offers_at a) (at_header (omega arith))
      | no a ↦ elim (dec_lt k (grocers_at h)) [
        | yes b ↦ rw (le-ltb k offers_at (omega (arith, a)), lt-ltb k (grocers_at h) b) (at_offers (k - offers_at) (omega (arith, a)) (omega (arith, a)))
        | no b ↦ elim (dec_lt k (prices_at h)) [
          | yes c ↦ rw (le-ltb k offers_at (omega (arith, a)), le-ltb k (grocers_at h) (omega (arith, b)), lt-ltb k (prices_at h) c) (at_grocers (omega (arith, b)))
          | no c ↦ elim (dec_lt k (tallies_at h)) [
            | yes d ↦ rw (le-ltb k offers_at (omega (arith, a)), le-ltb k (grocers_at h) (omega (arith, b)), le-ltb k (prices_at h) (omega (arith, c)), lt-ltb k (tallies_at h) d)
                (at_prices _ _ (whole k (omega (arith, c))) (list_of k (omega (arith, c)) d) (block_of k (omega (arith, c)) d))
            | no d ↦ rw (le-ltb k offers_at (omega (arith, a)), le-ltb k (grocers_at h) (omega (arith, b)), le-ltb k (prices_at h) (omega (arith, c)), le-ltb k (tallies_at h) (omega (arith, d)))
                (at_tallies (k - tallies_at h) (omega (arith, d)))
          ]
        ]
      ]
    ]
  where
    -- A price block is told by its list and its place in the list.
    whole : (k : ℕ) → prices_at h ≤ k → k ≡ prices_at h + ((k - prices_at h) / list_blocks h.offers * list_blocks h.offers + (k - prices_at h) % list_blocks h.offers)
    whole k l = omega (arith, div-add-mod' (k - prices_at h) (list_blocks h.offers))

    inside : (k : ℕ) → prices_at h ≤ k → k < tallies_at h → k - prices_at h < h.lists * list_blocks h.offers
    inside k l m = omega arith

    some : (k : ℕ) → prices_at h ≤ k → k < tallies_at h → 0 < list_blocks h.offers
    some k l m = pos_right h.lists (list_blocks h.offers) (k - prices_at h) (inside k l m)

    list_of : (k : ℕ) → prices_at h ≤ k → k < tallies_at h → (k - prices_at h) / list_blocks h.offers < h.lists
    list_of k l m = (div-lt_iff_lt-mul (some k l m)).1 (inside k l m)

    block_of : (k : ℕ) → prices_at h ≤ k → k < tallies_at h → (k - prices_at h) % list_blocks h.offers < list_blocks h.offers
    block_of k l m = mod-lt (k - prices_at h) (some k l m)

-- Block 0 is the header.
pub kind_header : (h : Head) → kind_at h 0 ≡ header
unfolding kind_at
kind_header h = refl

-- Offer block b of the plan.
pub kind_offers : (h : Head) (b : ℕ) → b < blocks_for h.offers → kind_at h (offers_at + b) ≡ offer_block b
unfolding kind_at
kind_offers h b l = rw (le-ltb (offers_at + b) offers_at (omega arith), lt-ltb (offers_at + b) (grocers_at h) (omega arith)) (ap offer_block (omega arith))

-- The grocer block.
pub kind_grocers : (h : Head) → kind_at h (grocers_at h) ≡ grocer_block
unfolding kind_at
kind_grocers h = rw (le-ltb (grocers_at h) offers_at (omega arith), le-ltb (grocers_at h) (grocers_at h) (omega arith), lt-ltb (grocers_at h) (prices_at h) (omega arith))

-- Price block b of list q.
pub kind_prices : (h : Head) (q b : ℕ) → q < h.lists → b < list_blocks h.offers → kind_at h (prices_at h + (q * list_blocks h.offers + b)) ≡ price_block q b
unfolding kind_at
kind_prices h q b l m =
    let k = prices_at h + (q * list_blocks h.offers + b) in
    let e : k - prices_at h ≡ q * list_blocks h.offers + b = omega arith in
    let i = cell_in q h.lists (list_blocks h.offers) b l m in
    rw (le-ltb k offers_at (omega arith), le-ltb k (grocers_at h) (omega arith), le-ltb k (prices_at h) (omega arith), lt-ltb k (tallies_at h) (omega (arith, i)))
    (rw (e, digits_div q m, digits_mod q m))

-- Its blocks are within the plan.
pub prices_in : (h : Head) (q b : ℕ) → q < h.lists → b < list_blocks h.offers → prices_at h + (q * list_blocks h.offers + b) < tallies_at h
prices_in h q b l m = omega (arith, cell_in q h.lists (list_blocks h.offers) b l m)

-- Tally block b of the plan.
pub kind_tallies : (h : Head) (b : ℕ) → kind_at h (tallies_at h + b) ≡ tally_block b
unfolding kind_at
kind_tallies h b =
    let k = tallies_at h + b in
    let e : k - tallies_at h ≡ b = omega arith in
    rw (le-ltb k offers_at (omega arith), le-ltb k (grocers_at h) (omega arith), le-ltb k (prices_at h) (omega arith), le-ltb k (tallies_at h) (omega arith)) (ap tally_block e)

-- The fields of a record take the bytes that the plan says.
pub fields_length : (j : FileJob) (b : BlockKind) (r : ℕ) → length (record_bytes j b r) ≡ field_size b
unfolding record_bytes header_bytes offer_bytes tally_bytes code_bytes tabulate
fields_length j header r = refl
fields_length j (offer_block b) r = refl
fields_length j grocer_block r = refl
fields_length j (price_block q b) r = refl
fields_length j (tally_block b) r = refl

-- The blocks of one list are at most four.
pub list_few : {n : ℕ} → n ≤ 500 → list_blocks n ≤ 4
list_few h = omega arith
