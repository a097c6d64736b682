-- What a block's kind number says of the block. Assumes nothing.
use Prim.Native.Nat.{ℕ, ◌+◌, ◌-◌, ◌≤◌, ◌<◌}
use mathlib.Core.Path.{◌≡◌, refl, ap}
use native.Mathlib.Omega.{arith}
use Rattle.format.specs.Job.{Head}
use Rattle.format.specs.Blocks.{BlockKind, header, offer_block, grocer_block, price_block, tally_block, list_blocks, grocers_at, list_at, tallies_at, kind_at, block_kind_number}
use Rattle.format.proofs.Plan.{At, at_offers, at_grocers, at_prices, at_tallies, kind_at_lem}

-- 0 is the header's.
pub zero_is : (h : Head) (k : ℕ) → block_kind_number (kind_at h k) ≡ 0 → kind_at h k ≡ header
zero_is h k e = go (kind_at h k) e
  where
    go : (b : BlockKind) → block_kind_number b ≡ 0 → b ≡ header
    go header e = refl
    go (offer_block b) e = absurd (omega arith)
    go grocer_block e = absurd (omega arith)
    go (price_block q b) e = absurd (omega arith)
    go (tally_block b) e = absurd (omega arith)

-- 1 is an offer block's.
pub one_is : (h : Head) (k : ℕ) → block_kind_number (kind_at h k) ≡ 1 → (kind_at h k ≡ offer_block (k - 1)) × (1 ≤ k)
one_is h k e = go (kind_at h k) (kind_at_lem h k) e
  where
    go : (b : BlockKind) → At h k b → block_kind_number b ≡ 1 → (b ≡ offer_block (k - 1)) × (1 ≤ k)
    go header a e = absurd (omega arith)
    go (offer_block b) (at_offers _ q _) e = (ap offer_block (omega arith), omega arith)
    go grocer_block a e = absurd (omega arith)
    go (price_block q b) a e = absurd (omega arith)
    go (tally_block b) a e = absurd (omega arith)

-- 2 is the grocer block's.
pub two_is : (h : Head) (k : ℕ) → block_kind_number (kind_at h k) ≡ 2 → (kind_at h k ≡ grocer_block) × (k ≡ grocers_at h)
two_is h k e = go (kind_at h k) (kind_at_lem h k) e
  where
    go : (b : BlockKind) → At h k b → block_kind_number b ≡ 2 → (b ≡ grocer_block) × (k ≡ grocers_at h)
    go header a e = absurd (omega arith)
    go (offer_block b) a e = absurd (omega arith)
    go grocer_block (at_grocers q) e = (refl, q)
    go (price_block q b) a e = absurd (omega arith)
    go (tally_block b) a e = absurd (omega arith)

-- 4 is a price block's: block b of list q.
pub four_is : (h : Head) (k : ℕ) → block_kind_number (kind_at h k) ≡ 4 → (q : ℕ) × (b : ℕ) × (kind_at h k ≡ price_block q b) × (k ≡ list_at h q + b) × (b < list_blocks h.offers)
four_is h k e = go (kind_at h k) (kind_at_lem h k) e
  where
    go : (x : BlockKind) → At h k x → block_kind_number x ≡ 4 → (q : ℕ) × (b : ℕ) × (x ≡ price_block q b) × (k ≡ list_at h q + b) × (b < list_blocks h.offers)
    go header a e = absurd (omega arith)
    go (offer_block b) a e = absurd (omega arith)
    go grocer_block a e = absurd (omega arith)
    go (price_block q b) (at_prices _ _ p l m) e = (q, b, refl, omega (arith, p), m)
    go (tally_block b) a e = absurd (omega arith)

-- 3 is a tally block's.
pub three_is : (h : Head) (k : ℕ) → block_kind_number (kind_at h k) ≡ 3 → (kind_at h k ≡ tally_block (k - tallies_at h)) × (tallies_at h ≤ k)
three_is h k e = go (kind_at h k) (kind_at_lem h k) e
  where
    go : (b : BlockKind) → At h k b → block_kind_number b ≡ 3 → (b ≡ tally_block (k - tallies_at h)) × (tallies_at h ≤ k)
    go header a e = absurd (omega arith)
    go (offer_block b) a e = absurd (omega arith)
    go grocer_block a e = absurd (omega arith)
    go (price_block q b) a e = absurd (omega arith)
    go (tally_block b) (at_tallies _ q) e = (ap tally_block (omega arith), omega arith)
