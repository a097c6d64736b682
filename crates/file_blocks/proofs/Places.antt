-- Records of a file by place. Assumes nothing.
use Prim.Native.Nat.{ℕ, ◌+◌, ◌*◌, ◌-◌, ◌≤◌, ◌<◌}
use mathlib.Core.Path.{◌≡◌, refl, sym, ap, ap₂}
use mathlib.Core.Bool.{false}
use mathlib.Core.List.{List}
use native.Mathlib.Omega.{arith}
use lib.ListN.{get_or}
use Rattle.format.specs.Bytes.{from, word32}
use Rattle.laws.specs.Below.{any}
use Rattle.laws.proofs.Below.{any_cong, any_false}
use Rattle.format.specs.Job.{Head, bad_offer, bad_owner, bad_price, bad_tally}
use Rattle.format.specs.Blocks.{header, offer_block, grocer_block, price_block, tally_block, grocers_at, list_at, tallies_at}
use Rattle.format.specs.Refusals.{bad_record}
use Rattle.format.specs.File.{read_offer, read_tally, record_at, price_at, decode}

-- Record i of block k, where the first block of its kind is block a.
record_at_lem : (a k i : ℕ) → a ≤ k → i < 21 → 512 * k + 4 + 24 * i ≡ record_at a (21 * (k - a) + i)
record_at_lem a k i l m = omega arith

-- Price i of block b of a list whose first block is block a.
price_at_lem : (a b k i : ℕ) → k ≡ a + b → i < 126 → 512 * k + 4 + 4 * i ≡ price_at a (126 * b + i)
price_at_lem a b k i e m = omega arith

-- No header record is bad.
pub header_in : (f : List ℕ) (n : ℕ) → false ≡ any n (bad_record (decode f) header)
unfolding bad_record
header_in f n = sym (any_false n _ (λ i l. refl))

-- The prices of block k, in the job's words.
pub prices_in : (f : List ℕ) (k n q b : ℕ) → k ≡ list_at (decode f).head q + b → n ≤ 126 →
    any n (λ i. bad_price (word32 (from f (512 * k + 4 + 4 * i)))) ≡ any n (bad_record (decode f) (price_block q b))
unfolding bad_record decode
prices_in f k n q b e m = any_cong n _ _ (λ i l. ap (λ (p : ℕ). bad_price (word32 (from f p))) (price_at_lem (list_at (decode f).head q) b k i e (omega arith)))

module _ (f : List ℕ) (h : Head) (is : h ≡ (decode f).head) (k n : ℕ) where
  -- The offers of block k, in the job's words,
  pub offers_in : 1 ≤ k → n ≤ 21 → any n (λ i. bad_offer h (read_offer (from f (512 * k + 4 + 24 * i)))) ≡ any n (bad_record (decode f) (offer_block (k - 1)))
  unfolding bad_record decode
  offers_in l m = any_cong n _ _ (λ i q. ap₂ (λ (x : Head) (p : ℕ). bad_offer x (read_offer (from f p))) is (record_at_lem 1 k i l (omega arith)))

  -- the owners of the grocers, in the grocer block,
  pub owners_in : k ≡ grocers_at (decode f).head → any n (λ i. bad_owner h (get_or f (512 * k + 4 + i) 0)) ≡ any n (bad_record (decode f) grocer_block)
  unfolding bad_record decode
  owners_in e = any_cong n _ _ (λ i q. ap₂ (λ (x : Head) (b : ℕ). bad_owner x (get_or f (512 * b + 4 + i) 0)) is e)

  -- and the tallies of block k.
  pub tallies_in : tallies_at (decode f).head ≤ k → n ≤ 21 →
      any n (λ i. bad_tally h (read_tally (from f (512 * k + 4 + 24 * i)))) ≡ any n (bad_record (decode f) (tally_block (k - tallies_at (decode f).head)))
  unfolding bad_record decode
  tallies_in l m = any_cong n _ _ (λ i q. ap₂ (λ (x : Head) (p : ℕ). bad_tally x (read_tally (from f p))) is (record_at_lem (tallies_at (decode f).head) k i l (omega arith)))
