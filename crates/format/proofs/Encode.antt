-- Two jobs with the same words have one file. Assumes nothing.
use mathlib.Core.Path.{◌≡◌, ◌∙◌, ap, ap₂}
use mathlib.Core.List.{List, [], ◌∷◌}
use Prim.Native.Nat.{ℕ, ◌+◌, ◌*◌, ◌-◌, ◌/◌, ◌%◌, ◌<◌}
use native.Mathlib.Omega.{arith}
use lib.ListN.{get_or}
use Rattle.laws.specs.Tables.{tabulate}
use Rattle.laws.proofs.Bools.{split}
use Rattle.laws.proofs.Tables.{tabulate_cong}
use Rattle.format.specs.Codes.{Code, code_bytes}
use Rattle.format.specs.Job.{Head, FileJob, Offer, Tally}
use Rattle.format.specs.Blocks.{BlockKind, header, offer_block, grocer_block, price_block, tally_block, block_count, blocks, kind_at, records, record_size, header_bytes, offer_bytes, tally_bytes, record_bytes, spare}
use Rattle.format.specs.File.{record_byte, body_byte, block_byte, encode}
use Rattle.format.specs.Bytes.{bytes32}
use Rattle.format.proofs.Words.{first_cong, second_cong}
use Rattle.format.proofs.Read.{in_field}
use Rattle.format.proofs.Plan.{At, at_prices, kind_at_lem}
use Rattle.format.specs.Same.{SameCode, OfferWords, TallyWords, SameWords}

-- Codes with the same digits have the same eleven bytes.
pub code_bytes_lem : (a b : Code) → SameCode a b → code_bytes a ≡ code_bytes b
unfolding code_bytes
code_bytes_lem a b s = ap₂ ◌∷◌ s.size (tabulate_cong 10 a.digit b.digit s.digit)

offer_bytes_lem : (a b : Offer) → OfferWords a b → offer_bytes a ≡ offer_bytes b
unfolding offer_bytes
offer_bytes_lem a b s = rw (s.price, s.owner, s.issuer, code_bytes_lem a.code b.code s.code)

tally_bytes_lem : (a b : Tally) → TallyWords a b → tally_bytes a ≡ tally_bytes b
unfolding tally_bytes
tally_bytes_lem a b s = rw (s.grocer, s.box, s.count, s.issuer, s.bag, s.revision, code_bytes_lem a.code b.code s.code)

module _ (a b : FileJob) (s : SameWords a b) where
  record_bytes_lem : (n : ℕ) (z : BlockKind) → At b.head n z → (r : ℕ) → r < records b.head z → record_bytes a z r ≡ record_bytes b z r
  unfolding record_bytes
  record_bytes_lem n header at r h = ap header_bytes s.head
  record_bytes_lem n (offer_block k) at r h = offer_bytes_lem _ _ (s.offer (21 * k + r) (omega arith))
  record_bytes_lem n grocer_block at r h = ap (λ (x : ℕ). x ∷ []) (s.grocer_owner r h)
  record_bytes_lem n (price_block q k) (at_prices _ _ e l m) r h = ap bytes32 (s.list_price q (126 * k + r) l (omega arith))
  record_bytes_lem n (tally_block k) at r h = tally_bytes_lem _ _ (s.tally (21 * k + r) (omega arith))

  record_byte_lem : (n : ℕ) (z : BlockKind) → At b.head n z → (p : ℕ) → record_byte a z p ≡ record_byte b z p
  unfolding record_byte
  record_byte_lem n z at p =
      rw (ap (λ (h : Head). spare h z p) s.head)
      (split (spare b.head z p)
      (λ e. rw e)
      (λ e. rw e (ap (λ (l : List ℕ). get_or l (p % record_size z) 0) (record_bytes_lem n z at (p / record_size z) (in_field b.head z p e).0))))

  body_byte_lem : (k p : ℕ) → body_byte a k p ≡ body_byte b k p
  unfolding body_byte
  body_byte_lem k p =
      rw (record_byte_lem k (kind_at a.head k) (rw s.head (kind_at_lem b.head k)) (p - 4), s.head)

  block_byte_lem : (k p : ℕ) → block_byte (body_byte a k) p ≡ block_byte (body_byte b k) p
  unfolding block_byte
  block_byte_lem k p =
      rw (body_byte_lem k p, first_cong (body_byte a k) (body_byte b k) (λ q l. body_byte_lem k q), second_cong (body_byte a k) (body_byte b k) (λ q l. body_byte_lem k q))

  same_blocks : blocks a ≡ blocks b
  same_blocks = ap block_count s.head

  -- The file goes by the job's words.
  pub encode_same : encode a ≡ encode b
  unfolding encode
  encode_same =
      ap (λ (n : ℕ). tabulate (512 * n) (λ p. block_byte (body_byte a (p / 512)) (p % 512))) same_blocks
      ∙ tabulate_cong (512 * blocks b) _ _ (λ p l. block_byte_lem (p / 512) (p % 512))
