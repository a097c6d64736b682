-- What is due in a block, by its kind. Assumes nothing.
use Prim.Native.Nat.{ℕ, ◌+◌, ◌-◌, ◌≤◌}
use mathlib.Core.Path.{◌≡◌, refl, sym, ap, subst, ◌∙◌}
use native.Mathlib.Omega.{arith}
use Rattle.format.specs.Job.{Head}
use Rattle.format.specs.Blocks.{header, offer_block, grocer_block, price_block, tally_block, grocers_at, list_at, tallies_at, kind_at, block_kind_number, records}
use Rattle.file_blocks.specs.declared.kinds.BlockKind.{BlockKind}
use Rattle.file_blocks.specs.declared.kinds.BlockKind.TheVariants.{Header, Offers, Grocers, Tallies, Prices}
use Rattle.file_blocks.specs.Kinds.{kind_number}
use Rattle.file_blocks.specs.Due.{Due}
use Rattle.file_blocks.proofs.KindNumbers.{zero_is, one_is, two_is, four_is, three_is}

-- The header is due to have its one record.
pub due_header : (h : Head) → Due h 0 Header 1
unfolding kind_at
due_header h = record { kind = refl; count = refl; few = omega arith }

-- What was told of a block is due there.
pub due_found : {h h' : Head} {k : ℕ} {x : BlockKind} {n : ℕ} → h ≡ h' → kind_number x ≡ block_kind_number (kind_at h k) → (n ≡ records h (kind_at h k)) × (n ≤ 255) → Due h' k x n
due_found {k = k} {x = x} {n = n} e a b = subst (λ (z : Head). Due z k x n) e (record { kind = a; count = b.0; few = b.1 })

module _ {h : Head} {k : ℕ} {x : BlockKind} {n : ℕ} (d : Due h k x n) where
  -- The header.
  pub due_zero : x ≡ Header → kind_at h k ≡ header
  due_zero e = zero_is h k (sym d.kind ∙ ap kind_number e)

  -- An offer block.
  pub due_one : x ≡ Offers → (kind_at h k ≡ offer_block (k - 1)) × (1 ≤ k) × (n ≤ 21)
  due_one e =
      let q = one_is h k (sym d.kind ∙ ap kind_number e) in
      let c = d.count ∙ ap (records h) q.0 in
      (q.0, q.1, omega arith)

  -- The grocer block.
  pub due_two : x ≡ Grocers → (kind_at h k ≡ grocer_block) × (k ≡ grocers_at h)
  due_two e = two_is h k (sym d.kind ∙ ap kind_number e)

  -- A price block.
  pub due_four : x ≡ Prices → (q : ℕ) × (b : ℕ) × (kind_at h k ≡ price_block q b) × (k ≡ list_at h q + b) × (n ≤ 126)
  due_four e =
      let (q, b, i, p, m) = four_is h k (sym d.kind ∙ ap kind_number e) in
      let c = d.count ∙ ap (records h) i in
      (q, b, i, p, omega arith)

  -- A tally block.
  pub due_three : x ≡ Tallies → (kind_at h k ≡ tally_block (k - tallies_at h)) × (tallies_at h ≤ k) × (n ≤ 21)
  due_three e =
      let q = three_is h k (sym d.kind ∙ ap kind_number e) in
      let c = d.count ∙ ap (records h) q.0 in
      (q.0, q.1, omega arith)
