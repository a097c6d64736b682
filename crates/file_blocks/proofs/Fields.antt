-- Tables filled with the bytes and words of records have the fields of the offers and tallies that the file says. Assumes nothing.
use mathlib.Core.Path.{◌≡◌, ap, ◌∙◌}
use mathlib.Core.List.{List}
use Prim.Native.Nat.{ℕ, ◌+◌}
use lib.IntN.{ℤ}
use lib.ListN.{get_or}
use mir.Syntax.{w32}
use mir.Val.{to_z}
use Rattle.laws.specs.Tables.{overwrite}
use Rattle.format.specs.Bytes.{from, after, word16, word32}
use Rattle.format.specs.Codes.{read_code}
use Rattle.format.specs.Blocks.{offers_at, tallies_at}
use Rattle.format.specs.File.{read_offer, read_tally, record_at, decode}
use Rattle.format.specs.Tables.{store_codes}

-- The offers': owners,
module _ (f old : List ℕ) {new : List ℕ} (n : ℕ) where
  pub offer_owners_lem : new ≡ overwrite n (λ i. get_or f (record_at offers_at i + 4) 0) old → new ≡ overwrite n (λ i. ((decode f).offer i).owner) old
  unfolding decode read_offer
  offer_owners_lem w = w

  -- codes
  pub offer_codes : new ≡ store_codes n (λ i. read_code (after (from f (record_at offers_at i)) 5)) old → new ≡ store_codes n (λ i. ((decode f).offer i).code) old
  unfolding decode read_offer
  offer_codes w = w

  -- and issuers.
  pub offer_issuers : new ≡ overwrite n (λ i. word16 (after (from f (record_at offers_at i)) 16)) old → new ≡ overwrite n (λ i. ((decode f).offer i).issuer) old
  unfolding decode read_offer
  offer_issuers w = w

-- The tallies', whose first block is the one that the header says: grocers,
module _ (f old : List ℕ) {new : List ℕ} (n : ℕ) {first : ℕ} (e : first ≡ tallies_at (decode f).head) where
  pub tally_grocers_lem : new ≡ overwrite n (λ i. word16 (after (from f (record_at first i)) 0)) old → new ≡ overwrite n (λ i. ((decode f).tally i).grocer) old
  unfolding decode read_tally
  tally_grocers_lem w = w ∙ ap (λ (k : ℕ). overwrite n (λ i. word16 (after (from f (record_at k i)) 0)) old) e

  -- boxes,
  pub tally_boxes : new ≡ overwrite n (λ i. get_or f (record_at first i + 2) 0) old → new ≡ overwrite n (λ i. ((decode f).tally i).box) old
  unfolding decode read_tally
  tally_boxes w = w ∙ ap (λ (k : ℕ). overwrite n (λ i. get_or f (record_at k i + 2) 0) old) e

  -- codes,
  pub tally_codes : new ≡ store_codes n (λ i. read_code (after (from f (record_at first i)) 3)) old → new ≡ store_codes n (λ i. ((decode f).tally i).code) old
  unfolding decode read_tally
  tally_codes w = w ∙ ap (λ (k : ℕ). store_codes n (λ i. read_code (after (from f (record_at k i)) 3)) old) e

  -- issuers,
  pub tally_issuers : new ≡ overwrite n (λ i. word16 (after (from f (record_at first i)) 18)) old → new ≡ overwrite n (λ i. ((decode f).tally i).issuer) old
  unfolding decode read_tally
  tally_issuers w = w ∙ ap (λ (k : ℕ). overwrite n (λ i. word16 (after (from f (record_at k i)) 18)) old) e

  -- bags,
  pub tally_bags : new ≡ overwrite n (λ i. word16 (after (from f (record_at first i)) 20)) old → new ≡ overwrite n (λ i. ((decode f).tally i).bag) old
  unfolding decode read_tally
  tally_bags w = w ∙ ap (λ (k : ℕ). overwrite n (λ i. word16 (after (from f (record_at k i)) 20)) old) e

  -- revisions
  pub tally_revisions : new ≡ overwrite n (λ i. word16 (after (from f (record_at first i)) 22)) old → new ≡ overwrite n (λ i. ((decode f).tally i).revision) old
  unfolding decode read_tally
  tally_revisions w = w ∙ ap (λ (k : ℕ). overwrite n (λ i. word16 (after (from f (record_at k i)) 22)) old) e

-- and counts.
pub tally_counts_lem : (f : List ℕ) (old : List ℤ) {new : List ℤ} (n : ℕ) {first : ℕ} → first ≡ tallies_at (decode f).head →
    new ≡ overwrite n (λ i. to_z w32 (word32 (after (from f (record_at first i)) 14))) old → new ≡ overwrite n (λ i. ((decode f).tally i).count) old
unfolding decode read_tally
tally_counts_lem f old n e w = w ∙ ap (λ (k : ℕ). overwrite n (λ i. to_z w32 (word32 (after (from f (record_at k i)) 14))) old) e
