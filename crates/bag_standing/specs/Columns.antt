-- Columns of tables of tallies.
use Rattle.std.specs.Prelude.{Bool, not, List, ℕ, ◌<◌, ◌≤◌, eqb, get_or, length}
use Rattle.laws.specs.Below.{any}
use Rattle.recount.specs.Recount.{Counted, columns}
use Rattle.bag_standing.specs.declared.Counts.{Counts}

-- Tables of n tallies, with places of offers below 512.
pub record Columns (n : ℕ) (grocer offer bag revision : List ℕ) : Type 0 where
  pub few : n ≤ 1000
  pub grocers : n ≤ length grocer
  pub offers : n ≤ length offer
  pub bags : n ≤ length bag
  pub revisions : n ≤ length revision
  pub place : (t : ℕ) → t < n → get_or offer t 0 < 512

-- Some of the first n bags is not 0.
unfoldable pub any_bag : List ℕ → ℕ → Bool
any_bag bags n = any n (λ t. not (eqb (get_or bags t 0) 0))

-- The columns of lent counts are such tables,
abbrev pub InColumns : Counts → Type 0
InColumns c = Columns c.count c.grocer.now c.offer.now c.bag.now c.revision.now

-- and these are the counts in them.
abbrev pub counted : Counts → Counted
counted c = columns c.count c.grocer.now c.offer.now c.bag.now c.revision.now
