-- Tables that are whole and in range have columns that `bag_standing` takes, and what it strikes are the standing boxes. Assumes nothing.
use mathlib.Core.Path.{◌≡◌}
use mathlib.Core.Bool.{true, false}
use mathlib.Core.List.{List}
use Prim.Native.Nat.{ℕ}
use native.Mathlib.Omega.{arith}
use Rattle.model.specs.Tables.{JobTables, counted_of, job_lengths, job_short, bags_short}
use Rattle.model.specs.Ranges.{job_in_range}
use Rattle.model.specs.Handed.{Standing}
use Rattle.model.proofs.Step.{job_in_lem, in_handed, under_at}
use Rattle.model.proofs.Lent.{job_long, bags_long}
use Rattle.index.specs.Bags.{Struck}
use Rattle.bag_standing.specs.Columns.{Columns}

module _ (f : JobTables) where
  -- What `bag_standing::standing_boxes` asks for.
  pub columns_in : job_short f (job_lengths f) ≡ false → bags_short f (job_lengths f) ≡ false → job_in_range f ≡ true →
      Columns f.tallies f.tally_grocer f.tally_offer f.tally_bag f.tally_revision
  unfolding job_lengths
  columns_in whole bags ok =
      let l = job_long f (job_lengths f) whole in
      let g = bags_long f (job_lengths f) bags in
      let w = job_in_lem f (in_handed f ok) in
      record {
        few = w.tallies≤;
        grocers = l.tally_grocer;
        offers = l.tally_offer;
        bags = g.tally_bag;
        revisions = g.tally_revision;
        place = λ t m. omega (arith, under_at f.offers f.tallies f.tally_offer t w.tally_offer m, w.offers≤);
      }

  -- What it gives: the boxes that inner calls are handed.
  pub standing_boxes : (boxes : List ℕ) → Struck (counted_of f) f.tallies f.tally_box boxes → Standing f boxes
  standing_boxes boxes s = record { long = s.long; each = s.each }
