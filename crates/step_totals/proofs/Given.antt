-- What the calls require follows from the checks 20 and 21 on the tables as lent. Assumes nothing.
use mathlib.Core.Path.{◌≡◌}
use mathlib.Core.Bool.{true}
use mathlib.Core.List.{List}
use Prim.Native.Nat.{ℕ}
use Rattle.model.specs.Tables.{JobTables, job_lengths}
use Rattle.model.specs.Handed.{handed_in_range}
use Rattle.step_totals.specs.Row.{TalliesIn}
use Rattle.model.proofs.Lent.{JobLong}
use Rattle.model.proofs.Step.{job_in_lem}
use Rattle.step_totals.proofs.Effect.{tallies_of}

-- The tables of tallies of a job that is lent whole and in range, with the places of their totals.
pub tallies_given : (f : JobTables) (places : List ℕ) → JobLong f.grocers f.offers f.tallies f.lists (job_lengths f) → handed_in_range f ≡ true → TalliesIn (tallies_of f places)
unfolding job_lengths
tallies_given f places l ok =
    let w = job_in_lem f ok in
    record {
      boxes_in = w.boxes≤;
      offers_in = w.offers≤;
      tallies_in = w.tallies≤;
      owner_long_lem = l.offer_owner;
      holder_long = l.tally_box;
      offer_long_lem = l.tally_offer;
      count_long = l.tally_count;
      owner_in = w.offer_owner;
      offer_in = w.tally_offer;
      count_in = w.tally_count;
    }
