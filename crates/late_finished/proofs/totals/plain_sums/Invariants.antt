-- `late_finished::totals::plain_sums` meets its contract: the sums are those of the tallies passed. Assumes nothing.
use mathlib.Core.Path.{◌≡◌}
use Prim.Native.Nat.{ℕ, ◌<◌}
use lib.IntN.{pos}
use lib.ListN.{get_or, length}
use Rattle.late_finished.specs.Tests.{sum_by}
use Rattle.late_finished.proofs.totals.plain_sums.Given as goal

abbrev pub invariant-loop-i : goal.invariant-loop-i
invariant-loop-i l =
    (length l.sums ≡ 255) × ((g : ℕ) → g < 255 → get_or l.sums g (pos 0) ≡ sum_by l.job.sizes.boxes l.i l.job.tally_box.now l.job.tally_grocer.now l.job.tally_offer.now l.job.tally_count.now l.job.price.now l.at g)
