-- `step_row::product_row` meets its contract. The invariant: the row has the box's words with the tallies passed added. Assumes nothing.
use mathlib.Core.Path.{◌≡◌}
use Prim.Native.Nat.{◌≤◌}
use Rattle.step_totals.specs.Row.{brings, placed}
use Rattle.step_row.specs.Row.{row_of}
use Rattle.step_row.proofs.product_row.Given as goal

abbrev pub invariant-loop-i : goal.invariant-loop-i
invariant-loop-i l =
    (l.i ≤ l.job.sizes.tallies) × (l.row ≡ row_of l.part.start l.part.len l.part.width l.q (placed l.i l.part.width l.tally_place
    (brings l.job.offer_owner.now l.job.tally_box.now l.job.tally_offer.now l.job.tally_count.now l.prices l.a l.from l.at l.part.width) l.working))
