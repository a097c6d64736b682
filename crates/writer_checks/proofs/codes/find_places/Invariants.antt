-- `writer_checks::codes::find_places` meets its contract. The invariant: the first i tallies name offers, whose places are kept. Assumes nothing.
use mathlib.Core.Path.{◌≡◌}
use mathlib.Core.Bool.{false}
use lib.ListN.{length}
use Rattle.format.specs.Job.{FileJob}
use Rattle.file_blocks.specs.Fills.{Placed}
use Rattle.file_blocks.proofs.Looked.{unnamed_below}
use Rattle.writer_checks.specs.Held.{FindsBy}
use Rattle.writer_checks.proofs.codes.find_places.Given as goal

abbrev pub invariant-loop-i : goal.invariant-loop-i
invariant-loop-i l =
    (length l.places ≡ length l.initial.places) × ((j : FileJob) → FindsBy j l.tables l.keys l.order → (unnamed_below j l.i ≡ false) × Placed j l.places l.i)
