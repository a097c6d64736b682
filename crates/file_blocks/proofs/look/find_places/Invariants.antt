-- `file_blocks::look::find_places` meets its contract. The invariant: the first i tallies name offers, whose places are kept. Assumes nothing.
use mathlib.Core.Path.{◌≡◌}
use mathlib.Core.Bool.{false}
use Rattle.format.specs.File.{decode}
use Rattle.file_blocks.specs.Fills.{Placed}
use Rattle.file_blocks.proofs.Looked.{unnamed_below}
use Rattle.file_blocks.proofs.look.find_places.Given as goal

abbrev pub invariant-loop-i : goal.invariant-loop-i
invariant-loop-i l =
    (unnamed_below (decode l.file.bytes.now) l.i ≡ false) × Placed (decode l.file.bytes.now) l.places l.i
