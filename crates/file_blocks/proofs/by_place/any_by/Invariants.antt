-- `file_blocks::by_place::any_by` meets its contract. The invariant: the first i places are tested. Assumes nothing.
use Rattle.file_blocks.specs.ByPlace.{AnyBy}
use Rattle.file_blocks.proofs.by_place.any_by.Given as goal

abbrev pub invariant-loop-i : goal.invariant-loop-i
invariant-loop-i g l =
    AnyBy (goal.F-post g l.test) l.i l.found
