-- `file_blocks::by_place::fill_by` meets its contract. The invariant: the first i words are read. Assumes nothing.
use Rattle.file_blocks.specs.ByPlace.{FilledBy}
use Rattle.file_blocks.proofs.by_place.fill_by.Given as goal

abbrev pub invariant-loop-i : goal.invariant-loop-i
invariant-loop-i g l =
    FilledBy (goal.F-post g l.read) l.i l.initial.word-items l.word-items
