-- `forecast_doubles::moves::copy_words` meets its contract: before word i the words before it are copied. Assumes nothing.
use Rattle.step_places.specs.Message.{word_in}
use Rattle.forecast_doubles.specs.Moves.{Copied}
use Rattle.forecast_doubles.proofs.moves.copy_words.Given as goal

abbrev pub invariant-loop-i : goal.invariant-loop-i
invariant-loop-i l =
    Copied l.at l.row l.i (word_in l.owner l.mask l.a l.b) l.from l.initial.to l.to
