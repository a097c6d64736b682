-- `forecast_doubles::moves::take_words` meets its contract: before word i the words before it are moved. Assumes nothing.
use Rattle.step_places.specs.Message.{word_in}
use Rattle.forecast_doubles.specs.Moves.{Moved}
use Rattle.forecast_doubles.proofs.moves.take_words.Given as goal

abbrev pub invariant-loop-i : goal.invariant-loop-i
invariant-loop-i l =
    Moved l.row l.i (word_in l.owner l.mask l.a l.b) l.initial.from l.initial.to l.from l.to
