-- `forecast_doubles::moves::zero_words` meets its contract: before word i the words before it are done. Assumes nothing.
use Rattle.forecast_doubles.specs.Moves.{Zeroed, summed_in}
use Rattle.forecast_doubles.proofs.moves.zero_words.Given as goal

abbrev pub invariant-loop-i : goal.invariant-loop-i
invariant-loop-i l =
    Zeroed l.row l.i (summed_in l.owner l.mask l.a l.c) l.initial.l l.l
