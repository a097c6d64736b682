-- `forecast_checks::refusal::words_in` meets its contract: before word i those of the message before it are counted. Assumes nothing.
use mathlib.Core.Path.{◌≡◌}
use Rattle.laws.specs.Below.{count}
use Rattle.step_places.specs.Message.{word_in}
use Rattle.forecast_checks.proofs.refusal.words_in.Given as goal

abbrev pub invariant-loop-i : goal.invariant-loop-i
invariant-loop-i l =
    l.words ≡ count l.i (word_in l.owner l.mask l.a l.b)
