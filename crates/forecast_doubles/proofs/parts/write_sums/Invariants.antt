-- `forecast_doubles::parts::write_sums` meets its contract: at grocer g the forecasts before it are written. Assumes nothing.
use mathlib.Core.Path.{◌≡◌}
use Rattle.laws.specs.Tables.{overwrite}
use Rattle.forecast_doubles.specs.Parts.{summed_word}
use Rattle.forecast_doubles.proofs.parts.write_sums.Given as goal

abbrev pub invariant-loop-g : goal.invariant-loop-g
invariant-loop-g l =
    l.forecast ≡ overwrite l.g (summed_word l.k l.m l.a l.owner l.sharers l.part l.held l.initial.forecast) l.initial.forecast
