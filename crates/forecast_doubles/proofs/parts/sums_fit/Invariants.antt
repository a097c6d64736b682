-- `forecast_doubles::parts::sums_fit` meets its contract: at grocer g those before it are tested. Assumes nothing.
use mathlib.Core.Path.{◌≡◌}
use Rattle.forecast_doubles.specs.Parts.{sums_fit}
use Rattle.forecast_doubles.proofs.parts.sums_fit.Given as goal

abbrev pub invariant-loop-g : goal.invariant-loop-g
invariant-loop-g l =
    l.fit ≡ sums_fit l.k l.m l.a l.owner l.sharers l.part l.held l.g
