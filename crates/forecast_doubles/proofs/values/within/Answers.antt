-- `forecast_doubles::values::within` meets its contract. Assumes nothing.
use mathlib.Core.Path.{refl}
use Rattle.forecast_doubles.specs.Bounds.{within}
use Rattle.forecast_doubles.proofs.values.within.Goals as goal

pub returns : goal.returns
unfolding within
returns c =
    refl
