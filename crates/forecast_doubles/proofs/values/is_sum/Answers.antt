-- `forecast_doubles::values::is_sum` meets its contract: the bound is the definition's. Assumes nothing.
use lib.Ieee.{of_bits}
use Rattle.forecast_rules.specs.Doubles.{is_sum}
use Rattle.forecast_doubles.specs.Bounds.{within}
use Rattle.forecast_doubles.proofs.values.is_sum.Goals as goal

pub returns : goal.returns
unfolding within is_sum of_bits
returns c =
    c.within.ensures
