-- `forecast_doubles::values::all_sums` meets its contract: the bound is the definition's. Assumes nothing.
use lib.Ieee.{of_bits}
use Rattle.forecast_rules.specs.Doubles.{is_sum}
use Rattle.forecast_doubles.specs.Bounds.{within}
use Rattle.forecast_doubles.proofs.values.all_sums.Goals as goal

pub returns : goal.returns
unfolding within is_sum of_bits
returns c =
    c.all_within.ensures
