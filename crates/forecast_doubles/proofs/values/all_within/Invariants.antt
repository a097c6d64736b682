-- `forecast_doubles::values::all_within` meets its contract: at word i those before it are tested. Assumes nothing.
use mathlib.Core.Path.{◌≡◌}
use Rattle.forecast_rules.specs.Ranges.{each}
use Rattle.forecast_doubles.specs.Bounds.{within}
use Rattle.forecast_doubles.proofs.values.all_within.Given as goal

abbrev pub invariant-loop-i : goal.invariant-loop-i
invariant-loop-i l =
    l.all ≡ each (within l.most) l.i l.s
