-- `forecast_doubles::parts::owner_sum` meets its contract: at box c those before it are summed. Assumes nothing.
use mathlib.Core.Path.{◌≡◌}
use Rattle.forecast_doubles.specs.Parts.{owner_sum}
use Rattle.forecast_doubles.proofs.parts.owner_sum.Given as goal

abbrev pub invariant-loop-c : goal.invariant-loop-c
invariant-loop-c l =
    l.sum ≡ owner_sum l.c l.m l.g l.a l.mask l.part l.held
