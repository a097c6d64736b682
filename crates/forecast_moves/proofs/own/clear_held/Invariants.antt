-- `forecast_moves::own::clear_held` meets its contract: before row c the rows before it are cleared. Assumes nothing.
use Rattle.forecast_moves.specs.Steps.{held_summed}
use Rattle.forecast_moves.proofs.Cleared.{ClearedTo}
use Rattle.forecast_moves.proofs.own.clear_held.Given as goal

abbrev pub invariant-loop-c : goal.invariant-loop-c
invariant-loop-c l =
    ClearedTo l.k l.m l.c (held_summed l.owner l.sharers l.a) l.initial.held l.held
