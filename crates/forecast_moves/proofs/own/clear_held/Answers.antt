-- `forecast_moves::own::clear_held` meets its contract: before row c the rows before it are cleared. Assumes nothing.
use Rattle.forecast_moves.specs.Steps.{held_summed}
use Rattle.forecast_moves.proofs.Cleared.{cleared_more, cleared_all}
use Rattle.forecast_moves.proofs.own.clear_held.Goals as goal

pub loop-c-preserved : goal.loop-c-preserved
loop-c-preserved c =
    cleared_more c.args.k c.args.m c.loop-c.c (held_summed c.args.owner.now c.args.sharers.now c.args.a) c.args.held.now c.loop-c.held _ c.loop-c-test.true
    c.loop-c.invariant c.clear_row.ensures

pub returns : goal.returns
returns c =
    cleared_all c.args.k c.args.m c.loop-c.c c.args.a c.args.owner.now c.args.sharers.now c.args.held.now c.loop-c.held c.loop-c.auto.c-end c.loop-c-test.false
    c.loop-c.invariant c.requires.m_in_bounds c.loop-c.auto.held
