-- `forecast_doubles::moves::zero_words` meets its contract: before word i the words before it are done. Assumes nothing.
use Prim.Native.Nat.{◌<◌}
use native.Mathlib.Omega.{arith}
use Rattle.forecast_doubles.specs.Moves.{summed_in}
use Rattle.forecast_doubles.proofs.MovedWords.{zeroed_next, summed_is}
use Rattle.forecast_doubles.proofs.moves.zero_words.Goals as goal

pub loop-i-preserved : goal.loop-i-preserved
loop-i-preserved c =
    let i : c.loop-i.i < c.args.n = c.loop-i-test.true in
    zeroed_next c.args.row (summed_in c.args.owner.now c.args.mask.now c.args.a c.args.c) c.args.l.now c.loop-i.i c.loop-i.l c.loop-i.invariant _
    (omega (arith, c.requires.n_in_bounds, c.loop-i.auto.l)) _
    (summed_is c.args.owner.now c.args.mask.now c.args.a c.args.c c.loop-i.i _ _ _ c.has_bit.ensures c.u16_at.ensures c.u16_at-in-loop-i.ensures)
    c.zero_one.ensures
