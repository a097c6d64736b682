-- `forecast_doubles::moves::take_words` meets its contract: before word i the words before it are moved. Assumes nothing.
use Prim.Native.Nat.{◌<◌}
use native.Mathlib.Omega.{arith}
use Rattle.step_places.specs.Message.{word_in}
use Rattle.forecast_doubles.proofs.MovedWords.{moved_next, word_is}
use Rattle.forecast_doubles.proofs.moves.take_words.Goals as goal

pub loop-i-preserved : goal.loop-i-preserved
loop-i-preserved c =
    let i : c.loop-i.i < c.args.n = c.loop-i-test.true in
    moved_next c.args.row (word_in c.args.owner.now c.args.mask.now c.args.a c.args.b) c.args.from.now c.args.to.now c.loop-i.i c.loop-i.from c.loop-i.to c.loop-i.invariant _ _
    (omega (arith, c.requires.n_in_bounds.0, c.loop-i.auto.from)) (omega (arith, c.requires.n_in_bounds.1, c.loop-i.auto.to)) c.in_message-due.result
    (word_is c.args.owner.now c.args.mask.now c.args.a c.args.b c.loop-i.i _ _ _ c.in_message-due.ensures c.u16_at.ensures c.u16_at-in-loop-i.ensures)
    c.take_one.ensures.0 c.take_one.ensures.1
