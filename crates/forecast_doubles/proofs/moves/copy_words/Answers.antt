-- `forecast_doubles::moves::copy_words` meets its contract: before word i the words before it are copied. Assumes nothing.
use Prim.Native.Nat.{◌<◌}
use native.Mathlib.Omega.{arith}
use Rattle.step_places.specs.Message.{word_in}
use Rattle.forecast_doubles.proofs.MovedWords.{copied_next, word_is}
use Rattle.forecast_doubles.proofs.moves.copy_words.Goals as goal

pub loop-i-preserved : goal.loop-i-preserved
loop-i-preserved c =
    let i : c.loop-i.i < c.args.n = c.loop-i-test.true in
    copied_next c.args.at c.args.row (word_in c.args.owner.now c.args.mask.now c.args.a c.args.b) c.args.from.now c.args.to.now c.loop-i.i c.loop-i.to c.loop-i.invariant _
    (omega (arith, c.requires.n_in_bounds.1, c.loop-i.auto.to)) c.in_message-due.result
    (word_is c.args.owner.now c.args.mask.now c.args.a c.args.b c.loop-i.i _ _ _ c.in_message-due.ensures c.u16_at.ensures c.u16_at-in-loop-i.ensures)
    c.copy_one.ensures
