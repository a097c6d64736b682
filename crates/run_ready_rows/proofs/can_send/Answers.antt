-- `run_ready_rows::can_send` meets its contract: fit, not done, and all got. Assumes nothing.
use Rattle.model.specs.Steps.{kind_of}
use Rattle.model.specs.Tables.{steps_done}
use Rattle.run_ready_rows.proofs.ByRow.{sends_open}
use Rattle.run_ready_rows.proofs.can_send.Goals as goal

pub returns : goal.returns
unfolding kind_of
returns c =
    λ receivers. sends_open c.args.rules.now.waits.now (steps_done c.args.rules.now.boxes c.args.done.now) c.args.a c.args.b _ c.args.got c.covers.result
    c.word_at-word.ensures c.requires.2 c.covers.ensures receivers _ c.is_done-marked.ensures
