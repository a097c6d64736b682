-- `run_ready_rows::row_word` meets its contract: of every box passed it is told. Assumes nothing.
use mathlib.Core.Path.{◌≡◌}
use Rattle.laws.specs.Masks.{mask_of}
use Rattle.model.specs.Steps.{kind_of}
use Rattle.model.specs.Tables.{steps_done}
use Rattle.step_rules.specs.Rules.{permitted_by}
use Rattle.step_rules.proofs.Bits.{before}
use Rattle.run_ready_rows.proofs.row_word.Given as goal

abbrev pub invariant-loop-b : goal.invariant-loop-b
invariant-loop-b l =
    (l.word ≡ mask_of 16 (before l.b (permitted_by l.rules.receivers.now l.rules.waits.now (steps_done l.rules.boxes l.done) (kind_of l.kind) l.a)))
