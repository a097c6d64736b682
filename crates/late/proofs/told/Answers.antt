-- `late::told` meets its contract. Assumes nothing.
use borrow.Author.Rules.{rules}
use Rattle.run.specs.Run.{answer_of}
use Rattle.late_rules.specs.Late.{late_answer}
use Rattle.late.specs.Calls.{late_answer_of}
use Rattle.late.proofs.told.Goals as goal

pub returns-in-Ok : goal.returns-in-Ok
unfolding late_answer_of late_answer answer_of
returns-in-Ok c =
    search rules

pub returns-in-Err : goal.returns-in-Err
unfolding late_answer_of late_answer answer_of
returns-in-Err c =
    search rules
