-- `test_calls::rounds_number` meets its contract. Assumes nothing.
use Rattle.trial.specs.Trial.{answer_of}
use Rattle.test_calls.specs.EntryTrial.{rounds_number}
use Rattle.test_calls.proofs.rounds_number.Goals as goal

pub returns-in-Ok : goal.returns-in-Ok
unfolding rounds_number answer_of
returns-in-Ok c =
    rw c.in-Ok.is

pub returns-in-Err : goal.returns-in-Err
unfolding rounds_number answer_of
returns-in-Err c =
    rw (c.in-Err.is, c.number.ensures)
