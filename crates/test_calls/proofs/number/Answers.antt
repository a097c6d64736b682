-- `number` says the number that the writer's answer holds.
use Rattle.test_calls.specs.Entries.{write_number}
use Rattle.test_calls.proofs.number.Goals as goal

pub returns-in-Ok : goal.returns-in-Ok
unfolding write_number
returns-in-Ok c =
    rw c.in-Ok.is

pub returns-in-Err : goal.returns-in-Err
unfolding write_number
returns-in-Err c =
    rw (c.in-Err.is, c.number.ensures)
