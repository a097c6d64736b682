-- `host::tell_report` meets its contract. Assumes nothing.
use Rattle.run.specs.Run.{answer_of}
use Rattle.host.specs.Host.{run_as}
use Rattle.host.proofs.tell_report.Goals as goal

pub returns-in-Ok : goal.returns-in-Ok
unfolding run_as answer_of
returns-in-Ok c =
    λ t k. rw (c.in-Ok.is, c.copy_from_slice.ensures.after)

pub returns-in-Err : goal.returns-in-Err
unfolding run_as answer_of
returns-in-Err c =
    λ t k. rw (c.in-Err.is, c.number.ensures)
