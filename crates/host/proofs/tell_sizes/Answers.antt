-- `host::tell_sizes` meets its contract. Assumes nothing.
use Rattle.host.specs.Host.{read_as}
use Rattle.host.proofs.tell_sizes.Goals as goal

pub returns-in-Ok : goal.returns-in-Ok
unfolding read_as
returns-in-Ok c =
    λ l. rw (c.in-Ok.is, c.copy_from_slice.ensures.after)

pub returns-in-Err : goal.returns-in-Err
unfolding read_as
returns-in-Err c =
    λ l. rw (c.in-Err.is, c.number.ensures)
