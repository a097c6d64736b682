-- `entries_write` gives what the writer gives.
use mathlib.Core.Path.{sym}
use Rattle.test_calls.specs.Entries.{written_as}
use Rattle.test_calls.proofs.entries_write.Goals as goal

pub returns : goal.returns
unfolding written_as
returns c =
    rw (sym c.write.ensures, c.number.ensures)

pub shape_of-out : goal.shape_of-out
shape_of-out c =
    c.write.auto.out
