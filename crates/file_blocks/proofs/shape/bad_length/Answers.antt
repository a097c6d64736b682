-- `file_blocks::shape::bad_length` meets its contract. Assumes nothing.
use mathlib.Core.Path.{refl}
use Rattle.format.specs.Refusals.{bad_length}
use Rattle.file_blocks.proofs.shape.bad_length.Goals as goal

pub returns : goal.returns
unfolding bad_length
returns c =
    refl
