-- `file_blocks::plan::bad_sizes` meets its contract. Assumes nothing.
use mathlib.Core.Path.{refl}
use Rattle.format.specs.Job.{bad_sizes}
use Rattle.file_blocks.proofs.plan.bad_sizes.Goals as goal

pub returns : goal.returns
unfolding bad_sizes
returns c =
    refl
