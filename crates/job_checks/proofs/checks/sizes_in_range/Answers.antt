-- `job_checks::checks::sizes_in_range` meets its contract: the code is the definition. Assumes nothing.
use mathlib.Core.Path.{refl}
use Rattle.model.specs.Ranges.{sizes_in_range}
use Rattle.job_checks.proofs.checks.sizes_in_range.Goals as goal

pub returns : goal.returns
unfolding sizes_in_range
returns c =
    refl
