-- `job_checks::checks::bags_short` meets its contract: the code is the definition. Assumes nothing.
use mathlib.Core.Path.{refl}
use Rattle.model.specs.Tables.{job_lengths, bags_short}
use Rattle.job_checks.proofs.checks.bags_short.Goals as goal

pub returns : goal.returns
unfolding bags_short job_lengths
returns c =
    refl
