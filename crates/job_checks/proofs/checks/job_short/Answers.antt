-- `job_checks::checks::job_short` meets its contract: the code is the definition. Assumes nothing.
use Rattle.model.specs.Tables.{job_lengths, job_short}
use Rattle.job_checks.proofs.checks.job_short.Goals as goal

pub returns : goal.returns
unfolding job_short job_lengths
returns c =
    rw c.list_words.ensures.0
