-- Demand 3 holds, of every job in range and of every accepted file. Assumes nothing.
use Rattle.guarantees.specs.Demand3.{Demand3Holds}
use Rattle.model.proofs.Standing.{standing_count}
use Rattle.model.proofs.Early.{early_totals_lem}
use Rattle.model.proofs.Listed.{steps_counted_lem}
use Rattle.model.proofs.Demand3.{demand3, demand3_run}
use Rattle.printing.proofs.Accepted.{range_ok, once_ok, settles_ok, stands_ok, sums_ok, accepted}
use Rattle.printing.proofs.OneJob.{one_job_lem, same_evening}

pub demand3_holds : Demand3Holds
demand3_holds = record {
  files = accepted;
  lists = demand3;
  runs = demand3_run;
  any_tables = range_ok;
  any_once = once_ok;
  any_settles = settles_ok;
  any_standing = stands_ok;
  any_sums = sums_ok;
  one_job = one_job_lem;
  one_evening = same_evening;
  counts = standing_count;
  steps_counted = steps_counted_lem;
  early = early_totals_lem;
}
