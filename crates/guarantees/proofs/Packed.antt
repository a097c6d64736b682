-- Working totals by local grocer. Assumes nothing.
use Rattle.model.proofs.ListTotals.{list_totals_lem}
use Rattle.model.proofs.FullRows.{same_step, same_requests, same_fresh, same_run, from_rows}
use Rattle.guarantees.specs.Packed.{PackedHolds}

pub packed_holds : PackedHolds
packed_holds = record {
  steps = same_step;
  lists = same_requests;
  fresh = same_fresh;
  runs = same_run;
  rows = from_rows;
  enough = λ f h. (list_totals_lem f).most h;
}
