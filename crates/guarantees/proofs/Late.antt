-- Late bags and withdrawn ones. Assumes nothing.
use Rattle.late_rules.proofs.Laws.{late_laws}
use Rattle.guarantees.specs.Late.{LateHolds}

pub late-holds : LateHolds
late-holds = record {
  add = late_laws.add;
  withdraw = late_laws.withdraw;
  withdrawable = late_laws.withdrawable;
  state = late_laws.state;
}
