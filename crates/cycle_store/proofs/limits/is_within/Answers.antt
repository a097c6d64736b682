-- `cycle_store::limits::is_within` meets its contract: the two tests are the size's. Assumes nothing.
use Rattle.laws.proofs.Signed.{read64}
use Rattle.cycle_store.proofs.Called.{within_by}
use Rattle.cycle_store.proofs.limits.is_within.Goals as goal

pub returns : goal.returns
returns c =
    λ k. λ below. λ above. let s = c.args in
    rw (read64 s.x c.ranges.x.sfits, read64 s.least c.ranges.least.sfits, read64 s.most c.ranges.most.sfits)
    (rw (below, above) (within_by k s.x))
