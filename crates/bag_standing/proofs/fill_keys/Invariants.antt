-- `bag_standing::fill_keys` meets its contract. The invariant: the first t keys are there. Assumes nothing.
use Rattle.bag_standing.proofs.Filling.{Filled}
use Rattle.bag_standing.proofs.fill_keys.Given as goal

abbrev pub invariant-loop-t : goal.invariant-loop-t
invariant-loop-t l = Filled l.counts.grocer.now l.counts.offer.now l.counts.bag.now l.counts.revision.now l.keys l.t
