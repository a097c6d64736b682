-- `bag_standing::fill_keys` meets its contract. The invariant: the first t keys are there. Assumes nothing.
use mathlib.Core.Path.{subst}
use native.Mathlib.Nat.{le_antisymm}
use Rattle.bag_standing.proofs.Filling.{Filled, keys_of}
use Rattle.bag_standing.proofs.fill_keys.Goals as goal

pub returns : goal.returns
returns c =
    let a = c.args.counts.now in
    keys_of c.requires.columns
    (subst (Filled a.grocer.now a.offer.now a.bag.now a.revision.now c.loop-t.keys) (le_antisymm c.loop-t.auto.t-end c.loop-t-test.false) c.loop-t.invariant)
