-- `job_masks::masks::by_owner` meets its contract: the words are those of the places passed. Assumes nothing.
use Rattle.std.proofs.Common.{arith}
use Rattle.job_masks.proofs.Owned.{owner_none, owner_told}
use Rattle.job_masks.proofs.masks.by_owner.Goals as goal

pub loop-i-init : goal.loop-i-init
loop-i-init c = owner_none _ _

pub loop-i-preserved : goal.loop-i-preserved
loop-i-preserved c =
    let o = c.loop-i.i in
    owner_told o c.args.owners.now c.args.masks.now (c.requires.owner< o (omega arith)) (c.type_inv.masks o).fits _ _ _ c.loop-i.invariant c.index_at.ensures.0 c.u16_at.ensures
