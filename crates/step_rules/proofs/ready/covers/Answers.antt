-- `step_rules::ready::covers` meets its contract. Assumes nothing.
use Rattle.laws.proofs.Masks.{mask_covers}
use Rattle.step_rules.proofs.ready.covers.Goals as goal

pub returns : goal.returns
returns c =
    mask_covers 16 c.args.word c.args.got c.ranges.word.fits c.ranges.got.fits
