-- `file_blocks::spares::spare_used` meets its contract. Assumes nothing.
use mathlib.Core.Path.{refl, ◌∙◌}
use Rattle.file_blocks.proofs.SpareWalk.{spare_due}
use Rattle.file_blocks.proofs.spares.spare_used.Goals as goal

pub returns : goal.returns
returns c =
    let d = c.requires.due in
    rw (c.record_size.ensures _ d.kind, c.field_size.ensures _ d.kind) at c.spare_in.ensures ∙ spare_due _ c.args.f.now c.args.k _ _ d _ refl
