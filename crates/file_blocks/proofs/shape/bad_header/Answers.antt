-- `file_blocks::shape::bad_header` meets its contract. Assumes nothing.
use Prim.Native.Nat.{ℕ}
use mathlib.Core.Path.{ap₂, ap, ◌∙◌}
use mathlib.Core.Bool.{not, ◌||◌}
use lib.Dec.{eqb}
use Rattle.format.specs.Job.{bad_sizes}
use Rattle.format.specs.Refusals.{bad_header}
use Rattle.file_blocks.proofs.shape.bad_header.Goals as goal

pub returns : goal.returns
unfolding bad_header
returns c =
    ap₂ ◌||◌ (ap (λ (x : ℕ). not (eqb x 1)) c.byte_at.ensures.0) (c.bad_sizes.ensures ∙ ap bad_sizes c.read_head-head.ensures)
