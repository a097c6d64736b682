-- `file_blocks::plan::tallies_at` meets its contract. Assumes nothing.
use native.Mathlib.Omega.{arith}
use Rattle.file_blocks.specs.Due.{as_head}
use Rattle.file_blocks.proofs.PlanBounds.{lists_product}
use Rattle.file_blocks.proofs.plan.tallies_at.Goals as goal

pub returns : goal.returns
returns c =
    omega (arith, lists_product (as_head c.args.head) c.from.ensures c.from-2.ensures c.list_blocks-blocks.ensures, c.prices_at.ensures)
