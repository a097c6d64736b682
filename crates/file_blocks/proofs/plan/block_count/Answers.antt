-- `file_blocks::plan::block_count` meets its contract. Assumes nothing.
use native.Mathlib.Omega.{arith}
use Rattle.file_blocks.proofs.plan.block_count.Goals as goal

pub returns : goal.returns
returns c =
    omega (arith, c.tallies_at.ensures, c.blocks_for.ensures)
