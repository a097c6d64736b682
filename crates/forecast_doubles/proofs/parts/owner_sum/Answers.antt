-- `forecast_doubles::parts::owner_sum` meets its contract: at box c those before it are summed. Assumes nothing.
use mathlib.Core.Path.{ap}
use Prim.Native.Nat.{ℕ, ◌+◌}
use lib.Ieee.{of_bits}
use Rattle.forecast_doubles.specs.Parts.{owner_sum}
use Rattle.forecast_doubles.proofs.Words.{none_yet, part_more}
use Rattle.forecast_doubles.proofs.parts.owner_sum.Goals as goal

pub loop-c-init : goal.loop-c-init
unfolding owner_sum of_bits
loop-c-init c =
    none_yet _ _

pub loop-c-preserved : goal.loop-c-preserved
loop-c-preserved c =
    part_more c.loop-c.c c.args.m c.args.g c.args.a c.args.mask c.args.part.now c.args.held.now _ c.loop-c.sum _
    (ap (λ (x : ℕ). x + c.args.g) c.row_start.ensures) c.loop-c.invariant c.with_part-more.ensures
