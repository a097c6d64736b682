-- `run_steps::head_of` meets its contract. Assumes nothing.
use mathlib.Core.Path.{ap₂, ◌∙◌}
use Prim.Native.Nat.{ℕ, ◌+◌, ◌*◌}
use native.Mathlib.Omega.{arith}
use Rattle.run_steps.specs.All.{head_of}
use Rattle.run_steps.proofs.head_of.Goals as goal

pub returns : goal.returns
unfolding head_of
returns c =
    ap₂ (λ (x y : ℕ). x * 18 + y) (c.from-b.ensures ∙ c.span_box.ensures) c.span_group.ensures

pub overflow_mul-result : goal.overflow_mul-result
overflow_mul-result c =
    omega (arith, c.from-b.ensures)

pub overflow_add-result : goal.overflow_add-result
overflow_add-result c =
    omega (arith, returns c, c.requires)
