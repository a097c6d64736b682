-- `run_fresh::place` meets its contract. Assumes nothing.
use Prim.Native.Nat.{◌<◌}
use native.Mathlib.Nat.{mul-le-mul_right}
use native.Mathlib.Omega.{arith}
use Rattle.run_fresh.proofs.place.Goals as goal

pub overflow_mul-result : goal.overflow_mul-result
overflow_mul-result c =
    let few : c.from.result < 16 = omega (arith, c.from.ensures) in omega (arith, mul-le-mul_right c.args.n few)

pub overflow_add-result : goal.overflow_add-result
overflow_add-result c =
    let few : c.from.result < 16 = omega (arith, c.from.ensures) in omega (arith, mul-le-mul_right c.args.n few)
