-- `run_ready_rows::row_at` meets its contract. Assumes nothing.
use Prim.Native.Nat.{◌<◌}
use native.Mathlib.Omega.{arith}
use Rattle.run_ready.specs.Rows.{row_of}
use Rattle.run_ready_rows.proofs.ByRow.{row_below}
use Rattle.run_ready_rows.proofs.row_at.Goals as goal

pub overflow_mul-kind : goal.overflow_mul-kind
overflow_mul-kind c =
    let below : row_of c.args.k c.args.kind c.args.a < 96 =
    row_below c.args.k c.args.kind c.args.a c.requires.2 c.requires.1 c.requires.0 c.requires.3 in
    omega (arith, below)

pub overflow_add-kind : goal.overflow_add-kind
overflow_add-kind c =
    let below : row_of c.args.k c.args.kind c.args.a < 96 =
    row_below c.args.k c.args.kind c.args.a c.requires.2 c.requires.1 c.requires.0 c.requires.3 in
    omega (arith, below)

pub returns : goal.returns
returns c =
    let below : row_of c.args.k c.args.kind c.args.a < 96 =
    row_below c.args.k c.args.kind c.args.a c.requires.2 c.requires.1 c.requires.0 c.requires.3 in
    (c.from.ensures, omega (arith, below, c.from.ensures))
