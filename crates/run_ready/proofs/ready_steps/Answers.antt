-- `run_ready::ready_steps` meets its contract: all rows are counted. Assumes nothing.
use mathlib.Core.Path.{◌≡◌, ap}
use Prim.Native.Nat.{◌+◌, ◌*◌}
use native.Mathlib.Omega.{arith}
use Rattle.run_ready.specs.Rows.{rows_total}
use Rattle.run_ready.proofs.Rows.{rows_none}
use Rattle.run_ready.proofs.ready_steps.Goals as goal

pub returns : goal.returns
returns c =
    let all : 0 + 6 * c.args.k ≡ 6 * c.args.k = omega arith in
    omega (arith, c.places_in.ensures, rows_none c.args.rows.now, ap (rows_total c.args.rows.now) all)
