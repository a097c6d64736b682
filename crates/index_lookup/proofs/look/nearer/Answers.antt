-- `index_lookup::look::nearer` meets its contract. Assumes nothing.
use mathlib.Core.Bool.{Bool}
use Prim.Native.Nat.{◌+◌, ◌≤◌}
use native.Mathlib.Omega.{arith}
use lib.ListN.{get_or}
use lib.Dec.{leb}
use Rattle.index_lookup.proofs.Looking.{flag_le, shifted, shifted_le}
use Rattle.index_lookup.proofs.look.nearer.Goals as goal

pub overflow_mul-shift : goal.overflow_mul-shift
overflow_mul-shift c =
    let test : Bool =
    leb (get_or c.args.keys.now (c.args.at + c.args.half) 0) c.args.number in
    let small : c.over-shift.result ≤ 1 =
    flag_le c.over-shift.result test c.over-shift.ensures in
    record { fits = omega (arith, small) }

pub overflow_shr-result : goal.overflow_shr-result
overflow_shr-result c =
    let test : Bool =
    leb (get_or c.args.keys.now (c.args.at + c.args.half) 0) c.args.number in
    let small : c.over-shift.result ≤ 1 =
    flag_le c.over-shift.result test c.over-shift.ensures in
    omega (arith, small)

pub overflow_add-result : goal.overflow_add-result
overflow_add-result c =
    let test : Bool =
    leb (get_or c.args.keys.now (c.args.at + c.args.half) 0) c.args.number in
    record { fits = omega (arith, shifted_le c.over-shift.result test c.over-shift.ensures c.args.at c.args.half c.requires.0, c.requires.1) }

pub returns : goal.returns
returns c =
    let test : Bool =
    leb (get_or c.args.keys.now (c.args.at + c.args.half) 0) c.args.number in
    shifted c.over-shift.result test c.over-shift.ensures c.args.at c.args.half c.requires.0
