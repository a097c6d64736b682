-- `test_calls::lay` meets its contract: the counts passed are written. Assumes nothing.
use mathlib.Core.Path.{◌≡◌, sym, ap, ◌∙◌}
use mathlib.Core.List.{List}
use Prim.Native.Nat.{ℕ, ◌<◌, ◌/◌, ◌%◌}
use native.Mathlib.Nat.{le_antisymm}
use native.Mathlib.Omega.{arith}
use borrow.Author.Rules.{rules}
use lib.ListN.{length, set}
use Rattle.laws.specs.Tables.{overwrite, recell, cell_at}
use Rattle.laws.proofs.Tables.{length_overwrite, overwrite_none, overwrite_next}
use Rattle.test_calls.proofs.lay.Goals as goal

-- Count k of a table, row by row.
abbrev counted : List (List ℕ) → ℕ → ℕ
counted table k = cell_at table (k / 16) (k % 16)

pub loop-i-init : goal.loop-i-init
loop-i-init c =
    (search rules, sym (overwrite_none 0 _ _))

pub bounds-out-i : goal.bounds-out-i
bounds-out-i c =
    let below : c.loop-i.i < 256 =
    c.loop-i-test.true in
    let long : length c.loop-i.out ≡ length c.args.out.now =
    ap length c.loop-i.invariant.1 ∙ length_overwrite c.loop-i.i (counted c.args.table) c.args.out.now (omega (arith, c.loop-i.invariant.0, c.requires)) in
    let room : c.loop-i.i < length c.args.out.now =
    omega (arith, below, c.requires) in
    rw long (room)

pub loop-i-preserved : goal.loop-i-preserved
loop-i-preserved c =
    let below : c.loop-i.i < 256 =
    c.loop-i-test.true in
    let room : c.loop-i.i < length c.args.out.now =
    omega (arith, below, c.requires) in
    let i = c.loop-i.i in (
      omega (arith, below),
      ap (λ (l : List ℕ). set l i (counted c.args.table i)) c.loop-i.invariant.1 ∙ overwrite_next 0 i (counted c.args.table) c.args.out.now (room),
    )

pub shape_of-out : goal.shape_of-out
shape_of-out c =
    let long : length c.loop-i.out ≡ length c.args.out.now =
    ap length c.loop-i.invariant.1 ∙ length_overwrite c.loop-i.i (counted c.args.table) c.args.out.now (omega (arith, c.loop-i.invariant.0, c.requires)) in
    long

pub returns : goal.returns
unfolding recell
returns c =
    c.loop-i.invariant.1 ∙ ap (λ (n : ℕ). overwrite n (counted c.args.table) c.args.out.now) (le_antisymm c.loop-i.invariant.0 c.loop-i-test.false)
