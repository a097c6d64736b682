-- `run_ready_rows::find_row` meets its contract: at row i, what is left to pass and the rows before it make the place that is meant. Assumes nothing.
use mathlib.Core.Path.{◌≡◌, ap, ◌∙◌}
use Prim.Native.Nat.{ℕ, ◌+◌, ◌*◌, ◌<◌, ◌-◌}
use native.Mathlib.Omega.{arith}
use native.Mathlib.Nat.{add-zero}
use lib.ListN.{get_or}
use Rattle.run_ready.specs.Rows.{rows_total}
use Rattle.run_ready_rows.proofs.ByRow.{kind_few, row_some, row_found, row_passed}
use Rattle.run_ready_rows.proofs.find_row.Goals as goal

pub loop-i-init : goal.loop-i-init
loop-i-init c =
    ap (λ (x : ℕ). c.args.c + rows_total c.args.rows.now x) (add-zero c.args.first)

pub overflow_add-result : goal.overflow_add-result
overflow_add-result c =
    let row_at_turn : c.args.first + c.loop-i.i < 6 * c.args.k =
    omega (arith, c.loop-i-test.true, c.requires.2) in
    omega (arith, kind_few c.args.k _ c.requires.0 row_at_turn)

pub returns-then-left-found : goal.returns-then-left-found
returns-then-left-found c =
    let row_at_turn : c.args.first + c.loop-i.i < 6 * c.args.k =
    omega (arith, c.loop-i-test.true, c.requires.2) in
    λ f. λ h. λ lt. let lr = row_at_turn in
    let r = c.args.first + c.loop-i.i in
    let (lb, on, m) = c.bit_at.ensures (row_some c.args.k f c.args.rows.now h r c.loop-i.left lr c.if-left-found.true) in
    row_found c.args.k f c.args.rows.now h r c.loop-i.left _ c.bit_at.result c.requires.0 c.requires.1 c.loop-i.invariant lr lb on m

pub loop-i-preserved : goal.loop-i-preserved
loop-i-preserved c =
    ap (λ (x : ℕ). c.loop-i.left - get_or c.args.rows.now.counts (c.args.first + c.loop-i.i) 0 + rows_total c.args.rows.now x) (regroup c.args.first c.loop-i.i)
    ∙ row_passed c.args.rows.now (c.args.first + c.loop-i.i) c.loop-i.left _ c.loop-i.invariant c.if-left-found.false
  where
    regroup : (x y : ℕ) → x + (y + 1) ≡ x + y + 1
    regroup x y = omega arith

pub returns : goal.returns
returns c =
    λ f. λ h. λ lt. let end : c.loop-i.i ≡ c.args.k = omega arith in
    let all : c.loop-i.left + rows_total c.args.rows.now (c.args.first + c.args.k) ≡ c.args.c + rows_total c.args.rows.now c.args.first = rw end at c.loop-i.invariant in
    absurd (omega (arith, lt))
