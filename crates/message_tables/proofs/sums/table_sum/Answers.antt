-- `message_tables::sums::table_sum` meets its contract: the sum is that of the rows passed. Assumes nothing.
use mathlib.Core.Path.{◌≡◌, sym, ap, ap₂, ◌∙◌}
use Prim.Native.Nat.{ℕ, ◌+◌}
use native.Mathlib.Omega.{arith}
use Rattle.message_tables.proofs.Summing.{rows_to, rows_none, rows_next, rows_whole}
use Rattle.message_tables.proofs.sums.table_sum.Goals as goal

pub loop-a-init : goal.loop-a-init
loop-a-init c = (sym (rows_none _), omega arith)

pub loop-a-preserved : goal.loop-a-preserved
loop-a-preserved c = (
  ap₂ (λ (x y : ℕ). x + y) c.loop-a.invariant.0 c.line_sum-sum.ensures.0 ∙ sym (rows_next _ c.loop-a.a),
  omega (arith, c.line_sum-sum.ensures.1, c.loop-a.invariant.1),
)

pub returns : goal.returns
returns c =
    let done : c.loop-a.a ≡ 16 = omega arith in
    c.loop-a.invariant.0 ∙ ap (λ (n : ℕ). rows_to n c.args.table) done ∙ rows_whole c.args.table
