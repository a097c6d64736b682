-- `step_row::row_at` meets its contract. The invariant: the words passed are the box's, and the others 0. Assumes nothing.
use mathlib.Core.Path.{refl, sym, ap, ◌∙◌}
use mathlib.Core.Bool.{cond}
use Prim.Native.Nat.{ℕ, ◌+◌, ◌*◌}
use native.Mathlib.Omega.{arith}
use native.Mathlib.Nat.{le_antisymm}
use lib.ListN.{get_or}
use lib.Dec.{ltb}
use lib.IntN.{pos}
use borrow.Author.Tests.{le-ltb}
use borrow.Author.Rules.{rules}
use Rattle.laws.proofs.Loops.{get_d_zeros}
use Rattle.laws.proofs.Tables.{is_tabulate}
use Rattle.laws.proofs.Bools.{cond_no}
use Rattle.step_row.specs.Row.{row_of}
use Rattle.step_row.proofs.row_at.Goals as goal

pub loop-g-init : goal.loop-g-init
loop-g-init c =
    (search rules, refl, λ i. get_d_zeros 255 i (pos 0) ∙ sym (cond_no _ (get_or c.args.working.now ((c.args.start + i) * c.args.width + c.args.q) (pos 0)) (pos 0) (le-ltb i 0 (omega arith))))

pub returns : goal.returns
unfolding row_of
returns c =
    is_tabulate c.loop-g.row 255 _ (pos 0) c.loop-g.invariant.1
    (λ i l. c.loop-g.invariant.2 i ∙ ap (λ (x : ℕ). cond (ltb i x) (get_or c.args.working.now ((c.args.start + i) * c.args.width + c.args.q) (pos 0)) (pos 0)) (le_antisymm c.loop-g.invariant.0 c.loop-g-test.false))
