-- `settle_text::lines::put_statements` meets its contract. The loop's invariant: the lines of the first g grocers are put. Assumes nothing.
use mathlib.Core.Path.{◌≡◌, ap}
use mathlib.Core.List.{[], ◌∷◌, ◌++◌}
use Prim.Native.Nat.{ℕ, suc, ◌+◌, ◌*◌}
use native.Mathlib.Omega.{arith}
use lib.IntN.{pos}
use lib.ListN.{get_or}
use Rattle.laws.proofs.Tables.{row_in}
use Rattle.printing.specs.Cents.{rule}
use Rattle.printing.specs.Printed.{decimal, amount_in}
use Rattle.settle_text.specs.Puts.{spaced_amounts}
use Rattle.settle_text.proofs.Puts.{reworded}
use Rattle.settle_text.proofs.Grocers.{grocer_none, grocer_more}
use Rattle.settle_text.proofs.lines.put_statements.Goals as goal

pub width_of-width-requires : goal.width_of-width-requires
width_of-width-requires c =
    c.requires.0

pub loop-g-init : goal.loop-g-init
loop-g-init c =
    (grocer_none _ _ _ _, omega arith)

pub put_statement-at-requires : goal.put_statement-at-requires
put_statement-at-requires c =
    let a = c.args in
    let e = c.width_of-width.ensures.0 in
    let rows = row_in c.loop-g.g a.grocers (suc a.lists) (omega arith) in
    (omega arith, omega (arith, c.width_of-width.ensures.1), omega (arith, c.loop-g.invariant.1), rw e (omega (arith, rows)))

pub loop-g-preserved : goal.loop-g-preserved
unfolding amount_in
loop-g-preserved c =
    let a = c.args in
    let h = rule c.half_to_even-to_even.result in
    let e =
    ap (λ (x : ℕ). decimal c.loop-g.g ++ spaced_amounts h x (λ (q : ℕ). get_or a.statement.now (c.loop-g.g * x + q) (pos 0)) ++ (10 ∷ [])) c.width_of-width.ensures.0 in (
      grocer_more h a.lists c.loop-g.g (amount_in a.lists a.statement.now) c.loop-g.invariant.0 (reworded e c.put_statement-at.ensures.put),
      omega (arith, c.put_statement-at.ensures.upper_bound, c.loop-g.invariant.1),
    )

pub returns : goal.returns
returns c =
    let e : c.loop-g.g ≡ c.args.grocers = omega arith in
    record {
      put = rw (e, c.half_to_even-to_even.ensures) at c.loop-g.invariant.0;
      upper_bound = omega arith;
    }
