-- `settle_text::lines::put_amounts` meets its contract. The loop's invariant: the first q amounts are put. Assumes nothing.
use mathlib.Core.Path.{◌≡◌, ap, ◌∙◌}
use mathlib.Core.List.{◌∷◌}
use Prim.Native.Nat.{ℕ, ◌+◌}
use native.Mathlib.Omega.{arith}
use lib.IntN.{ℤ, pos}
use lib.ListN.{get_or}
use borrow.Author.Rules.{rules}
use Rattle.laws.proofs.Signed.{read64}
use Rattle.printing.specs.Cents.{rule, cents}
use Rattle.printing.specs.Printed.{signed_decimal}
use Rattle.settle_text.specs.Puts.{spaced_amounts}
use Rattle.settle_text.proofs.Puts.{reworded}
use Rattle.settle_text.proofs.Decimals.{abs_64}
use Rattle.settle_text.proofs.Grocers.{put_none, amount_more, amount_short}
use Rattle.settle_text.proofs.lines.put_amounts.Goals as goal

pub loop-q-init : goal.loop-q-init
unfolding spaced_amounts
loop-q-init c =
    (put_none _ _ c.requires.1, omega arith)

pub loop-q-preserved : goal.loop-q-preserved
loop-q-preserved c =
    let a = c.args in
    let h = rule a.to_even in
    let amount : ℕ → ℤ = λ i. get_or a.statement.now (a.from + i) (pos 0) in
    let y = c.cents-z.result in
    let e : y ≡ cents h (amount c.loop-q.q) = c.cents-z.ensures ∙ ap (cents h) (read64 (amount c.loop-q.q) (search rules)) in
    let p = reworded (ap (λ (x : ℤ). 32 ∷ signed_decimal x) (read64 y c.cents-z.type_inv ∙ e)) c.put_cents-end.ensures in (
      amount_more h c.loop-q.q amount c.loop-q.invariant.0 p,
      omega (arith, p.next, c.loop-q.invariant.1, amount_short (cents h (amount c.loop-q.q)) (rw e at (abs_64 y (record { sfits = c.cents-z.type_inv })))),
    )

pub returns : goal.returns
returns c =
    let e : c.loop-q.q ≡ c.args.width = omega arith in
    record {
      put = rw e at c.loop-q.invariant.0;
      upper_bound = omega arith;
    }
