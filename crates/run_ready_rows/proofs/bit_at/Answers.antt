-- `run_ready_rows::bit_at` meets its contract: at bit b, what is left to pass and the bits before it make c. Assumes nothing.
use mathlib.Core.Path.{◌≡◌, sym, ◌∙◌}
use Prim.Native.Nat.{◌+◌}
use native.Mathlib.Omega.{arith}
use lib.Dec.{eqb}
use borrow.Author.Tests.{eqb-true}
use Rattle.laws.specs.Below.{count}
use Rattle.laws.specs.Masks.{bit}
use Rattle.laws.proofs.Bools.{and_l, and_r}
use Rattle.laws.proofs.Below.{count_start}
use Rattle.run_ready.proofs.Walking.{one_of, less_fits, passed}
use Rattle.run_ready_rows.proofs.bit_at.Goals as goal

pub loop-b-init : goal.loop-b-init
loop-b-init c =
    omega (arith, count_start (λ i. bit i c.args.word))

pub returns-then-set-left : goal.returns-then-set-left
returns-then-set-left c =
    λ some. let on = and_l c.has_bit-set.result (eqb c.loop-b.left 0) c.if-set-left.true in
    let none : c.loop-b.left ≡ 0 = eqb-true c.loop-b.left 0 (and_r c.has_bit-set.result (eqb c.loop-b.left 0) c.if-set-left.true) in
    (c.loop-b-test.true, sym c.has_bit-set.ensures ∙ on, omega (arith, c.loop-b.invariant))

pub overflow_sub-left : goal.overflow_sub-left
overflow_sub-left c =
    less_fits (λ i. bit i _) c.loop-b.b c.loop-b.left _ c.loop-b.invariant c.has_bit-set.result c.from-less.result c.has_bit-set.ensures (one_of _ _ c.from-less.ensures) c.if-set-left.false

pub loop-b-preserved : goal.loop-b-preserved
loop-b-preserved c =
    passed (λ i. bit i _) c.loop-b.b c.loop-b.left _ c.loop-b.invariant c.has_bit-set.result c.from-less.result c.has_bit-set.ensures (one_of _ _ c.from-less.ensures) c.if-set-left.false

pub returns : goal.returns
returns c =
    λ some. let end : c.loop-b.b ≡ c.args.k = omega arith in
    let all : c.loop-b.left + count c.args.k (λ i. bit i c.args.word) ≡ c.args.c = rw end at c.loop-b.invariant in
    absurd (omega arith)
