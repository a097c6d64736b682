-- `step_row::products_fit` meets its contract. The invariant: the rows of the lists passed are in range. Assumes nothing.
use mathlib.Core.Path.{◌≡◌, sym, ap, ◌∙◌}
use mathlib.Core.Bool.{Bool, true}
use mathlib.Core.List.{List}
use Prim.Native.Nat.{ℕ, ◌*◌}
use native.Mathlib.Omega.{arith}
use lib.IntN.{ℤ}
use borrow.Author.Tests.{not-true, not-false}
use borrow.Author.Rules.{rules}
use Rattle.laws.specs.Limits.{max_amount}
use Rattle.laws.proofs.Bools.{and_true}
use Rattle.laws.proofs.Below.{all_next, all_fails, all_start}
use Rattle.model.specs.Ranges.{around}
use Rattle.step_totals.specs.Row.{brings, placed}
use Rattle.step_row.specs.Row.{row_of}
use Rattle.step_row.proofs.products_fit.Goals as goal

pub loop-q-init : goal.loop-q-init
loop-q-init c =
    (search rules, all_start _)

pub returns-then-not-around64 : goal.returns-then-not-around64
returns-then-not-around64 c =
    let after : List ℤ =
    placed c.args.job.now.sizes.tallies c.args.part.width c.args.tally_place.now
    (brings c.args.job.now.offer_owner.now c.args.job.now.tally_box.now c.args.job.now.tally_offer.now c.args.job.now.tally_count.now c.args.prices.now c.args.a c.args.from
    (c.args.a * (c.args.job.now.sizes.offers * c.args.part.width)) c.args.part.width)
    c.args.working.now in
    let rowed : ℕ → List ℤ =
    λ q. row_of c.args.part.start c.args.part.len c.args.part.width q (after) in
    let test : ℕ → Bool =
    λ q. around max_amount c.args.part.len (rowed q) in
    let tested : c.around64.result ≡ test c.loop-q.q =
    c.around64.ensures ∙ ap (around max_amount c.args.part.len) c.product_row-row.ensures in
    sym (all_fails c.args.part.width test c.loop-q.q c.loop-q-test.true (sym tested ∙ not-true c.around64.result (mathlib.Core.Path.ap mathlib.Core.Bool.not c.if-not-around64.true)))

pub loop-q-preserved : goal.loop-q-preserved
loop-q-preserved c =
    let after : List ℤ =
    placed c.args.job.now.sizes.tallies c.args.part.width c.args.tally_place.now
    (brings c.args.job.now.offer_owner.now c.args.job.now.tally_box.now c.args.job.now.tally_offer.now c.args.job.now.tally_count.now c.args.prices.now c.args.a c.args.from
    (c.args.a * (c.args.job.now.sizes.offers * c.args.part.width)) c.args.part.width)
    c.args.working.now in
    let rowed : ℕ → List ℤ =
    λ q. row_of c.args.part.start c.args.part.len c.args.part.width q (after) in
    let test : ℕ → Bool =
    λ q. around max_amount c.args.part.len (rowed q) in
    let tested : c.around64.result ≡ test c.loop-q.q =
    c.around64.ensures ∙ ap (around max_amount c.args.part.len) c.product_row-row.ensures in
    (omega (arith, c.loop-q-test.true), all_next c.loop-q.q test ∙ and_true c.loop-q.invariant.1 (sym tested ∙ not-false c.around64.result (mathlib.Core.Path.ap mathlib.Core.Bool.not c.if-not-around64.false)))
