-- `step_packed::place_fits` meets its contract. The invariant: the words passed are in range. Assumes nothing.
use mathlib.Core.Path.{◌≡◌, sym, ap, ◌∙◌}
use mathlib.Core.Bool.{Bool, true}
use Prim.Native.Nat.{ℕ, ◌<◌, ◌+◌, ◌*◌}
use native.Mathlib.Omega.{arith}
use lib.Dec.{leb}
use lib.ListN.{get_or}
use lib.IntN.{pos, nat_abs, ◌+ℤ◌}
use borrow.Author.Tests.{not-true, not-false}
use Rattle.laws.specs.Limits.{max_amount}
use Rattle.laws.proofs.Bools.{and_true}
use Rattle.laws.proofs.Below.{all_next, all_fails, all_start}
use Rattle.model.specs.Spans.{beside}
use Rattle.model.proofs.SideBySide.{get_d_beside}
use Rattle.step_packed.specs.Fits.{word_fits}
use Rattle.step_packed.proofs.place_fits.Goals as goal

pub loop-q-init : goal.loop-q-init
loop-q-init c =
    (omega arith, all_start _)

pub word_fits-requires : goal.word_fits-requires
word_fits-requires c =
    let q = c.loop-q.q in
    let l = c.loop-q-test.true in
    let e = c.index_at.ensures.0 in
    record {
      w_in_bounds = (omega (arith, l, c.requires.source_long), rw e (c.requires.statement_long_lem q l));
      pos_bound = (c.requires.source_in q l, rw e (c.requires.statement_in q l));
    }

pub returns-then-not-word_fits : goal.returns-then-not-word_fits
returns-then-not-word_fits c =
    let test : ℕ → Bool =
    word_fits (c.args.i * c.args.width) (beside c.args.width c.args.grocers.now) c.args.source.now c.args.statement.now in
    let number_is : c.loop-q.q < c.args.width → c.index_at.result * c.args.width + c.loop-q.q ≡ get_or (beside c.args.width c.args.grocers.now) (c.args.i * c.args.width + c.loop-q.q) 0 =
    λ l. ap (λ (g : ℕ). g * c.args.width + c.loop-q.q) c.index_at.ensures.0 ∙ sym (get_d_beside c.args.width c.args.grocers.now c.args.i c.loop-q.q c.requires.place_in l) in
    let tested : c.word_fits.result ≡ test c.loop-q.q =
    c.word_fits.ensures
    ∙ ap (λ (g : ℕ). leb (nat_abs (get_or c.args.statement.now g (pos 0) +ℤ get_or c.args.source.now (c.args.i * c.args.width + c.loop-q.q) (pos 0))) max_amount) (number_is c.loop-q-test.true) in
    sym (all_fails c.args.width test c.loop-q.q c.loop-q-test.true (sym tested ∙ not-true c.word_fits.result (mathlib.Core.Path.ap mathlib.Core.Bool.not c.if-not-word_fits.true)))

pub loop-q-preserved : goal.loop-q-preserved
loop-q-preserved c =
    let test : ℕ → Bool =
    word_fits (c.args.i * c.args.width) (beside c.args.width c.args.grocers.now) c.args.source.now c.args.statement.now in
    let number_is : c.loop-q.q < c.args.width → c.index_at.result * c.args.width + c.loop-q.q ≡ get_or (beside c.args.width c.args.grocers.now) (c.args.i * c.args.width + c.loop-q.q) 0 =
    λ l. ap (λ (g : ℕ). g * c.args.width + c.loop-q.q) c.index_at.ensures.0 ∙ sym (get_d_beside c.args.width c.args.grocers.now c.args.i c.loop-q.q c.requires.place_in l) in
    let tested : c.word_fits.result ≡ test c.loop-q.q =
    c.word_fits.ensures
    ∙ ap (λ (g : ℕ). leb (nat_abs (get_or c.args.statement.now g (pos 0) +ℤ get_or c.args.source.now (c.args.i * c.args.width + c.loop-q.q) (pos 0))) max_amount) (number_is c.loop-q-test.true) in
    let q = c.loop-q.q in
    (omega (arith, c.loop-q-test.true), all_next q test ∙ and_true c.loop-q.invariant.1 (sym tested ∙ not-false c.word_fits.result (mathlib.Core.Path.ap mathlib.Core.Bool.not c.if-not-word_fits.false)))
