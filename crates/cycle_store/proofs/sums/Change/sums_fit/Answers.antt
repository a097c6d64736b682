-- `cycle_store::sums::Change::sums_fit` meets its contract: each sum passed is in range. Assumes nothing.
use mathlib.Core.Path.{◌≡◌, refl, sym, ap, ◌∙◌}
use mathlib.Core.Bool.{true}
use lib.Dec.{leb}
use lib.IntN.{ℤ, nat_abs}
use borrow.Author.Tests.{not-true, not-false}
use Rattle.laws.proofs.Signed.{read64}
use Rattle.cycle_history.specs.Store.{max_kept}
use Rattle.cycle_store.specs.Moved.{sum_next}
use Rattle.job_ranges.proofs.Loops.{test_none, test_more, test_fails, test_ends}
use Rattle.cycle_history.proofs.Kept.{around_at}
use Rattle.cycle_store.proofs.Called.{under_kept}
use Rattle.cycle_store.proofs.sums.Change.sums_fit.Goals as goal

pub loop-g-init : goal.loop-g-init
loop-g-init c =
    test_none _

pub next_sum-requires : goal.next_sum-requires
next_sum-requires c =
    record {
      sums_in = c.requires.sums_in;
      g_lt_m = (c.loop-g-test.true, around_at max_kept c.args.self.now.m c.args.sums.now c.loop-g.g c.requires.sums_value c.loop-g-test.true);
    }

pub returns-then-not-is_within : goal.returns-then-not-is_within
returns-then-not-is_within c =
    let here : ℤ =
    let s = c.args in
    sum_next s.self.now.m s.self.now.k s.self.now.amounts.now s.self.now.held.now s.sums.now c.loop-g.g in
    let tested : c.is_within.result ≡ leb (nat_abs here) max_kept =
    c.is_within.ensures under_kept refl refl
    ∙ ap (λ (z : ℤ). leb (nat_abs z) max_kept) (read64 c.next_sum.result c.next_sum.type_inv ∙ c.next_sum.ensures) in
    test_fails _ _ c.loop-g.g c.loop-g-test.true (sym tested ∙ not-true c.is_within.result (mathlib.Core.Path.ap mathlib.Core.Bool.not c.if-not-is_within.true))

pub loop-g-preserved : goal.loop-g-preserved
loop-g-preserved c =
    let here : ℤ =
    let s = c.args in
    sum_next s.self.now.m s.self.now.k s.self.now.amounts.now s.self.now.held.now s.sums.now c.loop-g.g in
    let tested : c.is_within.result ≡ leb (nat_abs here) max_kept =
    c.is_within.ensures under_kept refl refl
    ∙ ap (λ (z : ℤ). leb (nat_abs z) max_kept) (read64 c.next_sum.result c.next_sum.type_inv ∙ c.next_sum.ensures) in
    (test_more _ _ c.loop-g.invariant (sym tested ∙ not-false c.is_within.result (mathlib.Core.Path.ap mathlib.Core.Bool.not c.if-not-is_within.false)))

pub returns : goal.returns
returns c =
    test_ends _ _ _ c.loop-g.auto.g-end c.loop-g-test.false c.loop-g.invariant
