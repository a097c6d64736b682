-- `forecast_doubles::checks::bad_lines` meets its contract: before line i the last line of each offer before it is known. Assumes nothing.
use mathlib.Core.Path.{◌≡◌, refl, sym, ◌∙◌}
use Prim.Native.Nat.{◌≤◌, ◌<◌}
use native.Mathlib.Omega.{arith}
use lib.ListN.{get_or, replicate}
use Rattle.model.proofs.Step.{under_at}
use Rattle.forecast_doubles.proofs.Seen.{zeros, seen_none, seen_more, last_few, value_in_lem, bad_yes, bad_no}
use Rattle.forecast_doubles.proofs.checks.bad_lines.Goals as goal

pub loop-i-init : goal.loop-i-init
loop-i-init c =
    seen_none _ _ _ (replicate 500 0) refl (zeros 500)

pub line_bad-requires : goal.line_bad-requires
line_bad-requires c =
    let t : c.loop-i.i < c.args.n = c.loop-i-test.true in
    let few : get_or c.loop-i.seen c.index_at-o.result 0 ≤ c.loop-i.i = last_few _ _ _ c.loop-i.i c.loop-i.seen c.loop-i.invariant c.index_at-o.result in
    record {
      i_in_bounds = (omega (arith, c.requires.n_bound.1.1.0), (omega (arith, c.requires.n_bound.1.1.1), few));
      by_index = λ k h. value_in_lem _ _ _ c.loop-i.i c.loop-i.seen c.loop-i.invariant k (omega (arith, few));
    }

pub returns-then-line_bad : goal.returns-then-line_bad
returns-then-line_bad c =
    bad_yes _ _ _ c.loop-i.i c.index_at-o.result c.loop-i.seen c.loop-i.invariant c.index_at-o.ensures.0 _ c.loop-i-test.true (sym c.line_bad.ensures ∙ c.if-line_bad.true)

pub loop-i-preserved : goal.loop-i-preserved
loop-i-preserved c =
    let inside : c.index_at-o.result < 500 =
    omega (arith, c.index_at-o.ensures.0, under_at 500 c.args.n c.args.line_offer.now c.loop-i.i c.requires.line_offer_value c.loop-i-test.true) in
    seen_more _ _ _ c.loop-i.i c.index_at-o.result c.loop-i.seen c.loop-i.invariant c.index_at-o.ensures.0 (sym c.line_bad.ensures ∙ c.if-line_bad.false) inside

pub returns : goal.returns
returns c =
    let e : c.loop-i.i ≡ c.args.n = omega (arith, c.loop-i.auto.i-end, c.loop-i-test.false) in
    bad_no _ _ _ _ c.loop-i.seen (rw e at c.loop-i.invariant)

pub bounds-seen-o-in-loop-i : goal.bounds-seen-o-in-loop-i
bounds-seen-o-in-loop-i c =
    omega (arith, c.index_at-o.ensures.0, under_at 500 c.args.n c.args.line_offer.now c.loop-i.i c.requires.line_offer_value c.loop-i-test.true)

pub bounds-seen-o : goal.bounds-seen-o
bounds-seen-o c =
    omega (arith, c.index_at-o.ensures.0, under_at 500 c.args.n c.args.line_offer.now c.loop-i.i c.requires.line_offer_value c.loop-i-test.true)
