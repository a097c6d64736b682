-- `run_order::chosen` meets its contract: each choice puts one step into the order. Assumes nothing.
use mathlib.Core.Path.{◌≡◌, refl, sym, ◌∙◌}
use mathlib.Core.List.{[]}
use Prim.Native.Nat.{◌*◌}
use native.Mathlib.Omega.{arith}
use lib.ListN.{length}
use borrow.Author.Tests.{eq-eqb}
use Rattle.laws.specs.Below.{count}
use Rattle.run_ready.specs.Walk.{listed_of}
use Rattle.run_ready.specs.Rows.{IsRows}
use Rattle.run_ready_rows.proofs.ByRow.{rows_few, rows_ready}
use Rattle.run_order.proofs.Pick.{kept_none, kept_both, kept_over, kept_last}
use Rattle.run_order.proofs.Found.{ready_of, walk_on, marks_own, marks_over}
use Rattle.run_order.proofs.chosen.Goals as goal

pub loop-i-init : goal.loop-i-init
loop-i-init c = record {
  marks_from = c.requires.walk_in.1;
  kept = λ j o. kept_none j _ _ 0 _ (c.requires.every_job j o);
  rows_are = c.rows_for-rows.ensures;
}

pub ready_steps-ready-requires : goal.ready_steps-ready-requires
ready_steps-ready-requires c =
    let rows_at : IsRows c.args.rules.now.boxes (listed_of c.args.rules.now c.loop-i.done) c.loop-i.rows =
    c.loop-i.invariant.rows_are (omega (arith, c.loop-i-test.true)) in
    rows_few _ _ _ rows_at c.requires.walk_in.0.boxes_in

pub returns-then-ready-eq0 : goal.returns-then-ready-eq0
returns-then-ready-eq0 c =
    let v = c.loop-i.invariant in
    let rows_at : IsRows c.args.rules.now.boxes (listed_of c.args.rules.now c.loop-i.done) c.loop-i.rows =
    c.loop-i.invariant.rows_are (omega (arith, c.loop-i-test.true)) in
    let ready_at : c.ready_steps-ready.result ≡ count (6 * c.args.rules.now.boxes * c.args.rules.now.boxes) (listed_of c.args.rules.now c.loop-i.done) =
    c.ready_steps-ready.ensures ∙ rows_ready _ _ _ rows_at in
    record {
      marks_from = v.marks_from;
      every_job_2 = λ j o. kept_over j _ _ 0 _ _ _ _ _ [] (v.kept j o) (eq-eqb _ 0 (sym (ready_of _ _ _ j o _) ∙ sym ready_at ∙ c.if-ready-eq0.true));
    }

pub choose-requires : goal.choose-requires
choose-requires c =
    let v = c.loop-i.invariant in
    let rows_at : IsRows c.args.rules.now.boxes (listed_of c.args.rules.now c.loop-i.done) c.loop-i.rows =
    c.loop-i.invariant.rows_are (omega (arith, c.loop-i-test.true)) in
    let ready_at : c.ready_steps-ready.result ≡ count (6 * c.args.rules.now.boxes * c.args.rules.now.boxes) (listed_of c.args.rules.now c.loop-i.done) =
    c.ready_steps-ready.ensures ∙ rows_ready _ _ _ rows_at in
    record {
      walk_in = (walk_on _ _ _ v.marks_from c.requires.walk_in.0, marks_own _ _ _ v.marks_from, c.requires.walk_in.2);
      rows = rows_at;
      i_in_bounds = (c.loop-i-test.true, omega (arith, c.if-ready-eq0.false), ready_at);
      every_job = λ j o. (v.kept j o).picked;
    }

pub loop-i-preserved : goal.loop-i-preserved
loop-i-preserved c =
    let v = c.loop-i.invariant in
    record {
      marks_from = marks_over _ _ _ v.marks_from _ c.choose.ensures.marks_from.0;
      kept = λ j o. kept_both j _ _ 0 _ _ _ _ _ _ _ _ _ (v.kept j o) (c.choose.ensures.every_job_2 j o);
      rows_are = λ _. c.choose.ensures.marks_from.1;
    }

pub returns : goal.returns
returns c =
    let end : c.loop-i.i ≡ length c.args.choices.now = omega arith in
    record {
      marks_from = c.loop-i.invariant.marks_from;
      every_job_2 = λ j o. kept_last j _ _ 0 _ _ _ c.loop-i.i _ (c.loop-i.invariant.kept j o) end refl;
    }
