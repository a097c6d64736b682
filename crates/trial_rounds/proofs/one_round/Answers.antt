-- `trial_rounds::one_round` meets its contract: the boxes before a have had their turn. Assumes nothing.
use mathlib.Core.Path.{◌≡◌}
use native.Mathlib.Omega.{arith}
use Rattle.run_ready.specs.Walk.{listed_of}
use Rattle.trial_rounds.specs.Taken.{Best}
use Rattle.run_order.proofs.Found.{marks_own, marks_over}
use Rattle.trial_rounds.proofs.Turns.{part_none, part_end, may_of, turn_of}
use Rattle.trial_rounds.proofs.one_round.Goals as goal

pub loop-a-init : goal.loop-a-init
loop-a-init c = record { marks_from = c.requires.liking.1; rows_are = c.requires.rows_2; part = λ j o. part_none j _ _ _ _ (c.requires.every_job j o) }

pub best-s-requires : goal.best-s-requires
best-s-requires c = (c.requires.liking.0, omega arith)

pub act-words-requires : goal.act-words-requires
act-words-requires c =
    let v = c.loop-a.invariant in
    let q = c.requires.liking.2 in
    let best_of : Best c.args.rules.now.boxes c.args.list.now (listed_of c.args.rules.now c.args.done.now) c.loop-a.a c.best-s.result =
    c.best-s.ensures _ c.requires.rows in
    record {
      marks_from = marks_own _ _ _ v.marks_from;
      rows_are = v.rows_are;
      may = may_of c.args.rules.now.boxes _ _ _ c.requires.liking.0 q.job q.of_it _ _ _ (c.requires.every_job q.job q.of_it) c.loop-a.a c.loop-a-test.true _ _ _ (v.part q.job q.of_it) _ best_of;
    }

pub loop-a-preserved : goal.loop-a-preserved
loop-a-preserved c =
    let v = c.loop-a.invariant in
    let best_of : Best c.args.rules.now.boxes c.args.list.now (listed_of c.args.rules.now c.args.done.now) c.loop-a.a c.best-s.result =
    c.best-s.ensures _ c.requires.rows in
    record {
      marks_from = marks_over _ _ _ v.marks_from _ c.act-words.ensures.marks_from;
      rows_are = c.act-words.ensures.rows_are;
      part = λ j o. turn_of c.args.rules.now.boxes _ _ _ c.requires.liking.0 j o _ _ _ (c.requires.every_job j o) c.loop-a.a c.loop-a-test.true _ _ _ (v.part j o) _ best_of _ _ _ _ c.act-words.ensures;
    }

pub returns : goal.returns
returns c =
    let v = c.loop-a.invariant in
    let end : c.loop-a.a ≡ c.args.rules.now.boxes = omega arith in
    record {
      marks_from = (v.marks_from, v.rows_are);
      every_job_2 = λ j o. part_end j _ _ _ _ _ _ _ _ _ end (v.part j o);
    }
