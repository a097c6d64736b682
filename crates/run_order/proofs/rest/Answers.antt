-- `run_order::rest` meets its contract: at place i no step of an earlier place is ready. Assumes nothing.
use mathlib.Core.Path.{◌≡◌, ◌∙◌}
use mathlib.Core.List.{[]}
use native.Mathlib.Omega.{arith}
use Rattle.step_places.proofs.Walking.{at_first, at_next, at_in}
use Rattle.step_places.proofs.Left.{none_first}
use Rattle.run_order.proofs.Pick.{kept_none, kept_both}
use Rattle.run_order.proofs.Found.{walk_on, ended_of, marks_own, marks_over}
use Rattle.run_order.proofs.rest.Goals as goal

pub loop-i-init : goal.loop-i-init
loop-i-init c = record {
  at = at_first _ c.requires.walk_in.0.some;
  marks_from = c.requires.walk_in.1;
  kept = λ j o. kept_none j _ _ _ [] (c.requires.every_job j o);
  none = λ j o. none_first j _;
}

pub turn-words-requires : goal.turn-words-requires
turn-words-requires c =
    let v = c.loop-i.invariant in
    record {
      place_in = at_in _ c.loop-i.i _ _ _ c.requires.walk_in.0.boxes_in v.at (omega (arith, c.loop-i-test.true, c.marks-places.ensures));
      walk_in = (walk_on _ _ _ v.marks_from c.requires.walk_in.0, marks_own _ _ _ v.marks_from, c.requires.walk_in.2);
      every_job = λ j o. (v.kept j o).picked;
      every_job_2 = λ j o. rw v.at.place_is (v.none j o);
    }

pub next-p-requires : goal.next-p-requires
next-p-requires c =
    at_in _ c.loop-i.i _ _ _ c.requires.walk_in.0.boxes_in c.loop-i.invariant.at (omega (arith, c.loop-i-test.true, c.marks-places.ensures))

pub loop-i-preserved : goal.loop-i-preserved
loop-i-preserved c =
    let v = c.loop-i.invariant in
    record {
      at = at_next _ c.loop-i.i _ _ _ _ _ _ v.at c.next-p.ensures;
      marks_from = marks_over _ _ _ v.marks_from _ c.turn-words.ensures.marks_from;
      kept = λ j o. kept_both j _ _ _ _ _ _ _ _ _ _ _ _ (v.kept j o) (c.turn-words.ensures.every_job_3 j o).kept;
      none = λ j o. rw v.at.place_is at (c.turn-words.ensures.every_job_3 j o).none;
    }

pub returns : goal.returns
returns c =
    let v = c.loop-i.invariant in
    let end : c.loop-i.i ≡ c.marks-places.result = omega arith in
    record {
      marks_from = v.marks_from;
      every_job_2 = λ j o. ended_of _ _ _ j o _ _ _ _ _ _ c.loop-i.i (end ∙ c.marks-places.ensures) (v.kept j o) (v.none j o);
    }
