-- `run_order::choose` meets its contract: the step that the choice picks is put into the order. Assumes nothing.
use mathlib.Core.Path.{ap, ◌∙◌}
use Prim.Native.Nat.{◌*◌, ◌%◌, ◌<◌}
use native.Mathlib.Nat.{mod-lt}
use lib.ListN.{get_or}
use Rattle.laws.specs.Below.{count, nth}
use Rattle.model.specs.Tables.{steps_done}
use Rattle.step_places.specs.Places.{Found}
use Rattle.run_ready.specs.Walk.{listed_by}
use Rattle.run_ready_rows.proofs.ByRow.{rows_few}
use Rattle.run_ready_renew.proofs.Changed.{rows_before}
use Rattle.run_order.proofs.Found.{marked_steps, found_open, room_of, kept_of, marks_long}
use Rattle.run_order.proofs.choose.Goals as goal

pub find_in-p-requires : goal.find_in-p-requires
find_in-p-requires c =
    (c.requires.walk_in.0.some, rows_few _ _ _ c.requires.rows c.requires.walk_in.0.boxes_in)

pub put_step-requires : goal.put_step-requires
put_step-requires c =
    let below : get_or c.args.choices.now c.args.i 0 % c.args.ready
    < count (6 * c.args.rules.now.boxes * c.args.rules.now.boxes) (listed_by c.args.rules.now.boxes c.args.rules.now.receivers.now c.args.rules.now.waits.now c.args.done.now) =
    rw (← c.requires.i_in_bounds.2) (mod-lt (get_or c.args.choices.now c.args.i 0) c.requires.i_in_bounds.1) in
    let picked : Found c.args.rules.now.boxes (nth (6 * c.args.rules.now.boxes * c.args.rules.now.boxes) (listed_by c.args.rules.now.boxes c.args.rules.now.receivers.now c.args.rules.now.waits.now c.args.done.now)
    (get_or c.args.choices.now c.args.i 0 % c.args.ready)) c.find_in-p.result.kind c.find_in-p.result.first c.find_in-p.result.second =
    c.find_in-p.ensures _ c.requires.rows (below) in
    let g = picked in
    let w = c.requires.walk_in.2 in
    let n = c.requires.i_in_bounds in (
      g.place_in,
      c.requires.walk_in.1,
      room_of c.args.rules.now.boxes _ _ w.job w.of_it c.args.done.now c.args.choices.now c.args.i n.0 c.args.ready n.1 n.2 c.args.order.now
          (c.requires.every_job w.job w.of_it) _ _ _ g,
    )

pub renew-requires : goal.renew-requires
renew-requires c =
    let below : get_or c.args.choices.now c.args.i 0 % c.args.ready
    < count (6 * c.args.rules.now.boxes * c.args.rules.now.boxes) (listed_by c.args.rules.now.boxes c.args.rules.now.receivers.now c.args.rules.now.waits.now c.args.done.now) =
    rw (← c.requires.i_in_bounds.2) (mod-lt (get_or c.args.choices.now c.args.i 0) c.requires.i_in_bounds.1) in
    let picked : Found c.args.rules.now.boxes (nth (6 * c.args.rules.now.boxes * c.args.rules.now.boxes) (listed_by c.args.rules.now.boxes c.args.rules.now.receivers.now c.args.rules.now.waits.now c.args.done.now)
    (get_or c.args.choices.now c.args.i 0 % c.args.ready)) c.find_in-p.result.kind c.find_in-p.result.first c.find_in-p.result.second =
    c.find_in-p.ensures _ c.requires.rows (below) in
    let g = picked in
    let p = g.place_in in
    record {
      marks_in = record { kind_from = p.kind_from; kind_to = p.kind_to; boxes_in = p.boxes_in; a_in = p.a_in; b_in = p.b_in; done_long = marks_long _ _ _ c.put_step.ensures.2 };
      rows_before = rows_before c.args.rules.now.boxes _ _ _ c.args.rules.now.receivers.now c.args.rules.now.waits.now c.args.done.now _ c.args.rows.now
          (ap (steps_done c.args.rules.now.boxes) c.put_step.ensures.0 ∙ marked_steps c.args.rules.now.boxes _ _ _ c.args.done.now p.a_in p.b_in)
          (found_open c.args.rules.now.boxes _ _ c.args.done.now _ _ _ _ below g) c.requires.rows;
    }

pub returns : goal.returns
returns c =
    let below : get_or c.args.choices.now c.args.i 0 % c.args.ready
    < count (6 * c.args.rules.now.boxes * c.args.rules.now.boxes) (listed_by c.args.rules.now.boxes c.args.rules.now.receivers.now c.args.rules.now.waits.now c.args.done.now) =
    rw (← c.requires.i_in_bounds.2) (mod-lt (get_or c.args.choices.now c.args.i 0) c.requires.i_in_bounds.1) in
    let picked : Found c.args.rules.now.boxes (nth (6 * c.args.rules.now.boxes * c.args.rules.now.boxes) (listed_by c.args.rules.now.boxes c.args.rules.now.receivers.now c.args.rules.now.waits.now c.args.done.now)
    (get_or c.args.choices.now c.args.i 0 % c.args.ready)) c.find_in-p.result.kind c.find_in-p.result.first c.find_in-p.result.second =
    c.find_in-p.ensures _ c.requires.rows (below) in
    let n = c.requires.i_in_bounds in
    record {
      marks_from = (c.put_step.ensures.2, c.renew.ensures);
      every_job_2 = λ j o. kept_of c.args.rules.now.boxes _ _ j o c.args.done.now c.args.choices.now c.args.i n.0 c.args.ready n.1 n.2 c.args.order.now
          (c.requires.every_job j o) _ _ _ picked _ _ c.put_step.ensures.0 c.put_step.ensures.1;
    }
