-- `trial_rounds::act` meets its contract: the step is put into the order and the rows are made anew. Assumes nothing.
use mathlib.Core.Path.{◌≡◌, refl, ap, ◌∙◌}
use Rattle.model.specs.Tables.{steps_done}
use Rattle.run_ready_renew.proofs.Changed.{rows_before}
use Rattle.run_order.proofs.Found.{marked_steps, marks_long}
use Rattle.trial_rounds.proofs.act.Goals as goal

pub put_step-requires : goal.put_step-requires
put_step-requires c =
    let may = c.requires.may c.in-Some.p c.in-Some.is in
    (may.place_in, c.requires.marks_from, may.room)

pub renew-requires : goal.renew-requires
renew-requires c =
    let may = c.requires.may c.in-Some.p c.in-Some.is in
    let p = may.place_in in
    let k = c.args.rules.now.boxes in
    record {
      marks_in = record { kind_from = p.kind_from; kind_to = p.kind_to; boxes_in = p.boxes_in; a_in = p.a_in; b_in = p.b_in; done_long = marks_long _ _ _ c.put_step.ensures.2 };
      rows_before = rows_before k _ _ _ c.args.rules.now.receivers.now c.args.rules.now.waits.now c.args.done.now _ c.args.rows.now
          (ap (steps_done k) c.put_step.ensures.0 ∙ marked_steps k _ _ _ c.args.done.now p.a_in p.b_in) may.is_open c.requires.rows_are;
    }

pub returns : goal.returns
returns c = record {
  marks_from = c.put_step.ensures.2;
  rows_are = c.renew.ensures;
  none = λ z. absurd (cc);
  some = λ q e. let same : c.in-Some.p ≡ q = cc in rw (← same) (c.put_step.ensures.0, c.put_step.ensures.1, refl);
}
