-- `run_order::put_step` meets its contract. Assumes nothing.
use mathlib.Core.Path.{ap, ◌∙◌}
use native.Mathlib.Omega.{arith}
use lib.ListN.{set}
use Rattle.run_order.specs.Order.{MarksFrom}
use Rattle.step_rules.proofs.Marked.{marks_few}
use Rattle.run_order.proofs.Found.{place-below, marked_from, marks_long, marks_bit}
use Rattle.run_order.proofs.put_step.Goals as goal

pub overflow_cast-order : goal.overflow_cast-order
overflow_cast-order c =
    let p = c.requires.0 in
    omega (arith, c.place-at.ensures, place-below c.args.k _ _ _ p, marks_few c.args.k p.boxes_in)

pub mark-requires : goal.mark-requires
mark-requires c =
    let p = c.requires.0 in
    let d = c.args.done.now in record {
      marks_in = record { kind_from = p.kind_from; kind_to = p.kind_to; boxes_in = p.boxes_in; a_in = p.a_in; b_in = p.b_in; done_long = marks_long c.args.k d d c.requires.1 };
      done_value = marks_bit c.args.k d d c.requires.1;
    }

pub returns : goal.returns
unfolding MarksFrom
returns c = (
  c.mark.ensures.0,
  ap (set c.args.order.now c.args.n) c.place-at.ensures,
  c.mark.ensures.0 ∙ marked_from c.args.k _ _ _ c.args.done.now c.requires.0.a_in c.requires.0.b_in _ c.mark.ensures.0,
)
