-- `settle::due::due_run` meets its contract: the order is all steps that the job has, and they are done. Assumes nothing.
use mathlib.Core.Path.{refl}
use native.Mathlib.Omega.{arith}
use borrow.Author.Rules.{rules}
use lib.ListN.{replicate}
use Rattle.settle.proofs.Run.{needs_in, sharers_in, order_in, all_in, due_out}
use Rattle.settle.proofs.due.due_run.Goals as goal

pub needs-needs-requires : goal.needs-needs-requires
needs-needs-requires c =
    needs_in _ c.requires.0

pub sharers-sharers-requires : goal.sharers-sharers-requires
sharers-sharers-requires c =
    sharers_in _ c.requires.0

pub due_order-n-requires : goal.due_order-n-requires
due_order-n-requires c =
    let p = order_in _ c.requires.0 _ _ c.needs-needs.ensures c.sharers-sharers.ensures (replicate 1536 0) refl in
    record { le_boxes = p.0; owned = p.1 }

pub all_steps-all-requires : goal.all_steps-all-requires
all_steps-all-requires c =
    all_in _ c.requires.0 _ _ c.needs-needs.ensures c.sharers-sharers.ensures _ _ c.due_order-n.ensures.0 c.due_order-n.ensures.1 c.due_order-n.ensures.2 _ _ _ _ _ refl refl refl refl c.requires.1

pub overflow_cast-result : goal.overflow_cast-result
overflow_cast-result c =
    omega (arith, c.due_order-n.ensures.0)

pub returns : goal.returns
returns c =
    let out =
    due_out _ c.requires.0 _ _ c.needs-needs.ensures c.sharers-sharers.ensures _ _ c.due_order-n.ensures.0 c.due_order-n.ensures.1 c.due_order-n.ensures.2 _ _ _ _ c.all_steps-all.ensures.done in
    search (rules, out)
