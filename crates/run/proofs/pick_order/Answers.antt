-- `run::pick_order` meets its contract. Assumes nothing.
use Rattle.run.proofs.Ends.{run_few, some_same, every_same}
use Rattle.run.proofs.pick_order.Goals as goal

pub put_order-requires : goal.put_order-requires
put_order-requires c =
    record {
      walk_in = (c.requires.0.done_in_lem, some_same _ _ _ _ _ c.by_owner-receivers.ensures c.waits-waits.ensures c.requires.0.some_job, c.requires.1);
      every_job = λ j p. run_few j p.boxes_in _;
    }

pub returns : goal.returns
returns c =
    record {
      marks_from = c.put_order.ensures.marks_from;
      every_job = every_same _ _ _ _ _ c.by_owner-receivers.ensures c.waits-waits.ensures _ c.put_order.ensures.every_job_2;
    }

pub by_owner-receivers-requires : goal.by_owner-receivers-requires
by_owner-receivers-requires c =
    c.requires.0.needs_in

pub waits-waits-requires : goal.waits-waits-requires
waits-waits-requires c =
    c.requires.0.lists_in
