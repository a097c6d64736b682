-- `trial::pick_rounds` meets its contract. Assumes nothing.
use Rattle.run.proofs.Ends.{some_same, every_same}
use Rattle.trial.proofs.pick_rounds.Goals as goal

pub put_rounds-requires : goal.put_rounds-requires
put_rounds-requires c =
    (c.requires.2, c.requires.0.done_in_lem, some_same _ _ _ _ _ c.by_owner-receivers.ensures c.waits-waits.ensures c.requires.0.some_job, c.requires.1)

pub returns : goal.returns
returns c =
    record {
      marks_from = c.put_rounds.ensures.marks_from;
      every_job = every_same _ _ _ _ _ c.by_owner-receivers.ensures c.waits-waits.ensures _ c.put_rounds.ensures.every_job;
    }

pub by_owner-receivers-requires : goal.by_owner-receivers-requires
by_owner-receivers-requires c =
    c.requires.0.needs_in

pub waits-waits-requires : goal.waits-waits-requires
waits-waits-requires c =
    c.requires.0.lists_in
