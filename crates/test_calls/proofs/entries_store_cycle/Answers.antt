-- `test_calls::entries_store_cycle` gives what the store gives. Assumes nothing.
use Rattle.test_calls.proofs.Told.{store_told_lem}
use Rattle.test_calls.proofs.entries_store_cycle.Goals as goal

pub returns : goal.returns
returns c =
    store_told_lem _ _ _ _ c.number.ensures c.store_cycle-answer.ensures

pub shape_of-next : goal.shape_of-next
shape_of-next c =
    c.store_cycle-answer.auto.next

pub shape_of-held : goal.shape_of-held
shape_of-held c =
    c.store_cycle-answer.auto.held

pub shape_of-sums : goal.shape_of-sums
shape_of-sums c =
    c.store_cycle-answer.auto.sums
