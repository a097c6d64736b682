-- `step_places::sent_by` meets its contract: kinds 1 and 4 send a message. Assumes nothing.
use Rattle.step_places.proofs.Sends.{sends_one, sends_none}
use Rattle.step_places.proofs.sent_by.Goals as goal

pub returns-then-kind : goal.returns-then-kind
returns-then-kind c =
    sends_one c.args.kind c.requires.1 c.if-kind.true

pub returns : goal.returns
returns c =
    sends_none c.args.kind c.requires.0 c.requires.1 c.if-kind.false
