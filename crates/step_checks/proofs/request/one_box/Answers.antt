-- `step_checks::request::one_box` meets its contract. Assumes nothing.
use Rattle.step_checks.proofs.Asked.{one_box_lem}
use Rattle.step_checks.proofs.request.one_box.Goals as goal

pub returns : goal.returns
returns c =
    one_box_lem c.args.kind c.requires.0 c.requires.1
