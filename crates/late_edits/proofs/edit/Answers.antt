-- `late_edits::edit` meets its contract: the words that moved up, and one behind them. Assumes nothing.
use Rattle.late_edits.proofs.Moving.{edit_one}
use Rattle.late_edits.proofs.edit.Goals as goal

pub returns : goal.returns
returns g c =
    λ z. edit_one c.args.p c.args.n z c.args.x c.args.s.now c.move_up.new.s c.requires.0 c.requires.1 c.move_up.auto.s (c.move_up.ensures z)
