-- `trial::lists_short` meets its contract. Assumes nothing.
use Rattle.trial.proofs.lists_short.Goals as goal

pub returns : goal.returns
returns c =
    rw c.from.ensures
