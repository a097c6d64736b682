-- `step_places::words::reaches` meets its contract. Assumes nothing.
use Rattle.step_places.specs.Message.{reaches}
use Rattle.step_places.proofs.words.reaches.Goals as goal

pub returns : goal.returns
unfolding reaches
returns c =
    rw (c.has_bit.ensures, c.from.ensures)
