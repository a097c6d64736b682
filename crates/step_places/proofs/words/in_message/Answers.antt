-- `step_places::words::in_message` meets its contract. Assumes nothing.
use mathlib.Core.Path.{ap}
use mathlib.Core.Bool.{Bool, ◌&&◌, not}
use lib.Dec.{eqb}
use Rattle.step_places.specs.Message.{in_message}
use Rattle.step_places.proofs.words.in_message.Goals as goal

pub returns : goal.returns
unfolding in_message
returns c =
    ap (λ (x : Bool). eqb c.args.owner c.args.a && (not (eqb c.args.owner c.args.b) && x)) c.has_bit.ensures
