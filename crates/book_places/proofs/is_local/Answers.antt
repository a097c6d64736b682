-- `book_places::is_local` meets its contract. Assumes nothing.
use mathlib.Core.Path.{ap}
use mathlib.Core.Bool.{Bool, ◌||◌}
use lib.Dec.{eqb}
use Rattle.book_places.proofs.is_local.Goals as goal

pub returns : goal.returns
returns c =
    ap (λ (x : Bool). eqb c.args.owner c.args.b || x) c.has_bit.ensures
