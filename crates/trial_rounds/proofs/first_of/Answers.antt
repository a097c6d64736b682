-- `trial_rounds::first_of` meets its contract. Assumes nothing.
use Prim.Native.Nat.{◌/◌}
use native.Mathlib.Nat.{mod-lt}
use Rattle.trial_rounds.proofs.first_of.Goals as goal

pub returns : goal.returns
returns c =
    (c.from.ensures, rw c.from.ensures (mod-lt (c.args.place / c.args.k) c.requires))
