-- `step_links::put_first` meets its contract. Assumes nothing.
use native.Mathlib.Omega.{arith}
use lib.ListN.{length-set}
use Rattle.step_links.proofs.put_first.Goals as goal

pub bounds-links-v-2 : goal.bounds-links-v-2
bounds-links-v-2 c =
    simp length-set (omega (arith, c.requires))
