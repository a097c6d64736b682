-- `bag_standing::any_bag` meets its contract. The invariant: what is found is among the bags before this one. Assumes nothing.
use mathlib.Core.Path.{◌≡◌}
use mathlib.Core.Bool.{not}
use lib.Dec.{eqb}
use lib.ListN.{get_or}
use Rattle.laws.specs.Below.{any}
use Rattle.bag_standing.proofs.any_bag.Given as goal

abbrev pub invariant-loop-bag : goal.invariant-loop-bag
invariant-loop-bag l = l.found ≡ any l.bag-index (λ t. not (eqb (get_or l.bag-items t 0) 0))
