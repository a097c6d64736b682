-- `bag_standing::any_bag` meets its contract. The invariant: what is found is among the bags before this one. Assumes nothing.
use mathlib.Core.Path.{refl, ◌∙◌}
use mathlib.Core.Bool.{not}
use native.Mathlib.Omega.{arith}
use lib.Dec.{eqb}
use Rattle.laws.specs.Below.{any}
use Rattle.laws.proofs.Below.{any_more}
use Rattle.index.proofs.Taken.{any_taken}
use Rattle.bag_standing.specs.Columns.{any_bag}
use Rattle.bag_standing.proofs.any_bag.Goals as goal

pub loop-bag-init : goal.loop-bag-init
unfolding any
loop-bag-init c = refl

pub loop-bag-preserved : goal.loop-bag-preserved
loop-bag-preserved c = any_more _ _ _ _ c.loop-bag.invariant refl

pub returns : goal.returns
unfolding any_bag
returns c = c.loop-bag.invariant ∙ any_taken (λ x. not (eqb x 0)) c.args.n c.loop-bag.bag-index c.args.bags.now c.requires (omega arith)
