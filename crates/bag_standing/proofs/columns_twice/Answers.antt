-- `bag_standing::columns_twice` meets its contract. Assumes nothing.
use mathlib.Core.Path.{sym, ◌∙◌}
use Rattle.index.proofs.Loose.{loose_once}
use Rattle.bag_standing.proofs.Filling.{all_loose}
use Rattle.bag_standing.proofs.columns_twice.Goals as goal

pub returns : goal.returns
returns c = sym (loose_once _ (all_loose c.requires (sym c.any_bag.ensures ∙ c.if-any_bag.false)))
