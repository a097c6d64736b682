-- `bag_standing::standing_boxes` meets its contract. Assumes nothing.
use mathlib.Core.Path.{refl, sym, ◌∙◌}
use native.Mathlib.Omega.{arith}
use Rattle.laws.proofs.Tables.{filled_right}
use Rattle.index.proofs.Loose.{loose_once, loose_struck}
use Rattle.bag_standing.proofs.Filling.{all_loose}
use Rattle.bag_standing.proofs.standing_boxes.Goals as goal

pub returns : goal.returns
returns c =
    let all = all_loose c.requires.columns (sym c.any_bag.ensures ∙ c.if-any_bag.false) in
    record {
      value = sym (loose_once _ all);
      struck = λ e. loose_struck _ all refl c.args.tally_box.now c.copy.new.dst (omega (arith, c.copy.auto.dst, c.requires.n_in_bounds.1)) (filled_right 0 _ _ _ _ c.copy.ensures);
    }
