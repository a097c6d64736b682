-- `file_blocks::twice::bags_twice` meets its contract. Assumes nothing.
use mathlib.Core.Path.{sym, ap, ◌∙◌}
use mathlib.Core.Bool.{not}
use lib.Dec.{eqb}
use Rattle.laws.specs.Below.{any}
use Rattle.format.specs.Job.{Head}
use Rattle.format.specs.File.{decode}
use Rattle.file_blocks.proofs.Last.{no_bags}
use Rattle.file_blocks.proofs.twice.bags_twice.Goals as goal

-- No bag is other than 0.
pub returns-else-any_bag : goal.returns-else-any_bag
returns-else-any_bag c =
    let f = c.args.file.now.bytes.now in
    let n = ap (λ (h : Head). any h.tallies (λ t. not (eqb ((decode f).tally t).bag 0))) (sym c.args.file.now.whole.says) in
    c.if-any_bag.false ∙ sym (no_bags (decode f) (n ∙ sym c.any_bag.ensures ∙ c.if-any_bag.false))
