-- `trial_rounds::times` meets its contract. Assumes nothing.
use mathlib.Core.Path.{◌≡◌, ◌∙◌}
use lib.Dec.{eqb}
use lib.ListN.{take}
use borrow.Author.Rules.{rules}
use Rattle.std.specs.List.{count_by}
use Rattle.trial_rounds.proofs.Taken.{count_take}
use Rattle.trial_rounds.proofs.times.Goals as goal

pub returns : goal.returns
returns c =
    let counted : c.count.result ≡ count_by (λ x. eqb x c.args.kind) (take 6 c.args.list.now) = search rules in
    counted ∙ count_take (λ x. eqb x c.args.kind) c.args.list.now 6 c.requires
