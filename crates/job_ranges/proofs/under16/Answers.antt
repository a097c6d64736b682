-- `job_ranges::under16` meets its contract: the tests of the words, folded. Assumes nothing.
use Rattle.std.proofs.Common.{rules, tests, ◌∙◌, ◌&&◌, true, ltb, take}
use Rattle.std.proofs.lemmas.Iterator.{YieldsList-from_slice}
use Rattle.std.proofs.lemmas.Iterator.Consumers.{fold_from_yields_List}
use Rattle.model.specs.Ranges.{under}
use Rattle.job_ranges.proofs.Loops.{all_fold}
use Rattle.job_ranges.proofs.under16.Goals as goal

pub returns : goal.returns
unfolding under
returns c =
    let m = c.args.m in
    fold_from_yields_List _ (λ b x. b && ltb x m) true c.fold.result c.fold.ensures.ran (YieldsList-from_slice (take c.args.n c.args.s.now) (search rules)) (λ a x b q k. search (rules, tests))
    ∙ all_fold (λ x. ltb x m) 0 c.args.n c.args.s.now c.requires
