-- `cycle_store::limits::all_within` meets its contract: the tests of the words, folded. Assumes nothing.
use mathlib.Core.Path.{◌∙◌}
use mathlib.Core.Bool.{Bool, true, ◌&&◌}
use Prim.Native.Nat.{suc}
use lib.ListN.{take}
use lib.IntN.{ℤ, pos, nat_abs}
use lib.Dec.{leb}
use Rattle.std.proofs.Common.{rules, tests}
use Rattle.std.proofs.lemmas.Iterator.{YieldsList-from_slice}
use Rattle.std.proofs.lemmas.Iterator.Consumers.{fold_from_yields_List}
use Rattle.laws.proofs.Signed.{read64}
use Rattle.model.specs.Ranges.{around}
use Rattle.job_ranges.proofs.Loops.{all_fold}
use Rattle.cycle_store.proofs.limits.all_within.Goals as goal

pub returns : goal.returns
unfolding around
returns c =
    λ k below above.
    let within : ℤ → Bool = λ x. leb (nat_abs x) (suc k) in
    let l = read64 c.args.least c.ranges.least.sfits ∙ below in
    let m = read64 c.args.most c.ranges.most.sfits ∙ above in
    fold_from_yields_List _ (λ b x. b && within x) true c.fold.result c.fold.ensures.ran (YieldsList-from_slice (take c.args.n c.args.s.now) (search rules)) (λ a x b q h. search (rules, tests, l, m))
    ∙ all_fold within (pos 0) c.args.n c.args.s.now c.requires
