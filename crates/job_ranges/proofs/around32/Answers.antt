-- `job_ranges::around32` meets its contract: each word passed is in range. Assumes nothing.
use Rattle.std.proofs.Common.{rules, tests, ◌≡◌, true, false, leb, nat_abs, take}
use Rattle.std.proofs.lemmas.Iterator.{YieldsList-from_slice, cases_from_all}
use Rattle.laws.specs.Limits.{max_count}
use Rattle.model.specs.Ranges.{around}
use lib.IntN.{pos}
use Rattle.job_ranges.proofs.Loops.{all_cases}
use Rattle.job_ranges.proofs.around32.Goals as goal

pub returns : goal.returns
unfolding around
returns c =
    let tested = cases_from_all _ _ c.all.result (λ x. leb (nat_abs x) max_count ≡ true) (λ x. leb (nat_abs x) max_count ≡ false) c.all.ensures.ran
    (YieldsList-from_slice (take c.args.n c.args.s.now) (search rules)) (λ x q k. search (rules, tests)) (λ x q k. search (rules, tests)) in
    all_cases (λ x. leb (nat_abs x) max_count) (pos 0) c.args.n c.args.s.now c.all.result c.requires tested
