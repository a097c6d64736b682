-- `job_ranges::is_count` meets its contract: the two tests are the size's. Assumes nothing.
use mathlib.Core.Path.{sym, ap, ◌∙◌}
use lib.IntN.{ℤ, negsuc}
use lib.Signed.{le_z}
use Rattle.laws.proofs.Signed.{read32, over_by, not_over_by}
use Rattle.job_ranges.proofs.is_count.Goals as goal

pub returns-then-x-gt-MAX_COUNT : goal.returns-then-x-gt-MAX_COUNT
returns-then-x-gt-MAX_COUNT c =
    let x = c.args.x in
    sym (over_by 99_999 x (cc (read32 x c.ranges.x.sfits, c.if-x-gt-MAX_COUNT.true)))

pub returns : goal.returns
returns c =
    let x = c.args.x in
    let e = read32 x c.ranges.x.sfits in
    ap (λ (z : ℤ). le_z (negsuc 99_998) z) e ∙ not_over_by 99_998 x (cc (e, c.if-x-gt-MAX_COUNT.false))
