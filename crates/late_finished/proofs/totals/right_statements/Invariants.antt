-- `late_finished::totals::right_statements` meets its contract: at list q those before it are tested. Assumes nothing.
use mathlib.Core.Path.{◌≡◌}
use Prim.Native.Nat.{suc, ◌*◌}
use Rattle.laws.specs.Below.{all}
use Rattle.late_finished.specs.Tests.{sum_by, right_amounts}
use Rattle.late_finished.proofs.totals.right_statements.Given as goal

abbrev pub invariant-loop-q : goal.invariant-loop-q
invariant-loop-q l =
    l.all ≡ all l.q (λ x. right_amounts l.job.sizes.grocers (suc l.job.sizes.lists) x l.statement (sum_by l.job.sizes.boxes l.job.sizes.tallies l.job.tally_box.now l.job.tally_grocer.now l.job.tally_offer.now
    l.job.tally_count.now l.job.price.now (x * l.job.sizes.offers)))
