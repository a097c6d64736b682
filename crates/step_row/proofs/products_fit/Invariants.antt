-- `step_row::products_fit` meets its contract. The invariant: the rows of the lists passed are in range. Assumes nothing.
use mathlib.Core.Path.{◌≡◌}
use mathlib.Core.Bool.{true}
use Prim.Native.Nat.{◌≤◌, ◌*◌}
use Rattle.laws.specs.Below.{all}
use Rattle.laws.specs.Limits.{max_amount}
use Rattle.model.specs.Ranges.{around}
use Rattle.step_totals.specs.Row.{brings, placed}
use Rattle.step_row.specs.Row.{row_of}
use Rattle.step_row.proofs.products_fit.Given as goal

abbrev pub invariant-loop-q : goal.invariant-loop-q
invariant-loop-q l =
    (l.q ≤ l.part.width) × (all l.q
    (λ k. around max_amount l.part.len (row_of l.part.start l.part.len l.part.width k (placed l.job.sizes.tallies l.part.width l.tally_place
    (brings l.job.offer_owner.now l.job.tally_box.now l.job.tally_offer.now l.job.tally_count.now l.prices l.a l.from (l.a * (l.job.sizes.offers * l.part.width)) l.part.width) l.working))) ≡ true)
