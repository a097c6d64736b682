-- `step_row::add_taken` meets its contract. Assumes nothing.
use mathlib.Core.Path.{◌≡◌, sym, ap, ◌∙◌}
use mathlib.Core.Bool.{Bool, true}
use Prim.Native.Nat.{ℕ, ◌-◌}
use lib.ListN.{get_or}
use lib.IntN.{ℤ}
use Rattle.laws.specs.Below.{integers, only}
use Rattle.laws.proofs.Sums.{only_yes, only_no}
use Rattle.step_totals.specs.Row.{is_taken, product_at}
use Rattle.step_row.specs.Row.{raised_at}
use Rattle.step_row.proofs.Rows.{raised_none}
use Rattle.step_row.proofs.add_taken.Goals as goal

pub returns-else-is_taken : goal.returns-else-is_taken
unfolding only integers
returns-else-is_taken c =
    let taken : Bool =
    is_taken c.args.job.now.offer_owner.now c.args.job.now.tally_box.now c.args.job.now.tally_offer.now c.args.a c.args.from c.args.i in
    let product : ℤ =
    product_at c.args.job.now.tally_offer.now c.args.job.now.tally_count.now c.args.prices.now c.args.at c.args.part.width c.args.q c.args.i in
    let place : ℕ =
    get_or c.args.tally_place.now c.args.i 0 - c.args.part.start in
    raised_none c.args.row.now place (only integers taken product) (only_no integers taken product (sym c.is_taken.ensures ∙ c.if-is_taken.false))

pub returns-then-is_taken : goal.returns-then-is_taken
returns-then-is_taken c =
    let taken : Bool =
    is_taken c.args.job.now.offer_owner.now c.args.job.now.tally_box.now c.args.job.now.tally_offer.now c.args.a c.args.from c.args.i in
    let product : ℤ =
    product_at c.args.job.now.tally_offer.now c.args.job.now.tally_count.now c.args.prices.now c.args.at c.args.part.width c.args.q c.args.i in
    let place : ℕ =
    get_or c.args.tally_place.now c.args.i 0 - c.args.part.start in
    let is : taken ≡ true =
    sym c.is_taken.ensures ∙ c.if-is_taken.true in
    c.add_one.ensures ∙ ap (raised_at c.args.row.now place) (sym (only_yes integers taken product is))
