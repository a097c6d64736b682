-- `step::move_prices` meets its contract. Assumes nothing.
use mathlib.Core.Path.{refl}
use lib.ListN.{replicate}
use Rattle.step_totals.specs.Row.{tallies}
use Rattle.step_totals.proofs.Rows.{pairs_linked}
use Rattle.step.proofs.move_prices.Goals as goal

pub link_pairs-requires : goal.link_pairs-requires
link_pairs-requires c =
    rw c.from-t.ensures (c.requires.tallies_keyed (replicate 1_272 0) refl)

pub returns-clause-moved : goal.returns-clause-moved
returns-clause-moved c =
    let j = c.args.job.now in
    let linked = rw c.from-t.ensures at c.link_pairs.ensures in
    λ passes listed. c.price_step.ensures.moved j.offer_owner.now j.tally_box.now passes
    (pairs_linked (tallies j.sizes.boxes j.sizes.offers j.sizes.tallies j.offer_owner.now c.args.tally_place.now j.tally_box.now j.tally_offer.now j.tally_count.now)
    j.tally_box.now _ (c.requires.step_in _ linked).tallies_in linked) listed

pub price_step-requires : goal.price_step-requires
price_step-requires c =
    record {
      list = c.args.job.now.offer_owner.now;
      passes = record { list = c.args.job.now.tally_box.now; passes = c.requires.step_in _ (rw c.from-t.ensures at c.link_pairs.ensures) };
    }
