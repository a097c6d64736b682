-- `late_finished::totals::plain_sums` meets its contract: the sums are those of the tallies passed. Assumes nothing.
use mathlib.Core.Path.{◌≡◌, refl, sym, ap, ◌∙◌}
use mathlib.Core.List.{List}
use Prim.Native.Nat.{ℕ, ◌<◌}
use native.Mathlib.Omega.{arith}
use lib.IntN.{ℤ, pos}
use lib.ListN.{get_or, length, get_or-replicate}
use Rattle.laws.proofs.Tables.{is_tabulate}
use Rattle.late_finished.specs.Tests.{sum_by}
use Rattle.late_finished.proofs.Plain.{sum_none, tally_lent, sum-small, sum_more, sums_long_lem}
use Rattle.late_finished.proofs.totals.plain_sums.Goals as goal

pub loop-i-init : goal.loop-i-init
loop-i-init c =
    let s = c.args in (
      refl,
      λ g l. get_or-replicate 255 g (pos 0) (pos 0) l
          ∙ sym (sum_none s.job.now.sizes.boxes s.job.now.sizes.tallies s.job.now.sizes.offers s.job.now.tally_box.now s.job.now.tally_grocer.now s.job.now.tally_offer.now s.job.now.tally_count.now s.job.now.price.now s.at g),
    )

pub take_tally-requires : goal.take_tally-requires
take_tally-requires c =
    let turn : c.loop-i.i < c.args.job.now.sizes.tallies =
    omega (arith, c.loop-i-test.true, c.from-i-end.ensures) in
    let a = c.args in
    let g = get_or a.job.now.tally_grocer.now c.loop-i.i 0 in
    let few = c.requires.grocer< c.loop-i.i turn in record {
      tally_lent = tally_lent a.job.now.sizes.boxes a.job.now.sizes.tallies a.job.now.sizes.offers a.job.now.tally_box.now a.job.now.tally_grocer.now a.job.now.tally_offer.now a.job.now.tally_count.now a.job.now.price.now
          a.at c.requires c.loop-i.i (turn);
      i_in_bounds = (
        rw c.loop-i.invariant.0 few,
        rw (c.loop-i.invariant.1 g few)
            (sum-small a.job.now.sizes.boxes a.job.now.sizes.tallies a.job.now.sizes.offers a.job.now.tally_box.now a.job.now.tally_grocer.now a.job.now.tally_offer.now a.job.now.tally_count.now a.job.now.price.now a.at
            c.requires c.loop-i.i g (omega (arith, turn))),
      );
    }

pub loop-i-preserved : goal.loop-i-preserved
loop-i-preserved c =
    let turn : c.loop-i.i < c.args.job.now.sizes.tallies =
    omega (arith, c.loop-i-test.true, c.from-i-end.ensures) in
    let a = c.args in
    let t = turn in (
      ap length c.take_tally.ensures
          ∙ sums_long_lem a.job.now.sizes.boxes a.job.now.sizes.tallies a.job.now.sizes.offers a.job.now.tally_box.now a.job.now.tally_grocer.now a.job.now.tally_offer.now a.job.now.tally_count.now a.job.now.price.now a.at
          c.loop-i.sums c.loop-i.i ∙ c.loop-i.invariant.0,
      λ g q. ap (λ (x : List ℤ). get_or x g (pos 0)) c.take_tally.ensures
          ∙ sum_more a.job.now.sizes.boxes a.job.now.sizes.tallies a.job.now.sizes.offers a.job.now.tally_box.now a.job.now.tally_grocer.now a.job.now.tally_offer.now a.job.now.tally_count.now a.job.now.price.now a.at
          c.loop-i.sums c.loop-i.i g (rw c.loop-i.invariant.0 q) (c.loop-i.invariant.1 g q),
    )

pub returns : goal.returns
returns c =
    let a = c.args in
    let last : c.loop-i.i ≡ a.job.now.sizes.tallies = omega (arith, c.loop-i-test.false, c.from-i-end.ensures, c.loop-i.auto.i-end) in
    is_tabulate c.loop-i.sums 255 (sum_by a.job.now.sizes.boxes a.job.now.sizes.tallies a.job.now.tally_box.now a.job.now.tally_grocer.now a.job.now.tally_offer.now a.job.now.tally_count.now a.job.now.price.now a.at) (pos 0)
    c.loop-i.invariant.0
    (λ g q. c.loop-i.invariant.1 g q ∙ ap (λ (n : ℕ). sum_by a.job.now.sizes.boxes n a.job.now.tally_box.now a.job.now.tally_grocer.now a.job.now.tally_offer.now a.job.now.tally_count.now a.job.now.price.now a.at g) last)
