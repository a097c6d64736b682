-- `step_waits::waits` meets its contract: the words are those of the tallies passed. Assumes nothing.
use mathlib.Core.Path.{◌≡◌}
use Rattle.step_waits.specs.Waits.{tally_lists, wait_table}
use Rattle.step_waits.proofs.waits.Given as goal

abbrev pub invariant-loop-t : goal.invariant-loop-t
invariant-loop-t l =
    l.words ≡ wait_table l.job.sizes.boxes (tally_lists l.job.offer_owner.now l.job.grocer_owner.now l.job.tally_grocer.now l.job.tally_box.now l.job.tally_offer.now) l.t
