-- `step_totals::row::add_placed` meets its contract. The invariant: each word is the word at entry with the tallies passed
-- added, and the next tally is of the pair, by any two lists that the links link. A tally passed over is of another pair,
-- and brings nothing. Assumes nothing.
use mathlib.Core.Path.{◌≡◌}
use mathlib.Core.List.{List}
use Prim.Native.Nat.{ℕ, ◌≤◌, ◌<◌, ◌-◌}
use lib.ListN.{length, get_or}
use lib.IntN.{pos, ◌+ℤ◌}
use Rattle.laws.specs.Below.{integers, sum}
use Rattle.step_links.specs.Links.{pair_key, pair_at}
use Rattle.step_totals.specs.Row.{TalliesLinked, brings}
use Rattle.step_totals.proofs.Placed.{shares}
use Rattle.step_totals.proofs.row.add_placed.Given as goal

abbrev pub invariant-loop-i : goal.invariant-loop-i
invariant-loop-i l =
    (l.i ≤ l.t)
    × (length l.working ≡ length l.initial.working)
    × ((owner holder : List ℕ) → TalliesLinked l.job.sizes.tallies owner holder l.job.tally_offer.now l.links →
    ((p : ℕ) → p < length l.initial.working → get_or l.working p (pos 0) ≡ get_or l.initial.working p (pos 0) +ℤ sum integers l.i
    (shares l.width l.tally_place (brings owner holder l.job.tally_offer.now l.job.tally_count.now l.prices l.a l.from l.at l.width) l.initial.working p))
    × (l.i < l.job.sizes.tallies → pair_at holder l.job.tally_offer.now owner l.i ≡ pair_key l.a l.from))

abbrev pub decreases-loop-i : goal.decreases-loop-i
decreases-loop-i l =
    l.job.sizes.tallies - l.i
