-- `run_fresh::fresh_prices` meets its contract. The invariant: of the first o offers each owner knows the prices, and all else of the table is 0. Assumes nothing.
use mathlib.Core.Path.{◌≡◌}
use mathlib.Core.Bool.{cond, ◌&&◌}
use Prim.Native.Nat.{ℕ, suc, ◌+◌, ◌*◌, ◌/◌, ◌%◌, ◌≤◌, ◌<◌}
use lib.Dec.{eqb, ltb}
use lib.ListN.{get_or}
use Rattle.run_fresh.proofs.fresh_prices.Given as goal

abbrev pub invariant-loop-o : goal.invariant-loop-o
invariant-loop-o l =
    let z = l.job.sizes in
    ((b w : ℕ) → b < z.boxes → w < z.offers * suc z.lists → get_or l.known (b * (z.offers * suc z.lists) + w) 0
    ≡ cond (ltb (w / suc z.lists) l.o && eqb (get_or l.job.offer_owner.now (w / suc z.lists) 0) b)
    (get_or l.job.price.now (w % suc z.lists * z.offers + w / suc z.lists) 0) 0)
    × ((i : ℕ) → z.boxes * (z.offers * suc z.lists) ≤ i → get_or l.known i 0 ≡ get_or l.initial.known i 0)
