-- `step_totals::row::add_products` meets its contract. The invariant: the products of the lists before q are added. Assumes nothing.
use mathlib.Core.Path.{◌≡◌}
use Prim.Native.Nat.{ℕ, ◌+◌, ◌*◌, ◌≤◌}
use lib.ListN.{length, get_or}
use lib.IntN.{pos, ◌+ℤ◌, ◌*ℤ◌}
use Rattle.laws.specs.Below.{integers, sum}
use Rattle.laws.proofs.Loops.{share}
use Rattle.step_totals.proofs.row.add_products.Given as goal

abbrev pub invariant-loop-q : goal.invariant-loop-q
invariant-loop-q l =
    (l.q ≤ l.width) × (length l.row ≡ length l.initial.row) × ((p : ℕ) → get_or l.row p (pos 0) ≡ get_or l.initial.row p (pos 0) +ℤ sum integers l.q (share (λ k. l.e * l.width + k) (λ k. l.count *ℤ pos (get_or l.prices (l.at + k) 0)) p))
