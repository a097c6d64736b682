-- `late_finished::prices::right_row` meets its contract: at offer o those before it are tested. Assumes nothing.
use mathlib.Core.Path.{◌≡◌}
use Prim.Native.Nat.{◌≤◌, ◌+◌, ◌*◌}
use Rattle.laws.specs.Below.{all}
use Rattle.late_finished.specs.Tests.{knows_by, right_words}
use Rattle.late_finished.proofs.prices.right_row.Given as goal

abbrev pub invariant-loop-o : goal.invariant-loop-o
invariant-loop-o l =
    (l.o ≤ l.n) × (l.all ≡ all l.o (λ k. right_words (knows_by l.offer_owner l.needs l.b k) l.n l.width l.price l.known (l.b * (l.n * l.width) + k * l.width) k))
