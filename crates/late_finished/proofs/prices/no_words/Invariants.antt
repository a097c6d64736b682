-- `late_finished::prices::no_words` meets its contract: at word i those before it are tested. Assumes nothing.
use mathlib.Core.Path.{◌≡◌}
use Prim.Native.Nat.{◌+◌, ◌≤◌}
use lib.ListN.{get_or}
use lib.Dec.{eqb}
use Rattle.laws.specs.Below.{all}
use Rattle.late_finished.proofs.prices.no_words.Given as goal

abbrev pub invariant-loop-i : goal.invariant-loop-i
invariant-loop-i l =
    (l.i ≤ l.n) × (l.all ≡ all l.i (λ k. eqb (get_or l.s (l.at + k) 0) 0))
