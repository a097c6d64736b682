-- `settle_text::lines::put_amounts` meets its contract. The loop's invariant: the first q amounts are put. Assumes nothing.
use Prim.Native.Nat.{◌≤◌, ◌+◌, ◌*◌}
use lib.IntN.{pos}
use lib.ListN.{get_or}
use Rattle.printing.specs.Cents.{rule}
use Rattle.settle_text.specs.Puts.{Put, spaced_amounts}
use Rattle.settle_text.proofs.lines.put_amounts.Given as goal

abbrev pub invariant-loop-q : goal.invariant-loop-q
invariant-loop-q l =
    Put l.at (spaced_amounts (rule l.to_even) l.q (λ i. get_or l.statement (l.from + i) (pos 0))) l.initial.out l.out l.end × (l.end ≤ l.at + 21 * l.q)
