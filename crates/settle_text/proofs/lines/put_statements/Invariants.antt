-- `settle_text::lines::put_statements` meets its contract. The loop's invariant: the lines of the first g grocers are put. Assumes nothing.
use Prim.Native.Nat.{◌≤◌, ◌*◌}
use Rattle.printing.specs.Cents.{rule}
use Rattle.printing.specs.Printed.{grocer_lines, amount_in}
use Rattle.settle_text.specs.Puts.{Put}
use Rattle.settle_text.proofs.lines.put_statements.Given as goal

abbrev pub invariant-loop-g : goal.invariant-loop-g
invariant-loop-g l =
    Put 0 (grocer_lines (rule l.to_even) l.lists l.g (amount_in l.lists l.statement)) l.initial.out l.out l.at × (l.at ≤ 172 * l.g)
