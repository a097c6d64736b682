-- `step_spans::credit_span` meets its contract. The invariant: the totals of the places before i are added. Assumes nothing.
use mathlib.Core.Path.{◌≡◌}
use Prim.Native.Nat.{◌-◌, ◌*◌, ◌≤◌}
use lib.IntN.{pos}
use lib.ListN.{length}
use Rattle.model.specs.Spans.{span_written, beside}
use Rattle.step_spans.specs.Credit.{credit_span}
use Rattle.step_spans.proofs.credit_span.Given as goal

abbrev pub invariant-loop-i : goal.invariant-loop-i
invariant-loop-i l =
    (l.from ≤ l.i) × (l.i ≤ l.to) × (length l.source ≡ length l.initial.source) × (length l.statement ≡ length l.initial.statement) × (l.source ≡ span_written (l.from * l.width) (l.i * l.width) (λ k. pos 0) l.initial.source)
    × (l.statement ≡ credit_span (l.i * l.width - l.from * l.width) (l.from * l.width) (beside l.width l.grocers) l.initial.source l.initial.statement)
