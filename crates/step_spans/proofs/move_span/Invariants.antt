-- `step_spans::move_span` meets its contract. The invariant: the span up to i is moved. Assumes nothing.
use mathlib.Core.Path.{◌≡◌}
use Prim.Native.Nat.{◌≤◌}
use lib.IntN.{pos}
use lib.ListN.{length, get_or}
use Rattle.model.specs.Spans.{span_written}
use Rattle.step_spans.proofs.move_span.Given as goal

abbrev pub invariant-loop-i : goal.invariant-loop-i
invariant-loop-i l =
    (l.from ≤ l.i) × (l.i ≤ l.to) × (length l.working ≡ length l.initial.working) × (length l.transit ≡ length l.initial.transit) × (l.working ≡ span_written l.from l.i (λ k. pos 0) l.initial.working)
    × (l.transit ≡ span_written l.from l.i (λ k. get_or l.initial.working k (pos 0)) l.initial.transit)
