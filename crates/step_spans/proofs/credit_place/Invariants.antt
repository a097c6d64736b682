-- `step_spans::credit_place` meets its contract. The invariant: the words before word q of the place are added. Assumes nothing.
use mathlib.Core.Path.{◌≡◌}
use Prim.Native.Nat.{◌+◌, ◌*◌, ◌≤◌}
use lib.IntN.{pos}
use lib.ListN.{length}
use Rattle.model.specs.Spans.{span_written, beside}
use Rattle.step_spans.specs.Credit.{credit_span}
use Rattle.step_spans.proofs.credit_place.Given as goal

abbrev pub invariant-loop-q : goal.invariant-loop-q
invariant-loop-q l =
    (l.q ≤ l.width) × (length l.source ≡ length l.initial.source) × (length l.statement ≡ length l.initial.statement) × (l.source ≡ span_written (l.i * l.width) (l.i * l.width + l.q) (λ k. pos 0) l.initial.source)
    × (l.statement ≡ credit_span l.q (l.i * l.width) (beside l.width l.grocers) l.initial.source l.initial.statement)
