-- `step_packed::span_fits` meets its contract. The invariant: the words of the places passed are in range. Assumes nothing.
use mathlib.Core.Path.{◌≡◌}
use mathlib.Core.Bool.{true}
use Prim.Native.Nat.{◌≤◌, ◌-◌, ◌*◌}
use Rattle.laws.specs.Below.{all}
use Rattle.model.specs.Spans.{beside}
use Rattle.step_packed.specs.Fits.{word_fits}
use Rattle.step_packed.proofs.span_fits.Given as goal

abbrev pub invariant-loop-i : goal.invariant-loop-i
invariant-loop-i l =
    (l.from ≤ l.i) × (l.i ≤ l.to) × (all (l.i * l.width - l.from * l.width) (word_fits (l.from * l.width) (beside l.width l.grocers) l.source l.statement) ≡ true)
