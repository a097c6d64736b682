-- `step_packed::place_fits` meets its contract. The invariant: the words passed are in range. Assumes nothing.
use mathlib.Core.Path.{◌≡◌}
use mathlib.Core.Bool.{true}
use Prim.Native.Nat.{◌≤◌, ◌*◌}
use Rattle.laws.specs.Below.{all}
use Rattle.model.specs.Spans.{beside}
use Rattle.step_packed.specs.Fits.{word_fits}
use Rattle.step_packed.proofs.place_fits.Given as goal

abbrev pub invariant-loop-q : goal.invariant-loop-q
invariant-loop-q l =
    (l.q ≤ l.width) × (all l.q (word_fits (l.i * l.width) (beside l.width l.grocers) l.source l.statement) ≡ true)
