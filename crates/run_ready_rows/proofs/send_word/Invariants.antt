-- `run_ready_rows::send_word` meets its contract: of every box passed it is told. Assumes nothing.
use mathlib.Core.Path.{◌≡◌}
use mathlib.Core.List.{List}
use Prim.Native.Nat.{ℕ}
use Rattle.laws.specs.Masks.{mask_of}
use Rattle.model.specs.Steps.{send_totals}
use Rattle.model.specs.Tables.{steps_done}
use Rattle.step_rules.specs.Rules.{permitted_by}
use Rattle.step_rules.proofs.Bits.{before}
use Rattle.run_ready_rows.proofs.send_word.Given as goal

abbrev pub invariant-loop-b : goal.invariant-loop-b
invariant-loop-b l =
    ((receivers : List ℕ) → l.word ≡ mask_of 16 (before l.b (permitted_by receivers l.rules.waits.now (steps_done l.rules.boxes l.done) send_totals l.a)))
