-- `step_rules::ready::got` meets its contract: of every box passed it is told. Assumes nothing.
use mathlib.Core.Path.{◌≡◌}
use Prim.Native.Nat.{◌≤◌}
use Rattle.laws.specs.Masks.{mask_of}
use Rattle.model.specs.Tables.{steps_done}
use Rattle.step_rules.specs.Rules.{has_got}
use Rattle.step_rules.proofs.Bits.{before}
use Rattle.step_rules.proofs.ready.got.Given as goal

abbrev pub invariant-loop-o : goal.invariant-loop-o
invariant-loop-o l =
    (l.o ≤ l.k) × (l.word ≡ mask_of 16 (before l.o (has_got (steps_done l.k l.done) l.a)))
