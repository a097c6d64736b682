-- `step_rules::ready::got` meets its contract: of every box passed it is told. Assumes nothing.
use mathlib.Core.Path.{ap, ◌∙◌}
use Prim.Native.Nat.{ℕ}
use native.Mathlib.Nat.{le_antisymm}
use Rattle.laws.specs.Masks.{mask_of}
use Rattle.model.specs.Tables.{steps_done}
use Rattle.step_rules.specs.Rules.{has_got}
use Rattle.step_rules.proofs.Bits.{before, before_none, got_all}
use borrow.Author.Rules.{rules}
use Rattle.step_rules.proofs.ready.got.Goals as goal

pub loop-o-init : goal.loop-o-init
loop-o-init c =
    (search rules, before_none _)

pub returns : goal.returns
returns c =
    c.loop-o.invariant.1
    ∙ ap (λ (o : ℕ). mask_of 16 (before o (has_got (steps_done c.args.k c.args.done.now) c.args.a))) (le_antisymm c.loop-o.invariant.0 c.loop-o-test.false)
    ∙ got_all c.args.k c.args.a c.args.done.now c.requires.a_in
