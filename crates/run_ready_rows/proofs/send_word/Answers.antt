-- `run_ready_rows::send_word` meets its contract: of every box passed it is told. Assumes nothing.
use mathlib.Core.Path.{ap, ◌∙◌}
use Prim.Native.Nat.{ℕ}
use native.Mathlib.Omega.{arith}
use Rattle.laws.specs.Masks.{mask_of}
use Rattle.laws.proofs.Masks.{mask_below}
use Rattle.model.specs.Steps.{send_totals}
use Rattle.model.specs.Tables.{steps_done}
use Rattle.step_rules.specs.Rules.{permitted_by}
use Rattle.step_rules.proofs.Bits.{before, before_none, before_more}
use Rattle.run_ready_rows.proofs.send_word.Goals as goal

pub loop-b-init : goal.loop-b-init
loop-b-init c =
    λ receivers. before_none _

pub can_send-requires : goal.can_send-requires
can_send-requires c =
    (c.requires.0, c.loop-b-test.true, c.requires.1)

pub loop-b-preserved : goal.loop-b-preserved
loop-b-preserved c =
    λ receivers. before_more _ c.loop-b.b _ c.can_send.result _ (c.loop-b.invariant receivers) (c.can_send.ensures receivers) c.with_bit-word.ensures

pub returns : goal.returns
returns c =
    λ receivers. let f = permitted_by receivers c.args.rules.now.waits.now (steps_done c.args.rules.now.boxes c.args.done.now) send_totals c.args.a in
    c.loop-b.invariant receivers ∙ ap (λ (b : ℕ). mask_of 16 (before b f)) (omega arith) ∙ mask_below c.args.rules.now.boxes 16 f c.requires.0.boxes_in
