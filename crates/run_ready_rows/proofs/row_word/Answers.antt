-- `run_ready_rows::row_word` meets its contract: of every box passed it is told. Assumes nothing.
use mathlib.Core.Path.{ap, ◌∙◌}
use Prim.Native.Nat.{ℕ}
use native.Mathlib.Omega.{arith}
use borrow.Author.Rules.{rules}
use Rattle.laws.specs.Masks.{mask_of}
use Rattle.laws.proofs.Masks.{mask_below}
use Rattle.model.specs.Steps.{kind_of}
use Rattle.model.specs.Tables.{steps_done}
use Rattle.step_rules.specs.Rules.{permitted_by}
use Rattle.step_rules.proofs.Bits.{before, before_none, before_more}
use Rattle.run_ready_rows.proofs.row_word.Goals as goal

pub send_word-requires : goal.send_word-requires
send_word-requires c =
    (search rules, c.got.ensures)

pub returns-then-kind-eq4 : goal.returns-then-kind-eq4
unfolding kind_of
returns-then-kind-eq4 c =
    rw c.if-kind-eq4.true (c.send_word.ensures _)

pub loop-b-init : goal.loop-b-init
loop-b-init c =
    before_none _

pub loop-b-preserved : goal.loop-b-preserved
loop-b-preserved c =
    before_more _ c.loop-b.b _ c.permitted.result _ c.loop-b.invariant c.permitted.ensures c.with_bit-word.ensures

pub returns : goal.returns
returns c =
    let f = permitted_by c.args.rules.now.receivers.now c.args.rules.now.waits.now (steps_done c.args.rules.now.boxes c.args.done.now) (kind_of c.args.kind) c.args.a in
    c.loop-b.invariant ∙ ap (λ (b : ℕ). mask_of 16 (before b f)) (omega arith) ∙ mask_below c.args.rules.now.boxes 16 f c.requires.boxes_in
