-- `forecast_checks::request::all_due` meets its contract: before box c the due steps with the boxes before it are done. Assumes nothing.
use mathlib.Core.Path.{sym, ap, ap₂, refl, ◌∙◌}
use mathlib.Core.Bool.{Bool, ◌&&◌}
use Prim.Native.Nat.{ℕ}
use native.Mathlib.Nat.{le_antisymm}
use Rattle.laws.specs.Below.{all}
use Rattle.laws.proofs.Below.{all_next}
use Rattle.forecast_rules.specs.Steps.{kind_of}
use Rattle.forecast_rules.specs.Tables.{from_marks}
use Rattle.forecast_checks.specs.Rules.{due_done, all_due_by}
use Rattle.forecast_checks.proofs.request.all_due.Goals as goal

pub loop-c-init : goal.loop-c-init
unfolding all
loop-c-init c =
    refl

pub loop-c-preserved : goal.loop-c-preserved
loop-c-preserved c =
    ap₂ (λ (x y : Bool). x && y) c.loop-c.invariant c.due_done-one.ensures ∙ sym (all_next c.loop-c.c _)

pub returns : goal.returns
unfolding all_due_by
returns c =
    let s = c.args in
    c.loop-c.invariant
    ∙ ap (λ (n : ℕ). all n (due_done s.receivers.now s.senders.now (from_marks s.k s.done.now) (kind_of s.kind) s.a)) (le_antisymm c.loop-c.auto.c-end c.loop-c-test.false)
