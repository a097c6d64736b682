-- `late_finished::marks::right_marks` meets its contract: at place i the marks before it are tested. Assumes nothing.
use mathlib.Core.Path.{◌≡◌, refl, sym, ap, ap₂, ◌∙◌}
use mathlib.Core.Bool.{Bool, true, false, cond}
use Prim.Native.Nat.{ℕ, ◌*◌}
use native.Mathlib.Omega.{arith}
use lib.Dec.{eqb}
use lib.ListN.{get_or}
use mir.Val.{bool_byte}
use borrow.Author.Rules.{rules}
use Rattle.laws.specs.Below.{all}
use Rattle.laws.proofs.Below.{all_start, all_more}
use Rattle.step_places.specs.Places.{PlaceIn}
use Rattle.job_masks.specs.Due.{due_at}
use Rattle.late_finished.specs.Tests.{right_marks}
use Rattle.step_places.proofs.Walking.{at_first, at_next, at_in}
use Rattle.job_masks.proofs.DueSteps.{due_here}
use Rattle.late_finished.proofs.marks.right_marks.Goals as goal

-- A test as a word.
byte_is : (b : Bool) → bool_byte b ≡ cond b 1 0
byte_is true = refl
byte_is false = refl

pub loop-i-init : goal.loop-i-init
loop-i-init c =
    (search rules, at_first _ c.requires.0, sym (all_start _))

pub loop-i-preserved : goal.loop-i-preserved
loop-i-preserved c =
    let place_at : PlaceIn c.args.k c.loop-i.p.kind c.loop-i.p.first c.loop-i.p.second =
    at_in _ c.loop-i.i _ _ _ c.requires.1 c.loop-i.invariant.1 (omega (arith, c.loop-i-test.true, c.marks-places.ensures)) in
    let here = c.is_due-due.ensures ∙ due_here c.args.k _ _ _ _ _ place_at ∙ ap (due_at c.args.k _ _) c.loop-i.invariant.1.place_is in (
      search rules,
      at_next _ c.loop-i.i _ _ _ _ _ _ c.loop-i.invariant.1 c.next-q.ensures,
      all_more c.loop-i.i _ c.loop-i.all _ c.loop-i.invariant.2 (ap₂ eqb c.u16_at.ensures (byte_is c.is_due-due.result ∙ ap (λ (b : Bool). cond {A = ℕ} b 1 0) here)),
    )

pub returns : goal.returns
unfolding right_marks
returns c =
    let last : c.loop-i.i ≡ 6 * c.args.k * c.args.k = omega (arith, c.loop-i-test.false, c.loop-i.invariant.0) ∙ c.marks-places.ensures in
    c.loop-i.invariant.2 ∙ ap (λ (n : ℕ). all n (λ i. eqb (get_or c.args.done.now i 0) (cond (due_at c.args.k c.args.receivers.now c.args.senders.now i) 1 0))) last
