-- `trial_rounds::put_rounds` meets its contract: rounds follow each other until no step is ready. Assumes nothing.
use mathlib.Core.Path.{◌≡◌, sym, ap, ◌∙◌}
use mathlib.Core.Bool.{false}
use mathlib.Core.List.{List, ◌++◌}
use Prim.Native.Nat.{ℕ, ◌*◌, ◌≤◌}
use lib.ListN.{length, drop}
use native.Mathlib.Omega.{arith}
use lib.Dec.{eqb}
use borrow.Author.Tests.{eq-eqb, ne_eqb}
use Rattle.laws.specs.Tables.{overwrite}
use Rattle.model.specs.Job.{Job}
use Rattle.model.specs.Run.{ready_count}
use Rattle.model.specs.Tables.{steps_done}
use Rattle.run_order.specs.Order.{OfJob}
use Rattle.laws.proofs.Fills.{overwrite_fill}
use Rattle.run_ready_rows.proofs.ByRow.{rows_few, rows_ready}
use Rattle.run_order.proofs.Found.{ready_of, walk_on, marks_own, marks_over}
use Rattle.run_order.proofs.Begun.{zero_from, zero_steps_of}
use Rattle.run_order.proofs.SoFar.{none_so_far}
use Rattle.trial_rounds.proofs.Turns.{part_end}
use Rattle.trial_rounds.proofs.All.{rounds_begin, grows, rounds_more, rounds_end}
use Rattle.trial_rounds.proofs.put_rounds.Goals as goal

-- The marks of a fresh trial, filled with 0.
fresh : (k : ℕ) (n : ℕ) (done f : List ℕ) → n ≡ 6 * k * k → 6 * k * k ≤ length done → (n ≤ length done → f ++ drop n done ≡ overwrite n (λ i. 0) done) →
    f ++ drop n done ≡ overwrite (6 * k * k) (λ i. 0) done
fresh k n done f e h made = made (rw e h) ∙ ap (λ (n : ℕ). overwrite n (λ i. 0) done) e

pub all_rows-rows-requires : goal.all_rows-rows-requires
all_rows-rows-requires c =
    let z = fresh c.args.rules.now.boxes _ _ _ c.marks.ensures c.requires.1.done_long (λ h. overwrite_fill _ _ _ _ h (c.fill.ensures.after (λ y h. h))) in
    walk_on _ _ _ (zero_from _ _ _ z) c.requires.1

pub ready_steps-ready-requires : goal.ready_steps-ready-requires
ready_steps-ready-requires c =
    rows_few _ _ _ c.all_rows-rows.ensures c.requires.1.boxes_in

pub loop-ready-init : goal.loop-ready-init
loop-ready-init c =
    let z = fresh c.args.rules.now.boxes _ _ _ c.marks.ensures c.requires.1.done_long (λ h. overwrite_fill _ _ _ _ h (c.fill.ensures.after (λ y h. h))) in
    record {
      marks_from = marks_own _ _ _ (zero_from _ _ _ z);
      rows_are = c.all_rows-rows.ensures;
      ready_is = c.ready_steps-ready.ensures ∙ rows_ready _ _ _ c.all_rows-rows.ensures;
      after = λ j o. let e = zero_steps_of _ _ _ z _ _ j o in rounds_begin j _ _ _ e (none_so_far j _ _ e c.requires.3);
    }

pub one_round-steps-requires : goal.one_round-steps-requires
one_round-steps-requires c =
    let v = c.loop-ready.invariant in
    record {
      liking = (c.requires.0, marks_own _ _ _ v.marks_from, c.requires.2);
      rows = v.rows_are;
      rows_2 = v.rows_are;
      every_job = λ j o. (v.after j o).so_far;
    }

pub overflow_add-rounds : goal.overflow_add-rounds
overflow_add-rounds c =
    let q = c.requires.2 in
    let p = c.loop-ready.invariant.after q.job q.of_it in
    omega (arith, p.slow, p.so_far.in_order)

pub ready_steps-ready-requires-in-loop-ready : goal.ready_steps-ready-requires-in-loop-ready
ready_steps-ready-requires-in-loop-ready c =
    rows_few _ _ _ c.one_round-steps.ensures.marks_from.1 c.requires.1.boxes_in

pub loop-ready-smaller : goal.loop-ready-smaller
loop-ready-smaller c =
    let v = c.loop-ready.invariant in
    let some_of : (j : Job) → OfJob c.args.rules.now.boxes c.args.rules.now.receivers.now c.args.rules.now.waits.now j → eqb (ready_count j (steps_done j.boxes c.loop-ready.done)) 0 ≡ false =
    λ j. λ o. ne_eqb _ 0 (λ z. c.loop-ready-test.true (v.ready_is ∙ ready_of _ _ _ j o _ ∙ z)) in
    let q = c.requires.2 in
    let part = part_end q.job _ _ _ _ _ _ _ _ _ (sym q.of_it.boxes_are) (c.one_round-steps.ensures.every_job_2 q.job q.of_it) in
    omega (arith, grows q.job _ _ _ _ _ c.requires.0.is_list (v.after q.job q.of_it) (some_of q.job q.of_it) _ _ _ part, part.so_far.in_order)

pub loop-ready-preserved : goal.loop-ready-preserved
loop-ready-preserved c =
    let v = c.loop-ready.invariant in
    let e = c.one_round-steps.ensures in
    let some_of : (j : Job) → OfJob c.args.rules.now.boxes c.args.rules.now.receivers.now c.args.rules.now.waits.now j → eqb (ready_count j (steps_done j.boxes c.loop-ready.done)) 0 ≡ false =
    λ j. λ o. ne_eqb _ 0 (λ z. c.loop-ready-test.true (v.ready_is ∙ ready_of _ _ _ j o _ ∙ z)) in
    record {
      marks_from = marks_over _ _ _ v.marks_from _ e.marks_from.0;
      rows_are = e.marks_from.1;
      ready_is = c.ready_steps-ready-in-loop-ready.ensures ∙ rows_ready _ _ _ e.marks_from.1;
      after = λ j o. rounds_more j _ _ _ _ _ c.requires.0.is_list (v.after j o) (some_of j o) _ _ _ (part_end j _ _ _ _ _ _ _ _ _ (sym o.boxes_are) (e.every_job_2 j o));
    }

pub returns : goal.returns
returns c =
    let v = c.loop-ready.invariant in
    let z = fresh c.args.rules.now.boxes _ _ _ c.marks.ensures c.requires.1.done_long (λ h. overwrite_fill _ _ _ _ h (c.fill.ensures.after (λ y h. h))) in
    record {
      marks_from = marks_over _ _ _ (zero_from _ _ _ z) _ v.marks_from;
      every_job = λ j o. rounds_end j _ _ _ _ _ (v.after j o) (eq-eqb _ 0 (sym (ready_of _ _ _ j o _) ∙ sym v.ready_is ∙ c.loop-ready-test.false));
    }
