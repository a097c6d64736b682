-- `run_order::put_order` meets its contract: no step is marked at first, then choices pick, then the rest follows. Assumes nothing.
use mathlib.Core.Path.{◌≡◌, ap, ◌∙◌}
use mathlib.Core.List.{List, ◌++◌}
use Prim.Native.Nat.{ℕ, ◌*◌, ◌≤◌}
use lib.ListN.{length, drop}
use Rattle.laws.specs.Tables.{overwrite}
use Rattle.laws.proofs.Fills.{overwrite_fill}
use Rattle.run_order.proofs.Found.{walk_on, marks_own, marks_over}
use Rattle.run_order.proofs.Begun.{zero_from, zero_steps_of, whole_run, none_picked}
use Rattle.run_order.proofs.put_order.Goals as goal

-- The marks of a fresh walk, filled with 0.
fresh : (k : ℕ) (n : ℕ) (done f : List ℕ) → n ≡ 6 * k * k → 6 * k * k ≤ length done → (n ≤ length done → f ++ drop n done ≡ overwrite n (λ i. 0) done) →
    f ++ drop n done ≡ overwrite (6 * k * k) (λ i. 0) done
fresh k n done f e h made = made (rw e h) ∙ ap (λ (n : ℕ). overwrite n (λ i. 0) done) e

pub chosen-n-requires : goal.chosen-n-requires
chosen-n-requires c =
    let z = fresh c.args.rules.now.boxes _ _ _ c.marks.ensures c.requires.walk_in.0.done_long (λ h. overwrite_fill _ _ _ _ h (c.fill.ensures.after (λ y h. h))) in
    let m = zero_from c.args.rules.now.boxes _ _ z in record {
      walk_in = (walk_on _ _ _ m c.requires.walk_in.0, marks_own _ _ _ m, c.requires.walk_in.1);
      every_job = λ j o. none_picked j _ _ _ (zero_steps_of _ _ _ z _ _ j o) c.requires.walk_in.2 (c.requires.every_job j o);
    }

pub rest-requires : goal.rest-requires
rest-requires c =
    let z = fresh c.args.rules.now.boxes _ _ _ c.marks.ensures c.requires.walk_in.0.done_long (λ h. overwrite_fill _ _ _ _ h (c.fill.ensures.after (λ y h. h))) in
    let m = zero_from c.args.rules.now.boxes _ _ z in
    record {
      walk_in = (walk_on _ _ _ c.chosen-n.ensures.marks_from (walk_on _ _ _ m c.requires.walk_in.0), marks_own _ _ _ c.chosen-n.ensures.marks_from, c.requires.walk_in.1);
      every_job = λ j o. (c.chosen-n.ensures.every_job_2 j o).picked;
    }

pub returns : goal.returns
returns c =
    let z = fresh c.args.rules.now.boxes _ _ _ c.marks.ensures c.requires.walk_in.0.done_long (λ h. overwrite_fill _ _ _ _ h (c.fill.ensures.after (λ y h. h))) in
    record {
      marks_from = marks_over _ _ _ (marks_over _ _ _ (zero_from _ _ _ z) _ c.chosen-n.ensures.marks_from) _ c.rest.ensures.marks_from;
      every_job_2 = λ j w. record { steps_are = (c.rest.ensures.every_job_2 j w).ends ∙ (c.chosen-n.ensures.every_job_2 j w).same ∙ whole_run j _ _ _ (zero_steps_of _ _ _ z _ _ j w); picked = (c.rest.ensures.every_job_2 j w).picked };
    }
