-- `run_order::turn` meets its contract: the step of the place is put into the order where it is ready. Assumes nothing.
use mathlib.Core.Path.{◌≡◌, sym, ◌∙◌}
use mathlib.Core.Bool.{true}
use Prim.Native.Nat.{◌<◌}
use native.Mathlib.Omega.{arith}
use borrow.Author.Tests.{not-true, not-false}
use Rattle.step_places.specs.Places.{here}
use Rattle.run_ready.specs.Walk.{listed_by}
use Rattle.run_ready.proofs.InModel.{listed_at}
use Rattle.run_order.proofs.Found.{not_of, place-room_of, passed_of}
use Rattle.run_order.proofs.turn.Goals as goal

pub returns-then-not-permitted : goal.returns-then-not-permitted
returns-then-not-permitted c =
    let tested_at : c.permitted.result ≡ listed_by c.args.rules.now.boxes c.args.rules.now.receivers.now c.args.rules.now.waits.now c.args.done.now (here c.args.rules.now.boxes c.args.p.kind c.args.p.first c.args.p.second) =
    c.permitted.ensures ∙ listed_at c.args.rules.now.boxes c.args.p.kind c.args.p.first c.args.p.second _ _ _ c.requires.place_in in
    record {
      marks_from = c.requires.walk_in.1;
      every_job_3 = λ j o. not_of c.args.rules.now.boxes _ _ j o c.args.done.now _ _ _ c.requires.place_in c.args.order.now c.args.n (c.requires.every_job j o) (c.requires.every_job_2 j o)
          (sym tested_at ∙ not-true _ (mathlib.Core.Path.ap mathlib.Core.Bool.not c.if-not-permitted.true));
    }

pub put_step-requires : goal.put_step-requires
put_step-requires c =
    let tested_at : c.permitted.result ≡ listed_by c.args.rules.now.boxes c.args.rules.now.receivers.now c.args.rules.now.waits.now c.args.done.now (here c.args.rules.now.boxes c.args.p.kind c.args.p.first c.args.p.second) =
    c.permitted.ensures ∙ listed_at c.args.rules.now.boxes c.args.p.kind c.args.p.first c.args.p.second _ _ _ c.requires.place_in in
    let listed : listed_by c.args.rules.now.boxes c.args.rules.now.receivers.now c.args.rules.now.waits.now c.args.done.now (here c.args.rules.now.boxes c.args.p.kind c.args.p.first c.args.p.second) ≡ true =
    sym tested_at ∙ not-false _ (mathlib.Core.Path.ap mathlib.Core.Bool.not c.if-not-permitted.false) in
    let has_room : c.args.n < 1536 =
    let w = c.requires.walk_in.2 in
    place-room_of c.args.rules.now.boxes _ _ w.job w.of_it c.args.done.now _ _ _ c.requires.place_in c.args.order.now c.args.n (c.requires.every_job w.job w.of_it)
    (c.requires.every_job_2 w.job w.of_it) (listed) in
    (c.requires.place_in, c.requires.walk_in.1, has_room)

pub overflow_add-result : goal.overflow_add-result
overflow_add-result c =
    let tested_at : c.permitted.result ≡ listed_by c.args.rules.now.boxes c.args.rules.now.receivers.now c.args.rules.now.waits.now c.args.done.now (here c.args.rules.now.boxes c.args.p.kind c.args.p.first c.args.p.second) =
    c.permitted.ensures ∙ listed_at c.args.rules.now.boxes c.args.p.kind c.args.p.first c.args.p.second _ _ _ c.requires.place_in in
    let listed : listed_by c.args.rules.now.boxes c.args.rules.now.receivers.now c.args.rules.now.waits.now c.args.done.now (here c.args.rules.now.boxes c.args.p.kind c.args.p.first c.args.p.second) ≡ true =
    sym tested_at ∙ not-false _ (mathlib.Core.Path.ap mathlib.Core.Bool.not c.if-not-permitted.false) in
    let has_room : c.args.n < 1536 =
    let w = c.requires.walk_in.2 in
    place-room_of c.args.rules.now.boxes _ _ w.job w.of_it c.args.done.now _ _ _ c.requires.place_in c.args.order.now c.args.n (c.requires.every_job w.job w.of_it)
    (c.requires.every_job_2 w.job w.of_it) (listed) in
    omega (arith, has_room)

pub returns : goal.returns
returns c =
    let tested_at : c.permitted.result ≡ listed_by c.args.rules.now.boxes c.args.rules.now.receivers.now c.args.rules.now.waits.now c.args.done.now (here c.args.rules.now.boxes c.args.p.kind c.args.p.first c.args.p.second) =
    c.permitted.ensures ∙ listed_at c.args.rules.now.boxes c.args.p.kind c.args.p.first c.args.p.second _ _ _ c.requires.place_in in
    let listed : listed_by c.args.rules.now.boxes c.args.rules.now.receivers.now c.args.rules.now.waits.now c.args.done.now (here c.args.rules.now.boxes c.args.p.kind c.args.p.first c.args.p.second) ≡ true =
    sym tested_at ∙ not-false _ (mathlib.Core.Path.ap mathlib.Core.Bool.not c.if-not-permitted.false) in
    record {
      marks_from = c.put_step.ensures.2;
      every_job_3 = λ j o. passed_of c.args.rules.now.boxes _ _ j o c.args.done.now _ _ _ c.requires.place_in c.args.order.now c.args.n (c.requires.every_job j o) (c.requires.every_job_2 j o)
          listed _ _ c.put_step.ensures.0 c.put_step.ensures.1;
    }
