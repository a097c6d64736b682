-- `run_steps::all_steps` meets its contract: at turn i the tables hold the state after i steps. Assumes nothing.
use mathlib.Core.Path.{refl, sym, subst, ◌∙◌}
use Rattle.tables.specs.declared.State.{State}
use Rattle.tables.specs.Lent.{SameSlices}
use Prim.Native.Nat.{ℕ}
use native.Mathlib.Omega.{arith}
use lib.ListN.{replicate}
use Rattle.step_links.specs.Links.{PairsKeyed, LinkedPairs}
use Rattle.model.specs.Tables.{JobTables, job_of, evening_of, StateTables}
use Rattle.model.specs.Steps.{fresh}
use Rattle.run_steps.specs.All.{bare, standing_job, without_marks, StepOut, Holds}
use Rattle.step_apply.specs.Apply.{prices_of}
use Rattle.step_apply.proofs.Keys.{tallies_keyed}
use Rattle.step_totals.proofs.Effect.{tallies_of}
use Rattle.run_steps.proofs.Looking.{count_ready, packed_words, boxes_ready, lists_ready, tallies_of_lem, looked}
use Rattle.run_steps.proofs.Turns.{Turning, turning_first, turning_last, prices_fresh, totals_fresh, fresh_holds, turn_place}
use Rattle.run_steps.proofs.Turns.{turn_boxes, may_step, counts_fit, turning_next}
use Rattle.run_steps.proofs.all_steps.Goals as goal

-- The slices are the same through two calls.
same_over : (a b c : State) → SameSlices a b → SameSlices b c → SameSlices a c
same_over a b c p q = record {
  known = q.known ∙ p.known;
  price_transit = q.price_transit ∙ p.price_transit;
  working = q.working ∙ p.working;
  total_transit = q.total_transit ∙ p.total_transit;
  statement = q.statement ∙ p.statement;
  done = q.done ∙ p.done;
  sent = q.sent ∙ p.sent;
}

pub fresh_prices-requires : goal.fresh_prices-requires
fresh_prices-requires c = prices_fresh (standing_job c.args.job.now) (bare c.args.state.now) _ _ _ _ c.requires

pub clear_totals-requires : goal.clear_totals-requires
clear_totals-requires c =
    let job : JobTables = standing_job c.args.job.now in
    let r = c.requires in
    record {
      count_in = count_ready job r.job_in_lem r.job_long c.args.sharers.now r.sharers_are;
      fresh_totals = totals_fresh job (bare c.args.state.now) _ _ _ _ r _ (packed_words job r.job_in_lem r.job_long c.args.sharers.now r.sharers_are);
    }

pub all_boxes-requires : goal.all_boxes-requires
all_boxes-requires c =
    boxes_ready (standing_job c.args.job.now) c.requires.job_in_lem c.requires.job_long c.args.sharers.now c.requires.sharers_are _ _ c.from-m.ensures c.from-t.ensures

pub all_lists-requires : goal.all_lists-requires
all_lists-requires c =
    lists_ready (standing_job c.args.job.now) c.requires.job_in_lem c.requires.job_long c.args.needs.now c.requires.needs_are _ c.from-n_offers.ensures

pub link_pairs-requires : goal.link_pairs-requires
link_pairs-requires c =
    let f = c.args.job.now in
    subst (λ (n : ℕ). PairsKeyed n f.tally_box.now f.tally_offer.now f.offer_owner.now (replicate 1_272 0)) (sym c.from-t.ensures)
    (tallies_keyed (standing_job f) c.requires.job_in_lem c.requires.job_long (replicate 1_272 0) refl)

pub loop-i-init : goal.loop-i-init
loop-i-init c =
    let job : JobTables = standing_job c.args.job.now in
    let fresh_of : StateTables =
    without_marks c.fresh_prices.new.known c.fresh_prices.new.price_transit c.clear_totals.new.working c.clear_totals.new.total_transit c.clear_totals.new.statement in
    let r = c.requires in
    let fresh_are : Holds (evening_of job) (fresh (evening_of job)) (bare c.args.state.now) fresh_of =
    fresh_holds job (bare c.args.state.now) fresh_of _ (packed_words job r.job_in_lem r.job_long c.args.sharers.now r.sharers_are) r.working_long_lem r.totals_long
    c.fresh_prices.ensures.0 c.fresh_prices.ensures.1 c.clear_totals.ensures.0 c.clear_totals.ensures.1 c.clear_totals.ensures.2 in
    let f = c.args.job.now in
    let l = subst (λ (n : ℕ). LinkedPairs n f.tally_box.now f.tally_offer.now f.offer_owner.now c.link_pairs.new.links) c.from-t.ensures c.link_pairs.ensures in
    record {
      turning = turning_first job (bare c.args.state.now) _ _ _ _ _ r fresh_are;
      looked = looked job r.job_in_lem r.job_long c.args.sharers.now c.args.needs.now r.sharers_are r.needs_are _ _ _ _
          c.all_boxes.new.places c.all_lists.new.heads c.all_lists.new.out
          c.all_boxes.new.heads c.all_boxes.new.grocers
          c.from-m.ensures c.from-t.ensures c.from-n_offers.ensures
          c.all_lists.auto.heads c.all_lists.auto.out
          c.all_boxes.auto.heads c.all_boxes.auto.grocers c.all_boxes.auto.places
          c.all_boxes.ensures c.all_lists.ensures.1 l;
      marks_kept = (refl, refl);
      same = record { known = refl; price_transit = refl; working = refl; total_transit = refl; statement = refl; done = refl; sent = refl };
    }

pub step_at-x-requires : goal.step_at-x-requires
step_at-x-requires c =
    turn_place _ _ _ _ _ _ c.loop-i.invariant.turning.all c.loop-i.i c.loop-i-test.true

pub one_step-more-requires : goal.one_step-more-requires
one_step-more-requires c =
    let job : JobTables = standing_job c.args.job.now in
    let fresh_of : StateTables =
    without_marks c.fresh_prices.new.known c.fresh_prices.new.price_transit c.clear_totals.new.working c.clear_totals.new.total_transit c.clear_totals.new.statement in
    let turning : Turning job fresh_of (bare c.loop-i.state) c.args.needs.now c.args.sharers.now c.args.order.now c.args.n c.loop-i.i c.loop-i.sent.words c.loop-i.sent.messages =
    c.loop-i.invariant.turning in
    record {
      list = c.args.job.now.offer_owner.now;
      passes = record {
        list = c.args.job.now.tally_box.now;
        passes = may_step _ _ _ _ _ _ _ _ _ _ turning c.loop-i-test.true _ _ _ c.step_at-x.ensures _ _ _ _ _ _ c.loop-i.invariant.looked;
      };
    }

pub sent_more-sent-requires : goal.sent_more-sent-requires
sent_more-sent-requires c =
    let job : JobTables = standing_job c.args.job.now in
    let fresh_of : StateTables =
    without_marks c.fresh_prices.new.known c.fresh_prices.new.price_transit c.clear_totals.new.working c.clear_totals.new.total_transit c.clear_totals.new.statement in
    let turning : Turning job fresh_of (bare c.loop-i.state) c.args.needs.now c.args.sharers.now c.args.order.now c.args.n c.loop-i.i c.loop-i.sent.words c.loop-i.sent.messages =
    c.loop-i.invariant.turning in
    let look = c.loop-i.invariant.looked in
    let step = c.step_at-x.result in
    let left : StepOut (tallies_of job c.all_boxes.new.places) c.args.job.now.sizes.lists (prices_of (job_of job) step.kind step.first step.second)
    c.all_lists.new.heads c.all_boxes.new.heads c.all_boxes.new.grocers (bare c.loop-i.state) (bare c.one_step-more.new.state)
    step.kind step.first step.second c.one_step-more.result =
    let boxes = turn_boxes _ _ _ _ _ _ _ _ _ _ turning c.loop-i-test.true _ _ _ c.step_at-x.ensures in
    c.one_step-more.ensures.moved c.args.job.now.offer_owner.now c.args.job.now.tally_box.now (prices_of (job_of job) step.kind step.first step.second)
    (λ _. tallies_of_lem job c.requires.job_in_lem c.requires.job_long c.all_boxes.new.places _ look.tallies_linked)
    (λ small other. look.offers_are step.kind step.first step.second boxes.0 boxes.1 small other) in
    counts_fit _ _ _ _ _ _ _ _ _ _ turning c.loop-i-test.true _ _ _ c.step_at-x.ensures _ _ _ _ _ _ look _ _ left

pub loop-i-preserved : goal.loop-i-preserved
loop-i-preserved c =
    let job : JobTables = standing_job c.args.job.now in
    let fresh_of : StateTables =
    without_marks c.fresh_prices.new.known c.fresh_prices.new.price_transit c.clear_totals.new.working c.clear_totals.new.total_transit c.clear_totals.new.statement in
    let turning : Turning job fresh_of (bare c.loop-i.state) c.args.needs.now c.args.sharers.now c.args.order.now c.args.n c.loop-i.i c.loop-i.sent.words c.loop-i.sent.messages =
    c.loop-i.invariant.turning in
    let look = c.loop-i.invariant.looked in
    let step = c.step_at-x.result in
    let left : StepOut (tallies_of job c.all_boxes.new.places) c.args.job.now.sizes.lists (prices_of (job_of job) step.kind step.first step.second)
    c.all_lists.new.heads c.all_boxes.new.heads c.all_boxes.new.grocers (bare c.loop-i.state) (bare c.one_step-more.new.state)
    step.kind step.first step.second c.one_step-more.result =
    let boxes = turn_boxes _ _ _ _ _ _ _ _ _ _ turning c.loop-i-test.true _ _ _ c.step_at-x.ensures in
    c.one_step-more.ensures.moved c.args.job.now.offer_owner.now c.args.job.now.tally_box.now (prices_of (job_of job) step.kind step.first step.second)
    (λ _. tallies_of_lem job c.requires.job_in_lem c.requires.job_long c.all_boxes.new.places _ look.tallies_linked)
    (λ small other. look.offers_are step.kind step.first step.second boxes.0 boxes.1 small other) in
    let e = c.one_step-more.ensures in
    let v = c.loop-i.invariant in
    record {
      turning = turning_next _ _ _ _ _ _ _ _ _ _ turning c.loop-i-test.true _ _ _ c.step_at-x.ensures _ _ _ _ _ _ look _ _ left _ _
          c.sent_more-sent.ensures.0 c.sent_more-sent.ensures.1;
      looked = look;
      marks_kept = (e.marks_kept.0 ∙ v.marks_kept.0, e.marks_kept.1 ∙ v.marks_kept.1);
      same = same_over _ _ _ v.same e.same_slices;
    }

pub returns-clause-done : goal.returns-clause-done
returns-clause-done c =
    let job : JobTables = standing_job c.args.job.now in
    let fresh_of : StateTables =
    without_marks c.fresh_prices.new.known c.fresh_prices.new.price_transit c.clear_totals.new.working c.clear_totals.new.total_transit c.clear_totals.new.statement in
    let r = c.requires in
    let fresh_are : Holds (evening_of job) (fresh (evening_of job)) (bare c.args.state.now) fresh_of =
    fresh_holds job (bare c.args.state.now) fresh_of _ (packed_words job r.job_in_lem r.job_long c.args.sharers.now r.sharers_are) r.working_long_lem r.totals_long
    c.fresh_prices.ensures.0 c.fresh_prices.ensures.1 c.clear_totals.ensures.0 c.clear_totals.ensures.1 c.clear_totals.ensures.2 in
    let turning : Turning job fresh_of (bare c.loop-i.state) c.args.needs.now c.args.sharers.now c.args.order.now c.args.n c.loop-i.i c.loop-i.sent.words c.loop-i.sent.messages =
    c.loop-i.invariant.turning in
    turning_last job (bare c.args.state.now) _ _ _ _ _ _ c.loop-i.i _ _ fresh_are turning (omega arith)
