-- `step_refusal::early_refusal` meets its contract: each number is that of the first condition that is met. Assumes nothing.
use mathlib.Core.Path.{◌≡◌}
use mathlib.Core.Bool.{true, false}
use mathlib.Core.List.{[]}
use Prim.Native.Nat.{◌≤◌}
use native.Mathlib.Omega.{arith}
use Rattle.tables.specs.Lent.{job_held}
use Rattle.model.specs.Tables.{counted_of, job_lengths}
use Rattle.model.proofs.Lent.{job_long as long_tables}
use Rattle.model.proofs.Step.{job_in_lem, in_handed}
use Rattle.job_checks.proofs.Standing.{columns_in, standing_boxes}
use Rattle.step_refusal.proofs.Refused.{met_short, job_long, bags_long, met_range, job_inside, met_twice, met_none}
use Rattle.step_refusal.proofs.early_refusal.Goals as goal

pub returns-then-job_short-bags_short : goal.returns-then-job_short-bags_short
returns-then-job_short-bags_short c = λ working totals.
    record {
      number_is = met_short _ _ _ _ _ c.job_short.ensures c.bags_short.ensures (c.state_short.ensures working totals) c.if-job_short-bags_short.true;
      standing_are = λ z. absurd (omega arith);
    }

pub returns-then-not-job_in_range-state_in_range : goal.returns-then-not-job_in_range-state_in_range
returns-then-not-job_in_range-state_in_range c = λ working totals.
    record {
      number_is = met_range _ _ _ _ _ c.job_short.ensures c.bags_short.ensures (c.state_short.ensures working totals) c.if-job_short-bags_short.false _ _
          c.job_in_range.ensures (c.state_in_range.ensures working totals) (mathlib.Core.Path.ap mathlib.Core.Bool.not c.if-not-job_in_range-state_in_range.true);
      standing_are = λ z. absurd (omega arith);
    }

pub standing_boxes-requires-clause-columns : goal.standing_boxes-requires-clause-columns
standing_boxes-requires-clause-columns c =
    let f = job_held c.args.job.now in
    let lengths = c.if-job_short-bags_short.false in
    columns_in f (job_long f _ _ _ _ c.job_short.ensures c.bags_short.ensures (c.state_short.ensures [] []) lengths)
    (bags_long f _ _ _ _ c.job_short.ensures c.bags_short.ensures (c.state_short.ensures [] []) lengths)
    (job_inside f _ _ _ _ c.job_short.ensures c.bags_short.ensures (c.state_short.ensures [] []) lengths _ _
    c.job_in_range.ensures (c.state_in_range.ensures [] []) (mathlib.Core.Path.ap mathlib.Core.Bool.not c.if-not-job_in_range-state_in_range.false))

pub standing_boxes-requires-clause-n_in_bounds : goal.standing_boxes-requires-clause-n_in_bounds
unfolding job_lengths
standing_boxes-requires-clause-n_in_bounds c =
    let f = job_held c.args.job.now in
    let lengths = c.if-job_short-bags_short.false in
    let whole = job_long f _ _ _ _ c.job_short.ensures c.bags_short.ensures (c.state_short.ensures [] []) lengths in
    let inside = job_inside f _ _ _ _ c.job_short.ensures c.bags_short.ensures (c.state_short.ensures [] []) lengths _ _
    c.job_in_range.ensures (c.state_in_range.ensures [] []) (mathlib.Core.Path.ap mathlib.Core.Bool.not c.if-not-job_in_range-state_in_range.false) in
    let few : f.tallies ≤ 1_000 = (job_in_lem f (in_handed f inside)).tallies≤ in
    ((long_tables f (job_lengths f) whole).tally_box, omega arith)

pub returns-then-standing_boxes : goal.returns-then-standing_boxes
unfolding counted_of
returns-then-standing_boxes c = λ working totals.
    record {
      number_is = met_twice _ _ _ _ _ c.job_short.ensures c.bags_short.ensures (c.state_short.ensures working totals) c.if-job_short-bags_short.false _ _
          c.job_in_range.ensures (c.state_in_range.ensures working totals) (mathlib.Core.Path.ap mathlib.Core.Bool.not c.if-not-job_in_range-state_in_range.false)
          _ c.standing_boxes.ensures.value c.if-standing_boxes.true;
      standing_are = λ z. absurd (omega arith);
    }

pub returns : goal.returns
unfolding counted_of
returns c = λ working totals.
    record {
      number_is = met_none _ _ _ _ _ c.job_short.ensures c.bags_short.ensures (c.state_short.ensures working totals) c.if-job_short-bags_short.false _ _
          c.job_in_range.ensures (c.state_in_range.ensures working totals) (mathlib.Core.Path.ap mathlib.Core.Bool.not c.if-not-job_in_range-state_in_range.false)
          _ c.standing_boxes.ensures.value c.if-standing_boxes.false;
      standing_are = λ z. standing_boxes (job_held c.args.job.now) _ (c.standing_boxes.ensures.struck c.if-standing_boxes.false);
    }
