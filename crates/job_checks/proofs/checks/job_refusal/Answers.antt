-- `job_checks::checks::job_refusal` meets its contract: each number is that of the first test that holds, and the boxes struck are the standing ones. Assumes nothing.
use mathlib.Core.Bool.{not}
use mathlib.Core.Path.{sym, ap, ◌∙◌}
use native.Mathlib.Nat.{le_trans}
use Rattle.laws.proofs.Bools.{or_off}
use Rattle.model.specs.Tables.{counted_of}
use Rattle.tables.specs.Lent.{job_held}
use Rattle.job_checks.proofs.Standing.{columns_in, standing_boxes}
use Rattle.job_checks.proofs.Refusals.{not_off, met_20, met_21, met_9, met_none}
use Rattle.model.proofs.Whole.{job_whole}
use Rattle.job_checks.proofs.checks.job_refusal.Goals as goal

pub returns-then-job_short-bags_short : goal.returns-then-job_short-bags_short
returns-then-job_short-bags_short c = record {
  value = met_20 (job_held c.args.job.now) c.job_short.result c.bags_short.result c.job_short.ensures c.bags_short.ensures c.if-job_short-bags_short.true;
  standing = tt;
}

pub job_in_range-requires : goal.job_in_range-requires
job_in_range-requires c =
    sym c.job_short.ensures ∙ (or_off c.job_short.result c.bags_short.result c.if-job_short-bags_short.false).0

pub returns-then-not-job_in_range : goal.returns-then-not-job_in_range
returns-then-not-job_in_range c = record {
  value = met_21 (job_held c.args.job.now) c.job_short.result c.bags_short.result c.job_short.ensures c.bags_short.ensures c.if-job_short-bags_short.false
      c.job_in_range.result c.job_in_range.ensures (ap not c.if-not-job_in_range.true);
  standing = tt;
}

pub standing_boxes-requires : goal.standing_boxes-requires
standing_boxes-requires c =
    let job = job_held c.args.job.now in
    let long = or_off c.job_short.result c.bags_short.result c.if-job_short-bags_short.false in
    let whole = sym c.job_short.ensures ∙ long.0 in
    let inside = sym c.job_in_range.ensures ∙ not_off c.job_in_range.result (ap not c.if-not-job_in_range.false) in
    let columns = columns_in job whole (sym c.bags_short.ensures ∙ long.1) inside in
    record {
      columns = columns;
      n_in_bounds = ((job_whole job whole).tally_box, le_trans columns.few c.requires);
    }

pub returns-then-standing_boxes : goal.returns-then-standing_boxes
unfolding counted_of
returns-then-standing_boxes c = record {
  value = met_9 (job_held c.args.job.now) c.job_short.result c.bags_short.result c.job_short.ensures c.bags_short.ensures c.if-job_short-bags_short.false
      c.job_in_range.result c.job_in_range.ensures (ap not c.if-not-job_in_range.false) c.standing_boxes.result c.standing_boxes.ensures.value c.if-standing_boxes.true;
  standing = tt;
}

pub returns : goal.returns
unfolding counted_of
returns c = record {
  value = met_none (job_held c.args.job.now) c.job_short.result c.bags_short.result c.job_short.ensures c.bags_short.ensures c.if-job_short-bags_short.false
      c.job_in_range.result c.job_in_range.ensures (ap not c.if-not-job_in_range.false) c.standing_boxes.result c.standing_boxes.ensures.value c.if-standing_boxes.false;
  standing = standing_boxes (job_held c.args.job.now) _ (c.standing_boxes.ensures.struck c.if-standing_boxes.false);
}

pub shape_of-standing-then-standing_boxes : goal.shape_of-standing-then-standing_boxes
shape_of-standing-then-standing_boxes c =
    c.standing_boxes.auto.boxes

pub shape_of-standing : goal.shape_of-standing
shape_of-standing c =
    c.standing_boxes.auto.boxes
