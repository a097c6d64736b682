-- `step_refusal::total_refusal` meets its contract: its number is that of the first condition met. Assumes nothing.
use mathlib.Core.Path.{refl}
use Rattle.std.proofs.lemmas.Result.{err_from_is_err_and}
use Rattle.model.specs.Step.{asked}
use Rattle.refusals.proofs.Numbers.{number_positive}
use Rattle.tables.specs.Lent.{job_held, state_viewed}
use Rattle.step_refusal.proofs.Base.{tables_met, marks_bound, few_lists}
use Rattle.step_refusal.proofs.Totalled.{waits_asked, asked_met, span_in, span_room, fits_in, late_met, none_met}
use Rattle.step_refusal.proofs.total_refusal.Goals as goal

pub returns-in_err-sharing-clause-number_is : goal.returns-in_err-sharing-clause-number_is
returns-in_err-sharing-clause-number_is c =
    let x = c.args.x in
    let p = err_from_is_err_and c.from_residual.result c.from_residual.ensures.1 in
    rw (p.1, p.2) (tables_met (job_held c.args.job.now) (state_viewed c.args.state.now) (asked x.kind x.first x.second) _ c.in_err-sharing.ensures.number_is (number_positive _))

pub totals_asked-requires-clause-waits_in : goal.totals_asked-requires-clause-waits_in
totals_asked-requires-clause-waits_in c =
    waits_asked _ _ _ _ c.in_ok-sharing.ensures.tested

pub totals_asked-requires-clause-boxes_bound : goal.totals_asked-requires-clause-boxes_bound
totals_asked-requires-clause-boxes_bound c =
    marks_bound _ _ _ _ c.in_ok-sharing.ensures.tested

pub returns-in_err-totals_asked-clause-number_is : goal.returns-in_err-totals_asked-clause-number_is
returns-in_err-totals_asked-clause-number_is c =
    let x = c.args.x in
    let p = err_from_is_err_and c.from_residual-in_err-totals_asked.result c.from_residual-in_err-totals_asked.ensures.1 in
    rw (p.1, p.2) (asked_met _ _ _ _ c.in_ok-sharing.ensures.tested (asked x.kind x.first x.second) c.requires.0 _ c.in_err-totals_asked.ensures (number_positive _))

pub box_span-span-requires-clause-box_in : goal.box_span-span-requires-clause-box_in
box_span-span-requires-clause-box_in c =
    let x = c.args.x in
    rw c.from.ensures (span_in _ _ _ _ c.in_ok-sharing.ensures.tested (asked x.kind x.first x.second) c.requires.0 _ c.in_ok-totals_asked.ensures refl
    _ _ c.span_box.ensures c.span_group.ensures)

pub box_span-span-requires-clause-b_in_bounds : goal.box_span-span-requires-clause-b_in_bounds
box_span-span-requires-clause-b_in_bounds c =
    let x = c.args.x in
    rw c.from.ensures (span_room _ _ _ _ c.in_ok-sharing.ensures.tested (asked x.kind x.first x.second) c.requires.0 _ c.in_ok-totals_asked.ensures refl
    _ _ c.span_box.ensures c.span_group.ensures _ c.requires.1)

pub width_of-requires : goal.width_of-requires
width_of-requires c =
    few_lists _ _ _ _ c.in_ok-sharing.ensures.tested

pub total_fits-requires : goal.total_fits-requires
total_fits-requires c =
    let x = c.args.x in
    let span = rw c.from.ensures at c.box_span-span.ensures in
    rw c.width_of.ensures.0 (fits_in _ _ _ _ c.in_ok-sharing.ensures.tested (asked x.kind x.first x.second) c.requires.0 _ c.in_ok-totals_asked.ensures refl
    _ _ c.span_box.ensures c.span_group.ensures _ _ _ _ c.requires.1 span.from_value.0 span.from_value.1 span.grocers_after)

pub returns-in_err-late-clause-number_is : goal.returns-in_err-late-clause-number_is
returns-in_err-late-clause-number_is c =
    let x = c.args.x in
    let span = rw c.from.ensures at c.box_span-span.ensures in
    let p = err_from_is_err_and c.from_residual-in_err-late.result c.from_residual-in_err-late.ensures.1 in
    rw (p.1, p.2) (late_met _ _ _ _ c.in_ok-sharing.ensures.tested (asked x.kind x.first x.second) c.requires.0 _ c.in_ok-totals_asked.ensures refl
    _ _ c.span_box.ensures c.span_group.ensures _ _ _ _ c.requires.1 span.from_value.0 span.from_value.1 span.grocers_after
    _ (rw c.width_of.ensures.0 at c.total_fits.ensures) _ c.in_err-late.ensures)

pub returns-clause-number_is : goal.returns-clause-number_is
returns-clause-number_is c =
    let x = c.args.x in
    let span = rw c.from.ensures at c.box_span-span.ensures in
    late_met _ _ _ _ c.in_ok-sharing.ensures.tested (asked x.kind x.first x.second) c.requires.0 _ c.in_ok-totals_asked.ensures refl
    _ _ c.span_box.ensures c.span_group.ensures _ _ _ _ c.requires.1 span.from_value.0 span.from_value.1 span.grocers_after
    _ (rw c.width_of.ensures.0 at c.total_fits.ensures) _ c.in_ok-late.ensures

pub returns-clause-decided : goal.returns-clause-decided
returns-clause-decided c =
    let x = c.args.x in
    let span = rw c.from.ensures at c.box_span-span.ensures in
    none_met _ _ _ _ c.in_ok-sharing.ensures.tested (asked x.kind x.first x.second) c.requires.0 _ c.in_ok-totals_asked.ensures refl
    _ _ c.span_box.ensures c.span_group.ensures _ _ _ _ c.requires.1 span.from_value.0 span.from_value.1 span.grocers_after
    _ (rw c.width_of.ensures.0 at c.total_fits.ensures) _ c.in_ok-late.ensures refl
