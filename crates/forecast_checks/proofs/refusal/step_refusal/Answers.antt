-- `forecast_checks::refusal::step_refusal` meets its contract: each number is that of the first condition that is met. Assumes nothing.
use mathlib.Core.Path.{refl}
use Rattle.std.proofs.lemmas.Result.{err_from_is_err_and}
use Rattle.model.specs.Step.{asked}
use Rattle.refusals.proofs.Numbers.{number_positive}
use Rattle.forecast_doubles.specs.Lent.{forecast_held, state_viewed}
use Rattle.forecast_checks.proofs.Passed.{tables_met, offers_placed, grocers_placed, owned, marks_bound, rules_met, message_bound, kind_bound, owners_bound, sums_bound, sent_bound, late_met, none_met}
use Rattle.forecast_checks.proofs.refusal.step_refusal.Goals as goal

pub returns-in_err-table_refusal : goal.returns-in_err-table_refusal
returns-in_err-table_refusal c =
    let p = err_from_is_err_and c.from_residual.result c.from_residual.ensures.1 in
    rw (p.1, p.2) (tables_met (forecast_held c.args.f.now) (state_viewed c.args.s.now) _ _ _ _ c.in_err-table_refusal.ensures (number_positive _))

pub needs-requires : goal.needs-requires
needs-requires c =
    offers_placed (forecast_held c.args.f.now) (state_viewed c.args.s.now) c.in_ok-table_refusal.ensures

pub sharers-requires : goal.sharers-requires
sharers-requires c =
    grocers_placed (forecast_held c.args.f.now) (state_viewed c.args.s.now) c.in_ok-table_refusal.ensures

pub asked_refusal-requires-clause-owned : goal.asked_refusal-requires-clause-owned
asked_refusal-requires-clause-owned c =
    owned (forecast_held c.args.f.now) (state_viewed c.args.s.now) c.in_ok-table_refusal.ensures _ _ c.needs.ensures c.sharers.ensures

pub asked_refusal-requires-clause-boxes_bound : goal.asked_refusal-requires-clause-boxes_bound
asked_refusal-requires-clause-boxes_bound c =
    marks_bound (forecast_held c.args.f.now) (state_viewed c.args.s.now) c.in_ok-table_refusal.ensures

pub returns-in_err-asked_refusal : goal.returns-in_err-asked_refusal
returns-in_err-asked_refusal c =
    let x = c.args.x in
    let p = err_from_is_err_and c.from_residual-in_err-asked_refusal.result c.from_residual-in_err-asked_refusal.ensures.1 in
    rw (p.1, p.2) (
    rules_met (forecast_held c.args.f.now) (state_viewed c.args.s.now) c.in_ok-table_refusal.ensures _ _ c.needs.ensures c.sharers.ensures
    (asked x.kind x.first x.second) _ c.in_err-asked_refusal.ensures (number_positive _)
    )

pub message_words-words-requires-clause-owned : goal.message_words-words-requires-clause-owned
message_words-words-requires-clause-owned c =
    owned (forecast_held c.args.f.now) (state_viewed c.args.s.now) c.in_ok-table_refusal.ensures _ _ c.needs.ensures c.sharers.ensures

pub message_words-words-requires-clause-offers_bound : goal.message_words-words-requires-clause-offers_bound
message_words-words-requires-clause-offers_bound c =
    let x = c.args.x in
    message_bound (forecast_held c.args.f.now) (state_viewed c.args.s.now) c.in_ok-table_refusal.ensures _ _ c.needs.ensures c.sharers.ensures
    (asked x.kind x.first x.second) _ c.in_ok-asked_refusal.ensures refl

pub message_words-words-requires-clause-le_kind : goal.message_words-words-requires-clause-le_kind
message_words-words-requires-clause-le_kind c =
    let x = c.args.x in
    kind_bound (forecast_held c.args.f.now) (state_viewed c.args.s.now) c.in_ok-table_refusal.ensures _ _ c.needs.ensures c.sharers.ensures
    (asked x.kind x.first x.second) _ c.in_ok-asked_refusal.ensures refl

pub late_fits-requires-clause-k_bound : goal.late_fits-requires-clause-k_bound
late_fits-requires-clause-k_bound c =
    owners_bound (forecast_held c.args.f.now) (state_viewed c.args.s.now) c.in_ok-table_refusal.ensures

pub late_fits-requires-clause-m_in_bounds : goal.late_fits-requires-clause-m_in_bounds
late_fits-requires-clause-m_in_bounds c =
    sums_bound (forecast_held c.args.f.now) (state_viewed c.args.s.now) c.in_ok-table_refusal.ensures

pub late_fits-requires-clause-in_bounds : goal.late_fits-requires-clause-in_bounds
late_fits-requires-clause-in_bounds c =
    let x = c.args.x in
    sent_bound (forecast_held c.args.f.now) (state_viewed c.args.s.now) c.in_ok-table_refusal.ensures _ _ c.needs.ensures c.sharers.ensures
    (asked x.kind x.first x.second) _ c.in_ok-asked_refusal.ensures refl _ c.message_words-words.ensures

pub returns-then-not-late_fits : goal.returns-then-not-late_fits
returns-then-not-late_fits c =
    let x = c.args.x in
    late_met (forecast_held c.args.f.now) (state_viewed c.args.s.now) c.in_ok-table_refusal.ensures _ _ c.needs.ensures c.sharers.ensures
    (asked x.kind x.first x.second) _ c.in_ok-asked_refusal.ensures refl _ c.message_words-words.ensures _ c.late_fits.ensures c.if-not-late_fits.true

pub returns : goal.returns
returns c =
    let x = c.args.x in
    none_met (forecast_held c.args.f.now) (state_viewed c.args.s.now) c.in_ok-table_refusal.ensures _ _ c.needs.ensures c.sharers.ensures
    (asked x.kind x.first x.second) _ c.in_ok-asked_refusal.ensures refl _ c.message_words-words.ensures _ c.late_fits.ensures c.if-not-late_fits.false
