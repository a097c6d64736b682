-- `step_refusal::price_refusal` meets its contract: its number is that of the first condition met. Assumes nothing.
use mathlib.Core.Path.{refl}
use Rattle.std.proofs.lemmas.Result.{err_from_is_err_and}
use Rattle.model.specs.Step.{asked}
use Rattle.refusals.proofs.Numbers.{number_positive}
use Rattle.tables.specs.Lent.{job_held, state_viewed}
use Rattle.step_refusal.proofs.Base.{tables_met, marks_bound}
use Rattle.step_refusal.proofs.Priced.{offers_placed, offers_owned, asked_met, first_box, tallies_in, offers_bound, boxes_bound, fits_in, late_met, none_met}
use Rattle.step_refusal.proofs.price_refusal.Goals as goal

pub returns-in_err-sharing-clause-number_is : goal.returns-in_err-sharing-clause-number_is
returns-in_err-sharing-clause-number_is c =
    let x = c.args.x in
    let p = err_from_is_err_and c.from_residual.result c.from_residual.ensures.1 in
    rw (p.1, p.2) (tables_met (job_held c.args.job.now) (state_viewed c.args.state.now) (asked x.kind x.first x.second) _ c.in_err-sharing.ensures.number_is (number_positive _))

pub needs-needing-requires : goal.needs-needing-requires
needs-needing-requires c =
    offers_placed _ _ _ _ c.in_ok-sharing.ensures.tested

pub prices_asked-requires-clause-owned : goal.prices_asked-requires-clause-owned
prices_asked-requires-clause-owned c =
    let x = c.args.x in
    offers_owned _ _ _ _ c.in_ok-sharing.ensures.tested (asked x.kind x.first x.second) c.requires.0 _ c.needs-needing.ensures

pub prices_asked-requires-clause-boxes_bound : goal.prices_asked-requires-clause-boxes_bound
prices_asked-requires-clause-boxes_bound c =
    marks_bound _ _ _ _ c.in_ok-sharing.ensures.tested

pub returns-in_err-prices_asked-clause-number_is : goal.returns-in_err-prices_asked-clause-number_is
returns-in_err-prices_asked-clause-number_is c =
    let x = c.args.x in
    let p = err_from_is_err_and c.from_residual-in_err-prices_asked.result c.from_residual-in_err-prices_asked.ensures.1 in
    rw (p.1, p.2) (asked_met _ _ _ _ c.in_ok-sharing.ensures.tested (asked x.kind x.first x.second) c.requires.0 _ c.needs-needing.ensures
    _ c.in_err-prices_asked.ensures (number_positive _))

pub own_places-own-requires-clause-box_in : goal.own_places-own-requires-clause-box_in
own_places-own-requires-clause-box_in c =
    let x = c.args.x in
    first_box _ _ _ _ c.in_ok-sharing.ensures.tested (asked x.kind x.first x.second) c.requires.0 _ c.needs-needing.ensures _ c.in_ok-prices_asked.ensures refl

pub own_places-own-requires-clause-tallies_in : goal.own_places-own-requires-clause-tallies_in
own_places-own-requires-clause-tallies_in c =
    let x = c.args.x in
    tallies_in _ _ _ _ c.in_ok-sharing.ensures.tested (asked x.kind x.first x.second) c.requires.0 _ c.needs-needing.ensures _ c.in_ok-prices_asked.ensures refl

pub message_offers-to-requires-clause-offers_bound : goal.message_offers-to-requires-clause-offers_bound
message_offers-to-requires-clause-offers_bound c =
    let x = c.args.x in
    offers_bound _ _ _ _ c.in_ok-sharing.ensures.tested (asked x.kind x.first x.second) c.requires.0 _ c.needs-needing.ensures _ c.in_ok-prices_asked.ensures refl
    _ c.requires.1

pub message_offers-to-requires-clause-first_bound : goal.message_offers-to-requires-clause-first_bound
message_offers-to-requires-clause-first_bound c =
    let x = c.args.x in
    boxes_bound _ _ _ _ c.in_ok-sharing.ensures.tested (asked x.kind x.first x.second) c.requires.0 _ c.needs-needing.ensures _ c.in_ok-prices_asked.ensures refl

pub price_fits-requires : goal.price_fits-requires
price_fits-requires c =
    let x = c.args.x in
    let listed = c.message_offers-to.ensures in
    fits_in _ _ _ _ c.in_ok-sharing.ensures.tested (asked x.kind x.first x.second) c.requires.0 _ c.needs-needing.ensures _ c.in_ok-prices_asked.ensures refl
    _ _ _ _ c.own_places-own.ensures _ _ listed.listed listed.listed_2 listed.upper_bound

pub returns-in_err-late-clause-number_is : goal.returns-in_err-late-clause-number_is
returns-in_err-late-clause-number_is c =
    let x = c.args.x in
    let listed = c.message_offers-to.ensures in
    let p = err_from_is_err_and c.from_residual-in_err-late.result c.from_residual-in_err-late.ensures.1 in
    rw (p.1, p.2) (late_met _ _ _ _ c.in_ok-sharing.ensures.tested (asked x.kind x.first x.second) c.requires.0 _ c.needs-needing.ensures _ c.in_ok-prices_asked.ensures refl
    _ _ _ _ c.own_places-own.ensures _ _ listed.listed listed.listed_2 _ c.price_fits.ensures _ c.in_err-late.ensures)

pub returns-clause-number_is : goal.returns-clause-number_is
returns-clause-number_is c =
    let x = c.args.x in
    let listed = c.message_offers-to.ensures in
    late_met _ _ _ _ c.in_ok-sharing.ensures.tested (asked x.kind x.first x.second) c.requires.0 _ c.needs-needing.ensures _ c.in_ok-prices_asked.ensures refl
    _ _ _ _ c.own_places-own.ensures _ _ listed.listed listed.listed_2 _ c.price_fits.ensures _ c.in_ok-late.ensures

pub returns-clause-decided : goal.returns-clause-decided
returns-clause-decided c =
    let x = c.args.x in
    let listed = c.message_offers-to.ensures in
    none_met _ _ _ _ c.in_ok-sharing.ensures.tested (asked x.kind x.first x.second) c.requires.0 _ c.needs-needing.ensures _ c.in_ok-prices_asked.ensures refl
    _ _ _ _ c.own_places-own.ensures _ _ listed.listed listed.listed_2 _ c.price_fits.ensures _ c.in_ok-late.ensures refl
