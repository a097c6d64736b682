-- `forecast_checks::request::request_refusal` meets its contract: each number is that of the first test that holds. Assumes nothing.
use mathlib.Core.Path.{sym, ◌∙◌}
use mathlib.Core.Bool.{true, false}
use Rattle.forecast_checks.proofs.Asked.{kind_met, kind_in, boxes_met, step_met, mark_in, message_in, done_met, ready_told}
use Rattle.forecast_checks.proofs.request.request_refusal.Goals as goal

pub returns-then-not-is_kind : goal.returns-then-not-is_kind
returns-then-not-is_kind c =
    kind_met c.args.k c.args.receivers.now c.args.senders.now c.args.done.now c.args.kind c.args.a c.args.b (sym c.is_kind.ensures ∙ c.if-not-is_kind.true)

pub boxes_fit-requires : goal.boxes_fit-requires
boxes_fit-requires c =
    kind_in c.args.k c.args.receivers.now c.args.senders.now c.args.done.now c.args.kind c.args.a c.args.b (sym c.is_kind.ensures ∙ c.if-not-is_kind.false)

pub returns-then-not-boxes_fit : goal.returns-then-not-boxes_fit
returns-then-not-boxes_fit c =
    boxes_met c.args.k c.args.receivers.now c.args.senders.now c.args.done.now c.args.kind c.args.a c.args.b (sym c.is_kind.ensures ∙ c.if-not-is_kind.false) (sym c.boxes_fit.ensures ∙ c.if-not-boxes_fit.true)

pub fits-requires : goal.fits-requires
fits-requires c =
    message_in c.args.k c.args.receivers.now c.args.senders.now c.args.done.now c.args.kind c.args.a c.args.b (sym c.is_kind.ensures ∙ c.if-not-is_kind.false) (sym c.boxes_fit.ensures ∙ c.if-not-boxes_fit.false)
    c.requires.0 c.requires.1

pub returns-then-not-fits : goal.returns-then-not-fits
returns-then-not-fits c =
    step_met c.args.k c.args.receivers.now c.args.senders.now c.args.done.now c.args.kind c.args.a c.args.b (sym c.is_kind.ensures ∙ c.if-not-is_kind.false)
    (sym c.boxes_fit.ensures ∙ c.if-not-boxes_fit.false) (sym c.fits.ensures ∙ c.if-not-fits.true)

pub is_done-requires : goal.is_done-requires
is_done-requires c =
    mark_in c.args.k c.args.receivers.now c.args.senders.now c.args.done.now c.args.kind c.args.a c.args.b (sym c.is_kind.ensures ∙ c.if-not-is_kind.false) (sym c.boxes_fit.ensures ∙ c.if-not-boxes_fit.false) c.requires.0 c.requires.1

pub returns-then-is_done : goal.returns-then-is_done
returns-then-is_done c =
    done_met c.args.k c.args.receivers.now c.args.senders.now c.args.done.now c.args.kind c.args.a c.args.b (sym c.is_kind.ensures ∙ c.if-not-is_kind.false) (sym c.boxes_fit.ensures ∙ c.if-not-boxes_fit.false)
    (sym c.fits.ensures ∙ c.if-not-fits.false) _ c.is_done.ensures c.if-is_done.true

pub is_ready-requires : goal.is_ready-requires
is_ready-requires c =
    mark_in c.args.k c.args.receivers.now c.args.senders.now c.args.done.now c.args.kind c.args.a c.args.b (sym c.is_kind.ensures ∙ c.if-not-is_kind.false) (sym c.boxes_fit.ensures ∙ c.if-not-boxes_fit.false) c.requires.0 c.requires.1

pub returns-then-not-is_ready : goal.returns-then-not-is_ready
returns-then-not-is_ready c =
    ready_told c.args.k c.args.receivers.now c.args.senders.now c.args.done.now c.args.kind c.args.a c.args.b (sym c.is_kind.ensures ∙ c.if-not-is_kind.false) (sym c.boxes_fit.ensures ∙ c.if-not-boxes_fit.false)
    (sym c.fits.ensures ∙ c.if-not-fits.false) _ c.is_done.ensures c.if-is_done.false false (sym c.is_ready.ensures ∙ c.if-not-is_ready.true)

pub returns : goal.returns
returns c =
    ready_told c.args.k c.args.receivers.now c.args.senders.now c.args.done.now c.args.kind c.args.a c.args.b (sym c.is_kind.ensures ∙ c.if-not-is_kind.false) (sym c.boxes_fit.ensures ∙ c.if-not-boxes_fit.false)
    (sym c.fits.ensures ∙ c.if-not-fits.false) _ c.is_done.ensures c.if-is_done.false true (sym c.is_ready.ensures ∙ c.if-not-is_ready.false)
