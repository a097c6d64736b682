-- `forecast_checks::refusal::asked_refusal` meets its contract. Assumes nothing.
use Rattle.forecast_checks.proofs.refusal.asked_refusal.Goals as goal

pub returns : goal.returns
returns c =
    rw (c.by_owner-senders.ensures, c.by_owner-receivers.ensures) at c.request_refusal.ensures

pub by_owner-receivers-requires : goal.by_owner-receivers-requires
by_owner-receivers-requires c =
    c.requires.owned.0

pub by_owner-senders-requires : goal.by_owner-senders-requires
by_owner-senders-requires c =
    c.requires.owned.1

pub request_refusal-requires : goal.request_refusal-requires
request_refusal-requires c =
    c.requires.boxes_bound
