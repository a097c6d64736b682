-- `late_checks::present::present_refusal` meets its contract. Assumes nothing.
use mathlib.Core.Path.{sym, ◌∙◌}
use Rattle.model.specs.Tables.{state_tables}
use Rattle.late_checks.specs.Lent.{head_held, reader_held}
use Rattle.late_checks.proofs.Early.{told_short, told_early}
use Rattle.late_checks.proofs.present.present_refusal.Goals as goal

pub returns-then-late_short : goal.returns-then-late_short
returns-then-late_short c =
    let t = c.args.state.now in
    λ working totals.
    told_short c.args.t (head_held c.args.tables.now) (reader_held c.args.tables.now)
    (state_tables t.known.now t.price_transit.now working totals t.statement.now t.done.now t.sent.now) _ (sym (c.late_short.ensures working totals) ∙ c.if-late_short.true)

pub returns : goal.returns
returns c =
    let t = c.args.state.now in
    λ working totals.
    told_early c.args.t (head_held c.args.tables.now) (reader_held c.args.tables.now)
    (state_tables t.known.now t.price_transit.now working totals t.statement.now t.done.now t.sent.now) _ c.requires.0
    (sym (c.late_short.ensures working totals) ∙ c.if-late_short.false) _ (rw c.run_job.ensures at (c.early_refusal.ensures working totals))
