-- `forecast_checks::tables::forecast_in_range` meets its contract: what each of the range checks ensures. Assumes nothing.
use Rattle.forecast_doubles.specs.Lent.{forecast_held}
use Rattle.forecast_checks.proofs.Tested.{lines_tested}
use Rattle.forecast_checks.proofs.tables.forecast_in_range.Goals as goal

pub returns : goal.returns
returns c =
    lines_tested (forecast_held c.args.f.now) c.from-m.result c.from-n.result c.from-l.result c.from-m.ensures c.from-n.ensures c.from-l.ensures
    c.under16.result c.under16-2.result c.under16-3.result c.under16-4.result c.under16-5.result
    c.under16.ensures c.under16-2.ensures c.under16-3.ensures c.under16-4.ensures c.under16-5.ensures
