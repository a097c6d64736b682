-- `forecast_checks::tables::forecast_short` meets its contract: the code is the definition. Assumes nothing.
use Rattle.forecast_rules.specs.Tables.{forecast_lengths, forecast_short}
use Rattle.forecast_checks.proofs.tables.forecast_short.Goals as goal

pub returns : goal.returns
unfolding forecast_short forecast_lengths
returns c =
    rw (c.from-m.ensures, c.from-n.ensures, c.from-l.ensures)
