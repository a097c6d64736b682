-- `forecast_checks::tables::state_short` meets its contract: the code is the definition, at the products of the sizes. Assumes nothing.
use Rattle.forecast_rules.specs.Tables.{state_lengths, state_short}
use Rattle.forecast_checks.proofs.tables.state_short.Goals as goal

pub returns : goal.returns
unfolding state_short state_lengths
returns c =
    rw (c.table_words-kn.ensures, c.table_words-km.ensures, c.from.ensures, c.marks.ensures)
