-- `late_checks::present::late_short` meets its contract. Assumes nothing.
use Rattle.format.specs.Tables.{short_tables}
use Rattle.model.specs.Tables.{state_short}
use Rattle.late_rules.specs.Late.{late_short}
use Rattle.late_checks.proofs.present.late_short.Goals as goal

pub returns : goal.returns
unfolding late_short short_tables state_short
returns c =
    λ working totals.
    rw (c.short_offers-offers.ensures, c.short_tallies-tallies.ensures, c.from-m.ensures, c.state_short.ensures working totals)
