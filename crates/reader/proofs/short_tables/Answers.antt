-- `reader::short_tables` meets its contract. Assumes nothing.
use mathlib.Core.Path.{refl}
use Rattle.format.specs.Tables.{short_offers, short_tallies, short_tables, short_reader}
use Rattle.reader.proofs.short_tables.Goals as goal

pub returns : goal.returns
unfolding short_reader short_tables short_offers short_tallies
returns c =
    refl
