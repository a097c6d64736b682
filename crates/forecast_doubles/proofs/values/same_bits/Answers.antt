-- `forecast_doubles::values::same_bits` meets its contract. Assumes nothing.
use lib.Ieee.{to_bits}
use borrow.Author.Rules.{rules}
use Rattle.forecast_rules.specs.Doubles.{same_bits}
use Rattle.forecast_doubles.proofs.Words.{no_nan}
use Rattle.forecast_doubles.proofs.values.same_bits.Goals as goal

pub float_to_bits-result : goal.float_to_bits-result
float_to_bits-result c =
    no_nan c.args.x c.requires.0

pub float_to_bits-result-2 : goal.float_to_bits-result-2
float_to_bits-result-2 c =
    no_nan c.args.y c.requires.1

pub returns : goal.returns
unfolding to_bits same_bits
returns c =
    search rules
