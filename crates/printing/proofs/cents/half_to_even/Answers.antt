-- `printing::cents::half_to_even` meets its contract. Assumes nothing.
use Rattle.printing.proofs.Rounding.{from_500}
use Rattle.printing.proofs.cents.half_to_even.Goals as goal

pub returns : goal.returns
returns c =
    from_500 _
