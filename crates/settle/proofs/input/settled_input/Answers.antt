-- `settle::input::settled_input` meets its contract: its buffer has a byte more than the longest file. Assumes nothing.
use Rattle.std.proofs.Common.{◌∙◌, arith}
use Rattle.settle.proofs.Enough.{read_printed}
use Rattle.settle.proofs.input.settled_input.Goals as goal

pub returns-clause-by_index : goal.returns-clause-by_index
returns-clause-by_index c input h =
    c.settled.ensures.out_after ∙ read_printed input _ _ (omega arith) h
