-- `settle_text::lines::put_refused` meets its contract. Assumes nothing.
use Rattle.printing.specs.Printed.{refused_text}
use Rattle.settle_text.proofs.lines.put_refused.Goals as goal

pub returns : goal.returns
unfolding refused_text
returns c =
    c.put_count.ensures
