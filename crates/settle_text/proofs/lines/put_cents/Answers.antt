-- `settle_text::lines::put_cents` meets its contract. Assumes nothing.
use mathlib.Core.Path.{ap}
use mir.Syntax.{w64}
use mir.Facts.{to_z-of_z}
use Rattle.printing.specs.Printed.{signed_decimal}
use Rattle.settle_text.proofs.Puts.{behind, reworded}
use Rattle.settle_text.proofs.lines.put_cents.Goals as goal

pub returns : goal.returns
returns c =
    behind c.put_byte-spaced.ensures (reworded (ap signed_decimal (to_z-of_z {w = w64} c.ranges.z)) c.put_amount.ensures)
