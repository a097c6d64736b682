-- `file_blocks::codes::is_code` meets its contract. Assumes nothing.
use mathlib.Core.Path.{◌≡◌}
use Rattle.laws.specs.Below.{all}
use Rattle.format.specs.Bytes.{from}
use Rattle.format.specs.Codes.{is_place, read_code}
use Rattle.file_blocks.proofs.codes.is_code.Given as goal

abbrev pub invariant-loop-i : goal.invariant-loop-i
invariant-loop-i l =
    l.ok ≡ all l.i (is_place (read_code (from l.f l.at)))
