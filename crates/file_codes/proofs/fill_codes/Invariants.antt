-- `file_codes::fill_codes` meets its contract. The invariant: the first i codes are stored. Assumes nothing.
use mathlib.Core.Path.{◌≡◌}
use Rattle.format.specs.Bytes.{from, after}
use Rattle.format.specs.Codes.{read_code}
use Rattle.format.specs.File.{record_at}
use Rattle.format.specs.Tables.{store_codes}
use Rattle.file_codes.proofs.fill_codes.Given as goal

abbrev pub invariant-loop-i : goal.invariant-loop-i
invariant-loop-i l =
    l.code ≡ store_codes l.i (λ k. read_code (after (from l.f (record_at l.first k)) l.at)) l.initial.code
