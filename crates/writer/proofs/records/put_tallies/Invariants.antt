-- `writer::records::put_tallies` meets its contract. The invariant: the first r records are put. Assumes nothing.
use mathlib.Core.Path.{◌≡◌}
use Prim.Native.Nat.{◌+◌, ◌*◌}
use Rattle.format.specs.Blocks.{tally_bytes}
use Rattle.format.specs.Tables.{tally_of}
use Rattle.writer_checks.specs.Held.{tallies_held}
use Rattle.writer_bytes.specs.Puts.{put, bytes_of}
use Rattle.writer.specs.Bodies.{rows_of}
use Rattle.writer.proofs.records.put_tallies.Given as goal

abbrev pub invariant-loop-r : goal.invariant-loop-r
invariant-loop-r l =
    l.out ≡ put l.at (l.r * 24) (rows_of 24 (λ r'. bytes_of (tally_bytes (tally_of (tallies_held l.tables) (l.first + r'))))) l.initial.out
