-- `writer::records::put_prices` meets its contract. The invariant: the first r prices are put. Assumes nothing.
use mathlib.Core.Path.{◌≡◌}
use Prim.Native.Nat.{◌+◌, ◌*◌}
use lib.ListN.{get_or}
use Rattle.format.specs.Bytes.{bytes32}
use Rattle.writer_bytes.specs.Puts.{put, bytes_of}
use Rattle.writer.specs.Bodies.{rows_of}
use Rattle.writer.proofs.records.put_prices.Given as goal

abbrev pub invariant-loop-r : goal.invariant-loop-r
invariant-loop-r l =
    l.out ≡ put l.at (l.r * 4) (rows_of 4 (λ r'. bytes_of (bytes32 (get_or l.price (l.first + r') 0)))) l.initial.out
