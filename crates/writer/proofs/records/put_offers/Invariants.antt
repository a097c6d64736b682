-- `writer::records::put_offers` meets its contract. The invariant: the first r records are put. Assumes nothing.
use mathlib.Core.Path.{◌≡◌}
use Prim.Native.Nat.{◌+◌, ◌*◌}
use Rattle.format.specs.Blocks.{offer_bytes}
use Rattle.format.specs.Tables.{offer_of}
use Rattle.writer_checks.specs.Held.{offers_held}
use Rattle.writer_bytes.specs.Puts.{put, bytes_of}
use Rattle.writer.specs.Bodies.{rows_of}
use Rattle.writer.proofs.records.put_offers.Given as goal

abbrev pub invariant-loop-r : goal.invariant-loop-r
invariant-loop-r l =
    l.out ≡ put l.at (l.r * 24) (rows_of 24 (λ r'. bytes_of (offer_bytes (offer_of (offers_held l.tables) (l.first + r'))))) l.initial.out
