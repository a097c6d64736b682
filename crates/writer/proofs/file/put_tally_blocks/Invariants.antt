-- `writer::file::put_tally_blocks` meets its contract. The invariant: the first b blocks are put. Assumes nothing.
use mathlib.Core.Path.{◌≡◌}
use Prim.Native.Nat.{◌*◌}
use Rattle.format.specs.Blocks.{tally_bytes}
use Rattle.format.specs.Tables.{tally_of}
use Rattle.writer_checks.specs.Held.{tallies_held}
use Rattle.writer_bytes.specs.Puts.{put}
use Rattle.writer.specs.Bodies.{record_body, blocks_of}
use Rattle.writer.proofs.file.put_tally_blocks.Given as goal

abbrev pub invariant-loop-b : goal.invariant-loop-b
invariant-loop-b l =
    l.out ≡ put (512 * l.k) (l.b * 512) (blocks_of (record_body 3 l.k l.t (λ i. tally_bytes (tally_of (tallies_held l.tables) i)))) l.initial.out
