-- `writer::file::put_offer_blocks` meets its contract. The invariant: the first b blocks are put. Assumes nothing.
use mathlib.Core.Path.{◌≡◌}
use Prim.Native.Nat.{◌*◌}
use Rattle.format.specs.Blocks.{offer_bytes}
use Rattle.format.specs.Tables.{offer_of}
use Rattle.writer_checks.specs.Held.{offers_held}
use Rattle.writer_bytes.specs.Puts.{put}
use Rattle.writer.specs.Bodies.{record_body, blocks_of}
use Rattle.writer.proofs.file.put_offer_blocks.Given as goal

abbrev pub invariant-loop-b : goal.invariant-loop-b
invariant-loop-b l =
    l.out ≡ put 512 (l.b * 512) (blocks_of (record_body 1 1 l.n (λ i. offer_bytes (offer_of (offers_held l.tables) i)))) l.initial.out
