-- `writer::file::put_price_blocks` meets its contract. The invariant: the first x blocks are put. Assumes nothing.
use mathlib.Core.Path.{◌≡◌}
use Prim.Native.Nat.{◌*◌}
use Rattle.writer_bytes.specs.Puts.{put}
use Rattle.writer.specs.Bodies.{list_body, blocks_of}
use Rattle.writer.proofs.file.put_price_blocks.Given as goal

abbrev pub invariant-loop-x : goal.invariant-loop-x
invariant-loop-x l =
    l.out ≡ put (512 * l.k) (l.x * 512) (blocks_of (list_body l.k l.n l.price)) l.initial.out
