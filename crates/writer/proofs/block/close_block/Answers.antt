-- `writer::block::close_block` meets its contract. Assumes nothing.
use mathlib.Core.Path.{◌∙◌, ap}
use Prim.Native.Nat.{◌+◌}
use native.Mathlib.Omega.{arith}
use Rattle.format.specs.Bytes.{bytes16}
use Rattle.format.specs.Blocks.{first_sum, second_sum}
use Rattle.writer_bytes.specs.Puts.{put, bytes_of}
use Rattle.writer.proofs.Blocks.{closed}
use Rattle.writer.proofs.block.close_block.Goals as goal

pub put16-requires : goal.put16-requires
unfolding first_sum
put16-requires c = (omega arith, omega (arith, c.sums-s.ensures.0))

pub put16-requires-2 : goal.put16-requires-2
unfolding second_sum
put16-requires-2 c = (omega arith, omega (arith, c.sums-s.ensures.1))

pub returns : goal.returns
returns c =
    let a = c.args in
    c.put16-2.ensures
    ∙ ap (put (a.at + 510) 2 (bytes_of (bytes16 c.from-2.result))) c.put16.ensures
    ∙ closed a.at a.used a.out.now c.requires.1 c.requires.0 _ c.put_zeros.ensures _ _ (c.from.ensures ∙ c.sums-s.ensures.0) (c.from-2.ensures ∙ c.sums-s.ensures.1)
