-- `writer::file::put_tally_blocks` meets its contract. The invariant: the first b blocks are put. Assumes nothing.
use mathlib.Core.Path.{ap, ◌∙◌}
use Prim.Native.Nat.{ℕ, ◌+◌, ◌*◌}
use native.Mathlib.Omega.{arith}
use Rattle.format.specs.Blocks.{tally_bytes}
use Rattle.format.specs.File.{block_byte}
use Rattle.format.specs.Tables.{tally_of}
use Rattle.writer_bytes.specs.Puts.{put}
use Rattle.writer.specs.Bodies.{record_body}
use Rattle.writer_bytes.proofs.Puts.{put_none}
use Rattle.writer_checks.specs.Held.{tallies_held}
use Rattle.writer.proofs.Blocks.{block_next}
use Rattle.writer.proofs.file.put_tally_blocks.Goals as goal

pub loop-b-init : goal.loop-b-init
loop-b-init c = put_none _ _ _

pub loop-b-preserved : goal.loop-b-preserved
loop-b-preserved c =
    let a = c.args in
    let b = c.loop-b.b in
    let body : ℕ → ℕ → ℕ = record_body 3 a.k a.t (λ i. tally_bytes (tally_of (tallies_held a.tables.now) i)) in
    c.put_tally_block.ensures
    ∙ ap (put (512 * (a.k + b)) 512 (block_byte (body b))) c.loop-b.invariant
    ∙ block_next body a.k b a.out.now (omega (arith, c.loop-b-test.true, c.requires.t_bound))
