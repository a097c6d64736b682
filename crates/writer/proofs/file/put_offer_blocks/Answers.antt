-- `writer::file::put_offer_blocks` meets its contract. The invariant: the first b blocks are put. Assumes nothing.
use mathlib.Core.Path.{ap, ◌∙◌}
use Prim.Native.Nat.{ℕ, ◌+◌, ◌*◌}
use native.Mathlib.Omega.{arith}
use Rattle.format.specs.Blocks.{offer_bytes}
use Rattle.format.specs.File.{block_byte}
use Rattle.format.specs.Tables.{offer_of}
use Rattle.writer_bytes.specs.Puts.{put}
use Rattle.writer.specs.Bodies.{record_body}
use Rattle.writer_bytes.proofs.Puts.{put_none}
use Rattle.writer_checks.specs.Held.{offers_held}
use Rattle.writer.proofs.Blocks.{block_next}
use Rattle.writer.proofs.file.put_offer_blocks.Goals as goal

pub loop-b-init : goal.loop-b-init
loop-b-init c = put_none _ _ _

pub loop-b-preserved : goal.loop-b-preserved
loop-b-preserved c =
    let a = c.args in
    let b = c.loop-b.b in
    let body : ℕ → ℕ → ℕ = record_body 1 1 a.n (λ i. offer_bytes (offer_of (offers_held a.tables.now) i)) in
    c.put_offer_block.ensures
    ∙ ap (put (512 * (1 + b)) 512 (block_byte (body b))) c.loop-b.invariant
    ∙ block_next body 1 b a.out.now (omega (arith, c.loop-b-test.true, c.requires.n_bound))
