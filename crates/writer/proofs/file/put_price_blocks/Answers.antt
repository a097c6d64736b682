-- `writer::file::put_price_blocks` meets its contract. The invariant: the first x blocks are put. Assumes nothing.
use mathlib.Core.Path.{ap, ◌∙◌}
use Prim.Native.Nat.{ℕ, suc, ◌+◌, ◌*◌, ◌/◌, ◌%◌}
use native.Mathlib.Omega.{arith}
use lib.ListN.{get_or}
use Rattle.format.specs.File.{block_byte}
use Rattle.writer_bytes.specs.Puts.{put}
use Rattle.writer.specs.Bodies.{price_body, list_body}
use Rattle.writer_bytes.proofs.Puts.{put_none}
use Rattle.writer.proofs.Blocks.{block_next}
use Rattle.writer.proofs.file.put_price_blocks.Goals as goal

pub loop-x-init : goal.loop-x-init
loop-x-init c = put_none _ _ _

pub loop-x-preserved : goal.loop-x-preserved
loop-x-preserved c =
    let a = c.args in
    let x = c.loop-x.x in
    let each = c.list_blocks-each.result in
    let body = list_body a.k a.n a.price.now in
    c.put_price_block.ensures
    ∙ ap (λ (y : ℕ). put (512 * (a.k + x)) 512 (block_byte (price_body (a.k + x) a.n (λ (i' : ℕ). get_or a.price.now (y + i') 0) (x % each))) c.loop-x.out) c.list_start.ensures.0
    ∙ ap (λ (y : ℕ). put (512 * (a.k + x)) 512 (block_byte (price_body (a.k + x) a.n (λ (i' : ℕ). get_or a.price.now (suc (x / y) * a.n + i') 0) (x % y))) c.loop-x.out) c.list_blocks-each.ensures
    ∙ ap (put (512 * (a.k + x)) 512 (block_byte (body x))) c.loop-x.invariant
    ∙ block_next body a.k x a.out.now (omega (arith, c.loop-x-test.true, ap (λ (y : ℕ). a.lists * y) c.list_blocks-each.ensures, c.requires.le_n))
