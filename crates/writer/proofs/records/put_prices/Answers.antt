-- `writer::records::put_prices` meets its contract. The invariant: the first r prices are put. Assumes nothing.
use mathlib.Core.Path.{ap, ◌∙◌}
use Prim.Native.Nat.{ℕ, ◌+◌, ◌*◌}
use native.Mathlib.Omega.{arith}
use lib.ListN.{get_or}
use Rattle.format.specs.Bytes.{bytes32}
use Rattle.writer_bytes.specs.Puts.{put, bytes_of}
use Rattle.writer_bytes.proofs.Puts.{put_none}
use Rattle.writer.proofs.Blocks.{row_next}
use Rattle.writer.proofs.records.put_prices.Goals as goal

pub loop-r-init : goal.loop-r-init
loop-r-init c = put_none _ _ _

pub loop-r-preserved : goal.loop-r-preserved
loop-r-preserved c =
    let row : ℕ → ℕ → ℕ =
    λ r. bytes_of (bytes32 (get_or c.args.price.now (c.args.first + r) 0)) in
    let r = c.loop-r.r in
    c.put32.ensures
    ∙ ap (put (c.args.at + r * 4) 4 (row r)) c.loop-r.invariant
    ∙ row_next 4 row c.args.at r c.args.out.now (omega (arith, c.loop-r-test.true, c.requires))
