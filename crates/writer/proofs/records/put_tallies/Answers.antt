-- `writer::records::put_tallies` meets its contract. The invariant: the first r records are put. Assumes nothing.
use mathlib.Core.Path.{ap, ◌∙◌}
use Prim.Native.Nat.{ℕ, ◌+◌, ◌*◌}
use native.Mathlib.Omega.{arith}
use Rattle.format.specs.Blocks.{tally_bytes}
use Rattle.format.specs.Tables.{tally_of}
use Rattle.writer_bytes.specs.Puts.{put, bytes_of}
use Rattle.writer_bytes.proofs.Puts.{put_none}
use Rattle.writer_checks.specs.Held.{tallies_held}
use Rattle.writer.proofs.Blocks.{row_next}
use Rattle.writer.proofs.records.put_tallies.Goals as goal

pub loop-r-init : goal.loop-r-init
loop-r-init c = put_none _ _ _

pub loop-r-preserved : goal.loop-r-preserved
loop-r-preserved c =
    let row : ℕ → ℕ → ℕ = λ r. bytes_of (tally_bytes (tally_of (tallies_held c.args.tables.now) (c.args.first + r))) in
    let r = c.loop-r.r in
    c.put_tally.ensures
    ∙ ap (put (c.args.at + r * 24) 24 (row r)) c.loop-r.invariant
    ∙ row_next 24 row c.args.at r c.args.out.now (omega (arith, c.loop-r-test.true, c.requires.n_bound))
