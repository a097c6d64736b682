-- `writer::records::put_owners` meets its contract. The invariant: the first i owners are put. Assumes nothing.
use mathlib.Core.Path.{refl}
use native.Mathlib.Omega.{arith}
use Rattle.writer_bytes.specs.Puts.{bytes_of}
use Rattle.writer_bytes.proofs.Puts.{put_none, store_next}
use Rattle.writer.proofs.records.put_owners.Goals as goal

pub loop-i-init : goal.loop-i-init
loop-i-init c = put_none _ _ _

pub loop-i-preserved : goal.loop-i-preserved
loop-i-preserved c =
    rw c.loop-i.invariant (store_next c.args.at c.loop-i.i (bytes_of c.args.grocer_owner.now) c.args.out.now _ (omega arith) refl)
