-- `writer::records::put_owners` meets its contract. The invariant: the first i owners are put. Assumes nothing.
use mathlib.Core.Path.{◌≡◌}
use Rattle.writer_bytes.specs.Puts.{put, bytes_of}
use Rattle.writer.proofs.records.put_owners.Given as goal

abbrev pub invariant-loop-i : goal.invariant-loop-i
invariant-loop-i l =
    l.out ≡ put l.at l.i (bytes_of l.grocer_owner) l.initial.out
