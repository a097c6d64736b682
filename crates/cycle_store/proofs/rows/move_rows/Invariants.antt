-- `cycle_store::rows::move_rows` meets its contract: the words from p on are moved. Assumes nothing.
use Prim.Native.Nat.{◌*◌}
use Rattle.cycle_store.specs.Moved.{word_moved}
use Rattle.cycle_store.proofs.MovedRows.{From}
use Rattle.cycle_store.proofs.rows.move_rows.Given as goal

abbrev pub invariant-loop-p : goal.invariant-loop-p
invariant-loop-p l =
    From (13 * l.m) (word_moved l.m (l.k * l.m) l.amounts l.initial.held) l.initial.held l.p l.held
