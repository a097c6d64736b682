-- `message_words::sent_table` meets its contract: the table is that of the owners passed. Assumes nothing.
use mathlib.Core.Path.{◌≡◌}
use Rattle.message_words.specs.Messages.{sent_table}
use Rattle.message_words.proofs.sent_table.Given as goal

abbrev pub invariant-loop-i : goal.invariant-loop-i
invariant-loop-i l = l.table ≡ sent_table l.back l.i l.owners l.masks
