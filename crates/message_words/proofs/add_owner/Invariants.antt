-- `message_words::add_owner` meets its contract: the words of the boxes passed are added. Assumes nothing.
use mathlib.Core.Path.{◌≡◌}
use Rattle.message_words.proofs.Sending.{passing_table}
use Rattle.message_words.proofs.add_owner.Given as goal

abbrev pub invariant-loop-b : goal.invariant-loop-b
invariant-loop-b l = l.table ≡ passing_table l.back l.n l.owners l.masks l.b
