-- `message_words::sent_table` meets its contract: no owner yet. Assumes nothing.
use Rattle.message_words.proofs.Sending.{sent_none}
use Rattle.message_words.proofs.sent_table.Goals as goal

pub loop-i-init : goal.loop-i-init
loop-i-init c = sent_none _ _ _
