-- `test_calls::entries_message_tables` meets its contract. Assumes nothing.
use Rattle.laws.specs.Tables.{tabulate}
use Rattle.test_calls.specs.EntryTables.{messages_short, no_words}
use Rattle.test_calls.proofs.Told.{messages_short_lem, messages_room, messages_told_lem}
use Rattle.test_calls.proofs.entries_message_tables.Goals as goal

pub returns-then-price_words-total_words : goal.returns-then-price_words-total_words
unfolding messages_short
returns-then-price_words-total_words c =
    rw c.number.ensures (messages_short_lem _ _ _ _ c.if-price_words-total_words.true)

pub tell_messages-requires : goal.tell_messages-requires
unfolding messages_short
tell_messages-requires c =
    let x = c.args in
    messages_room x.price_words.now x.total_words.now x.job_words.now c.if-price_words-total_words.false

pub shape_of-price_words : goal.shape_of-price_words
shape_of-price_words c =
    c.tell_messages.auto.price_words

pub shape_of-total_words : goal.shape_of-total_words
shape_of-total_words c =
    c.tell_messages.auto.total_words

pub shape_of-job_words : goal.shape_of-job_words
shape_of-job_words c =
    c.tell_messages.auto.job_words

pub returns : goal.returns
unfolding messages_short no_words tabulate
returns c =
    messages_told_lem _ _ _ _ _ _ _ _ _ c.if-price_words-total_words.false c.message_tables-answer.ensures c.tell_messages.ensures
