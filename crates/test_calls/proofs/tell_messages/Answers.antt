-- `test_calls::tell_messages` meets its contract. Assumes nothing.
use lib.ListN.{length-set}
use Rattle.test_calls.proofs.Told.{told_made, told_not_made}
use Rattle.test_calls.proofs.tell_messages.Goals as goal

pub lay-requires : goal.lay-requires
lay-requires c =
    c.requires.0

pub lay-requires-in-Ok : goal.lay-requires-in-Ok
lay-requires-in-Ok c =
    c.requires.1

pub bounds-job_words-0 : goal.bounds-job_words-0
bounds-job_words-0 c =
    c.requires.2

pub shape_of-price_words : goal.shape_of-price_words
shape_of-price_words c =
    c.lay.auto.out

pub shape_of-total_words : goal.shape_of-total_words
shape_of-total_words c =
    c.lay-in-Ok.auto.out

pub shape_of-job_words : goal.shape_of-job_words
shape_of-job_words c =
    length-set c.args.job_words.now 0 _

pub returns-in-Ok : goal.returns-in-Ok
returns-in-Ok c =
    told_made _ _ _ _ _ c.args.job_words.now _ _ _ c.in-Ok.is c.requires.2 c.lay.ensures c.lay-in-Ok.ensures

pub returns-in-Err : goal.returns-in-Err
returns-in-Err c =
    told_not_made _ _ _ _ _ _ _ _ c.in-Err.is c.number.ensures
