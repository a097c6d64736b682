-- `tell` puts an amount into the lent word, and says the number of a refusal. Assumes nothing.
use borrow.Author.Rules.{rules}
use Rattle.laws.proofs.Signed.{read64}
use Rattle.desk.specs.Records.{answer_of}
use Rattle.test_calls.specs.Entries.{told_as}
use Rattle.test_calls.proofs.Fields.{put_one, told_amount}
use Rattle.test_calls.proofs.tell.Goals as goal

pub returns-in-Ok : goal.returns-in-Ok
returns-in-Ok c =
    told_amount _ _ _ _ c.in-Ok.is (put_one c.args.owed.now _ _ c.requires (read64 _ (search rules)))

pub returns-in-Err : goal.returns-in-Err
unfolding told_as answer_of
returns-in-Err c =
    rw (c.in-Err.is, c.number.ensures)
