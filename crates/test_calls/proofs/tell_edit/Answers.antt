-- `test_calls::tell_edit` meets its contract. Assumes nothing.
use Rattle.laws.specs.Tables.{tabulate, overwrite}
use Rattle.book_sort.specs.Sort.{in_front}
use Rattle.late.specs.Calls.{late_answer_of}
use Rattle.test_calls.specs.EntryEdits.{report_as}
use Rattle.test_calls.proofs.tell_edit.Goals as goal

pub returns-in-Ok : goal.returns-in-Ok
unfolding report_as late_answer_of in_front overwrite tabulate
returns-in-Ok c =
    rw (c.in-Ok.is, c.copy_from_slice.ensures.after)

pub returns-in-Err : goal.returns-in-Err
unfolding report_as late_answer_of
returns-in-Err c =
    rw (c.in-Err.is, c.number.ensures)
