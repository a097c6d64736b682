-- `test_calls::tell_numbers` meets its contract. Assumes nothing.
use Rattle.laws.specs.Tables.{tabulate, overwrite}
use Rattle.book_sort.specs.Sort.{in_front}
use Rattle.book.specs.Book.{said}
use Rattle.test_calls.specs.EntryBook.{numbers_as}
use Rattle.test_calls.proofs.tell_numbers.Goals as goal

pub returns-in-Ok : goal.returns-in-Ok
unfolding numbers_as said in_front overwrite tabulate
returns-in-Ok c =
    rw (c.in-Ok.is, c.copy_from_slice.ensures.after)

pub returns-in-Err : goal.returns-in-Err
unfolding numbers_as said
returns-in-Err c =
    rw (c.in-Err.is, c.number.ensures)
