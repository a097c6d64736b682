-- `test_calls::entries_book` meets its contract. Assumes nothing.
use Rattle.test_calls.proofs.Told.{booked_short, booked-told}
use Rattle.test_calls.proofs.entries_book.Goals as goal

pub returns-then-numbers-lt3 : goal.returns-then-numbers-lt3
returns-then-numbers-lt3 c =
    rw c.number.ensures (booked_short _ _ _ _ c.if-numbers-lt3.true)

pub tell_numbers-requires : goal.tell_numbers-requires
tell_numbers-requires c =
    c.if-numbers-lt3.false

pub shape_of-local_offers : goal.shape_of-local_offers
shape_of-local_offers c =
    c.book-answer.auto.local_offers

pub shape_of-local_grocers : goal.shape_of-local_grocers
shape_of-local_grocers c =
    c.book-answer.auto.local_grocers

pub shape_of-starts : goal.shape_of-starts
shape_of-starts c =
    c.book-answer.auto.starts

pub shape_of-packed_grocers : goal.shape_of-packed_grocers
shape_of-packed_grocers c =
    c.book-answer.auto.packed_grocers

pub shape_of-packed_counts : goal.shape_of-packed_counts
shape_of-packed_counts c =
    c.book-answer.auto.packed_counts

pub shape_of-numbers : goal.shape_of-numbers
shape_of-numbers c =
    c.tell_numbers.auto.numbers

pub returns : goal.returns
returns c =
    booked-told _ _ _ _ _ _ _ _ c.if-numbers-lt3.false c.tell_numbers.ensures c.book-answer.ensures
