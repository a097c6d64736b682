-- What the other calls come to. Assumes nothing.
use Rattle.model.specs.Tables.{job_of}
use Rattle.message_tables.specs.Answers.{messages_answer, message_tables}
use Rattle.guarantees.specs.Calls.{Calls}
use Rattle.model.proofs.Step.{range, limits, in_handed}
use Rattle.desk.proofs.Fold.{amounts_in_range}
use Rattle.book.proofs.Booking.{all_packed}
use Rattle.guarantees.proofs.Book.{same_books_lem, book_in_range_lem}
use Rattle.guarantees.proofs.Tables.{table_sums_lem, messages_in_range_lem}
use Rattle.guarantees.proofs.Desk.{answers}

pub calls : Calls
unfolding message_tables messages_answer
calls = record {
  same_books = same_books_lem;
  packed_whole = all_packed;
  message_tables = λ f p t h. rw h;
  table_sums = λ f ok. table_sums_lem (job_of f) (range f (in_handed f ok));
  desk_sum = answers;
  book_in_range = book_in_range_lem;
  messages_in_range = λ f ok. let h = in_handed f ok in messages_in_range_lem (job_of f) (range f h) (limits f h);
  desk_in_range = amounts_in_range;
}
