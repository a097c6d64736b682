-- What the contract of a local book comes to. Assumes nothing.
use mathlib.Core.Path.{◌≡◌, sym, ap, ◌∙◌}
use Prim.Native.Nat.{ℕ, ◌≤◌}
use native.Mathlib.Omega.{arith}
use lib.ListN.{length}
use Rattle.laws.specs.Checks.{first_met}
use Rattle.laws.specs.Limits.{max_count}
use Rattle.model.specs.Job.{Job}
use Rattle.model.specs.Tables.{JobTables, job_of}
use Rattle.model.specs.LocalLists.{local_offers}
use Rattle.model.specs.Local.{packed, BookLengths, book_refusals}
use Rattle.book.specs.Book.{book_answer, BookTables, book_lengths, written, given, booked}
use Rattle.guarantees.specs.Calls.{BookInRange}
use Rattle.model.proofs.Step.{limits, in_handed}
use Rattle.book.proofs.Ready.{in_range_lem}
use Rattle.book.proofs.Bounds.{offers_few, offer_below, grocers_few, grocer_below, start_few, starts_long, start_below, grocers_long, packed_grocer_lem, counts_long, packed_count_lem}
use Rattle.book.proofs.Booking.{booked_accepted, all_packed}

pub same_books_lem : (f f' : JobTables) (b : ℕ) (t : BookTables) → job_of f ≡ job_of f' →
    first_met (book_refusals f (book_lengths t) b) ≡ 0 → first_met (book_refusals f' (book_lengths t) b) ≡ 0 → booked f b t ≡ booked f' b t
same_books_lem f f' b t e ok ok' =
    booked_accepted f b t ok
    ∙ ap (λ (j : Job). given (book_answer 0 j b) (written j b t)) e
    ∙ sym (booked_accepted f' b t ok')

-- Every word of a book that is not refused is in its range.
module _ (f : JobTables) (n : BookLengths) (b : ℕ) (ok : first_met (book_refusals f n b) ≡ 0) where
  packed_few : length (packed (job_of f) b) ≤ f.tallies
  unfolding job_of
  packed_few = omega (arith, all_packed f n b ok, start_few (job_of f) b (length (local_offers (job_of f) b)) (omega arith))

  pub book_in_range_lem : BookInRange f b
  unfolding job_of
  book_in_range_lem = record {
    few_offers = offers_few (job_of f) b;
    offers_below = offer_below (job_of f) b;
    few_grocers = grocers_few (job_of f) b;
    grocers_below = grocer_below (job_of f) b;
    starts_more = starts_long (job_of f) b;
    starts_most = start_below (job_of f) b;
    few_packed = (omega (arith, grocers_long (job_of f) b, packed_few), omega (arith, counts_long (job_of f) b, packed_few));
    packed_local = packed_grocer_lem (job_of f) b;
    counts_within = packed_count_lem (job_of f) b max_count (limits f (in_handed f (in_range_lem f n b ok))).count≤;
  }
