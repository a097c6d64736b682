-- The call of the local book, by the first refusal that is met. Assumes nothing.
use mathlib.Core.Path.{◌≡◌, refl, sym, ap, ◌∙◌, subst}
use mathlib.Core.Bool.{Bool, cond}
use mathlib.Core.List.{List}
use Prim.Native.Nat.{ℕ, zero, suc, ◌<◌, ◌≤◌}
use native.Mathlib.Omega.{arith}
use lib.Dec.{eqb}
use lib.ListN.{length, get_or}
use lib.IntN.{pos}
use borrow.Author.Tests.{ne_eqb}
use Rattle.laws.specs.Checks.{first_met}
use Rattle.laws.specs.Tables.{tabulate, overwrite}
use Rattle.laws.proofs.Tables.{length_tabulate, get_d_tabulate}
use Rattle.recount.specs.Recount.{stands}
use Rattle.model.specs.Job.{Job}
use Rattle.model.specs.Tables.{JobTables, counted_of, nobody, job_of}
use Rattle.model.specs.Handed.{handed_tables, Standing}
use Rattle.model.specs.LocalLists.{local_offers, local_grocers}
use Rattle.model.specs.Local.{start, starts, packed, packed_grocers, packed_counts, BookLengths, book_refusals}
use Rattle.book_sort.specs.Sort.{at, in_front}
use Rattle.book_places.specs.Lists.{local_list, held_of}
use Rattle.book_order.specs.Twice.{PackLent, pack_words, packed_tallies, packed_start}
use Rattle.book.specs.Pack.{packed_number, packed_count}
use Rattle.book.specs.Book.{book, refused, said, book_answer, BookTables, book_tables, book_lengths, written, given, booked}
use Rattle.std.specs.Prelude.{Ok, Err}
use Rattle.refusals.specs.declared.Refusal.{Refusal}
use Rattle.refusals.specs.Numbers.{number_of}
use Rattle.refusals.proofs.Numbers.{number_positive}
use Rattle.book.specs.declared.BookSizes.{BookSizes}
use Rattle.model.proofs.Handed.{handed_job}
use Rattle.book_places.proofs.Modelled.{offers_are, grocers_are, has_place}
use Rattle.book.proofs.Modelled.{packed_whole_lem, starts_model, total_model, grocers_model, counts_model}
use Rattle.book.proofs.Ready.{box_in, grocer_owners_lem, grocer_in}

-- The three numbers of a book.
abbrev pub sizes_of : ℕ → ℕ → ℕ → BookSizes
sizes_of l g n = record { offers = l; grocers = g; tallies = n }

module _ (f : JobTables) (b : ℕ) (before : BookTables) where
  -- A refusal leaves every table.
  pub booked_none : (n : ℕ) → n ≡ first_met (book_refusals f (book_lengths before) b) → (n ≡ 0 → ⊥) → given (refused n) before ≡ booked f b before
  unfolding book_answer booked
  booked_none zero e h = absurd (h refl)
  booked_none (suc n) e h =
      sym (ap (λ (t : Bool). given (refused (suc n)) (cond t (written (job_of f) b before) before)) (ne_eqb (suc n) 0 h))
      ∙ ap (λ (k : ℕ). given (book_answer k (job_of f) b) (cond (eqb k 0) (written (job_of f) b before) before)) e

  pub booked_refused : (r : Refusal) → number_of r ≡ first_met (book_refusals f (book_lengths before) b) → given (said (Err r)) before ≡ booked f b before
  unfolding said
  booked_refused r e = booked_none (number_of r) e (λ z. omega (arith, number_positive r))

  -- Where nothing is refused the book is written.
  pub booked_accepted : first_met (book_refusals f (book_lengths before) b) ≡ 0 → booked f b before ≡ given (book_answer 0 (job_of f) b) (written (job_of f) b before)
  unfolding booked
  booked_accepted e = ap (λ (k : ℕ). given (book_answer k (job_of f) b) (cond (eqb k 0) (written (job_of f) b before) before)) e

  module _ (ok : first_met (book_refusals f (book_lengths before) b) ≡ 0) (boxes : List ℕ) (s : Standing f boxes) (l g n : ℕ) (after : BookTables)
      (l-is : l ≡ length (local_list f.boxes f.offers (at f.offer_owner) (held_of f.tally_offer boxes f.tallies b) b))
      (offers_is : after.local_offers ≡ in_front (local_list f.boxes f.offers (at f.offer_owner) (held_of f.tally_offer boxes f.tallies b) b) before.local_offers)
      (g-is : g ≡ length (local_list f.boxes f.grocers (at f.grocer_owner) (held_of f.tally_grocer boxes f.tallies b) b))
      (grocers-is : after.local_grocers ≡ in_front (local_list f.boxes f.grocers (at f.grocer_owner) (held_of f.tally_grocer boxes f.tallies b) b) before.local_grocers) where
    -- The tables as the functions below are handed them, the job that they hold, and what packing is lent.
    abbrev h : JobTables
    h = handed_tables f boxes

    abbrev j : Job
    j = job_of h

    abbrev lent : PackLent
    lent = pack_words f.tally_grocer boxes f.tally_offer f.tallies b after.local_offers l after.local_grocers g

    same : j ≡ job_of f
    same = handed_job f boxes s

    below : b < h.boxes
    below = box_in f (book_lengths before) b ok

    offers_front : after.local_offers ≡ in_front (local_offers j b) before.local_offers
    offers_front = offers_is ∙ ap (λ (s : List ℕ). in_front s before.local_offers) (offers_are h refl b below)

    grocers_front : after.local_grocers ≡ in_front (local_grocers j b) before.local_grocers
    grocers_front = grocers-is ∙ ap (λ (s : List ℕ). in_front s before.local_grocers) (grocers_are h refl b below)

    offers_number : l ≡ length (local_offers j b)
    offers_number = l-is ∙ ap length (offers_are h refl b below)

    grocers_number : g ≡ length (local_grocers j b)
    grocers_number = g-is ∙ ap length (grocers_are h refl b below)

    module _ (n-is : n ≡ packed_start lent l) (starts_is : after.starts ≡ overwrite (suc l) (packed_start lent) before.starts)
        (pgrocers-is : after.packed_grocers ≡ overwrite n (packed_number after.local_grocers g f.tally_grocer (packed_tallies lent)) before.packed_grocers)
        (pcounts-is : after.packed_counts ≡ overwrite n (packed_count f.tally_count (packed_tallies lent)) before.packed_counts) where
      tallies_number : n ≡ start j b (length (local_offers j b))
      tallies_number = n-is ∙ total_model h refl b below after.local_offers before.local_offers l offers_front offers_number after.local_grocers before.local_grocers g grocers_front grocers_number
          (grocer_owners_lem f (book_lengths before) b ok).owner_in (grocer_in f (book_lengths before) b ok)

      starts_front : after.starts ≡ in_front (starts j b) before.starts
      starts_front = starts_is
          ∙ starts_model h refl b below after.local_offers before.local_offers l offers_front offers_number after.local_grocers before.local_grocers g grocers_front grocers_number
          (grocer_owners_lem f (book_lengths before) b ok).owner_in (grocer_in f (book_lengths before) b ok) before.starts

      packed_front : after.packed_grocers ≡ in_front (packed_grocers j b) before.packed_grocers
      packed_front = pgrocers-is
          ∙ grocers_model h refl b below after.local_offers before.local_offers l offers_front offers_number after.local_grocers before.local_grocers g grocers_front grocers_number
          n before.packed_grocers n-is

      counts_front : after.packed_counts ≡ overwrite (length (packed_counts j b)) (λ i. get_or (packed_counts j b) i (pos 0)) before.packed_counts
      counts_front = pcounts-is
          ∙ counts_model h refl b below after.local_offers before.local_offers l offers_front offers_number after.local_grocers before.local_grocers g grocers_front grocers_number
          n before.packed_counts n-is

      -- The local matrix is written, the answer is its numbers,
      written-handed : given (said (Ok (sizes_of l g n))) after ≡ given (book_answer 0 j b) (written j b before)
      unfolding said book_answer written
      written-handed = λ i. given (book (offers_number i) (grocers_number i) (tallies_number i)) (book_tables (offers_front i) (grocers_front i) (starts_front i) (packed_front i) (counts_front i))

      -- and as handed the job's tables hold the same job.
      pub booked-written : given (said (Ok (sizes_of l g n))) after ≡ booked f b before
      booked-written = written-handed ∙ ap (λ (j : Job). given (book_answer 0 j b) (written j b before)) same ∙ sym (booked_accepted ok)

-- The boxes that stand, as a list.
standing : (f : JobTables) → Standing f (tabulate f.tallies (λ t. cond (stands (counted_of f) t) (get_or f.tally_box t 0) nobody))
standing f = record {
  long = le_refl (length_tabulate f.tallies (λ t. cond (stands (counted_of f) t) (get_or f.tally_box t 0) nobody));
  each = λ t l. get_d_tabulate f.tallies (λ t. cond (stands (counted_of f) t) (get_or f.tally_box t 0) nobody) t 0 l;
}
  where
    le_refl : {n m : ℕ} → n ≡ m → m ≤ n
    le_refl e = omega (arith, e)

-- Where nothing is refused each of the box's tallies is packed.
pub all_packed : (f : JobTables) (n : BookLengths) (b : ℕ) → first_met (book_refusals f n b) ≡ 0 → length (packed (job_of f) b) ≡ start (job_of f) b (length (local_offers (job_of f) b))
unfolding job_of
all_packed f n b ok =
    let boxes = tabulate f.tallies (λ t. cond (stands (counted_of f) t) (get_or f.tally_box t 0) nobody) in
    let h = handed_tables f boxes in
    subst (λ (j : Job). length (packed j b) ≡ start j b (length (local_offers j b))) (handed_job f boxes (standing f))
    (packed_whole_lem (job_of h) b (has_place h refl b (box_in f n b ok) (grocer_owners_lem f n b ok).owner_in (grocer_in f n b ok)))
