-- The local book of a box (its local matrix, packed by offer), and the tables of words between boxes.
use Rattle.std.specs.Prelude.{List, [], ◌∷◌, map, Bool, ◌&&◌, ◌||◌, not, ℕ, suc, get_or, length, eqb, ltb, ℤ}
use Rattle.laws.specs.Below.{sum, naturals, count, ascending}
use Rattle.laws.specs.Tables.{tabulate}
use Rattle.laws.specs.Checks.{any_of}
use Rattle.recount.specs.Recount.{counted_twice}
use Rattle.model.specs.Job.{Job, held_by, price_word, total_word}
use Rattle.model.specs.Tables.{JobTables, counted_of, job_lengths, job_short, bags_short}
use Rattle.model.specs.Ranges.{job_in_range}
use Rattle.model.specs.LocalLists.{chained, local_offers, local_grocers, local_grocer}

module _ (j : Job) (b : ℕ) where
  -- Tally t is one of the box's tallies of its local offer i.
  unfoldable pub of_offer : ℕ → ℕ → Bool
  of_offer i t = held_by j t b && eqb (j.tally_offer t) (get_or (local_offers j b) i 0)

  -- Where the list of local offer i begins: behind the tallies of those before it.
  unfoldable pub start : ℕ → ℕ
  start i = sum naturals i (λ k. count j.tallies (of_offer k))

  -- Starts: one more than local offers, the first 0.
  unfoldable pub starts : List ℕ
  starts = tabulate (suc (length (local_offers j b))) start

module _ (j : Job) (b : ℕ) where
  -- The box's tallies by local offer; "Inside one offer's list, tallies go by local grocer, then by place in the file" (02 §4).
  unfoldable pub packed : List ℕ
  packed =
      chained (length (local_offers j b)) (λ i.
      chained (length (local_grocers j b)) (λ g.
      ascending j.tallies (λ t. of_offer j b i t && eqb (local_grocer j b (j.tally_grocer t)) g)))

  -- The local grocer of each of them,
  unfoldable pub packed_grocers : List ℕ
  packed_grocers = map (λ t. local_grocer j b (j.tally_grocer t)) packed

  -- and its count.
  unfoldable pub packed_counts : List ℤ
  packed_counts = map j.tally_count packed

module _ (j : Job) where
  -- The words from each box to each other box form 16 rows of 16 counts; the row is the sender. One such table for prices
  unfoldable pub price_table : List (List ℕ)
  price_table = tabulate 16 (λ a. tabulate 16 (λ b. count j.offers (price_word j a b)))

  -- and one for totals.
  unfoldable pub total_table : List (List ℕ)
  total_table = tabulate 16 (λ a. tabulate 16 (λ b. count j.grocers (total_word j a b)))

-- How many words of each of its own tables the local book is lent.
pub record BookLengths : Type 0 where
  pub local_offers : ℕ
  pub local_grocers : ℕ
  pub starts : ℕ
  pub packed_grocers : ℕ
  pub packed_counts : ℕ

-- 20 on these tables: shorter than M, N and T as given need, whatever the box has.
unfoldable pub book_short : JobTables → BookLengths → Bool
book_short f n =
    any_of (
    ltb n.local_offers f.offers
    ∷ ltb n.local_grocers f.grocers
    ∷ ltb n.starts (suc f.offers)
    ∷ ltb n.packed_grocers f.tallies
    ∷ ltb n.packed_counts f.tallies
    ∷ [])

-- The refusals of the local book of box b, in order.
unfoldable pub book_refusals : JobTables → BookLengths → ℕ → List (Bool × ℕ)
book_refusals f n b =
    (job_short f (job_lengths f) || bags_short f (job_lengths f) || book_short f n, 20)
    ∷ (not (job_in_range f), 21)
    ∷ (counted_twice (counted_of f), 9)
    ∷ (not (ltb b f.boxes), 23)
    ∷ []

-- The refusals of the message tables, which are lent the job's tables and no others.
unfoldable pub job_refusals : JobTables → List (Bool × ℕ)
job_refusals f =
    (job_short f (job_lengths f) || bags_short f (job_lengths f), 20)
    ∷ (not (job_in_range f), 21)
    ∷ (counted_twice (counted_of f), 9)
    ∷ []
