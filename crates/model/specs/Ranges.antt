-- The ranges of 01, "Terms and sizes": what condition 21 looks at.
use Rattle.std.specs.Prelude.{◌≡◌, List, [], ◌∷◌, Bool, true, false, ◌&&◌, ℕ, ◌*◌, get_or, ltb, leb, ℤ, pos, nat_abs}
use Rattle.laws.specs.Limits.{max_boxes, max_grocers, max_offers, max_tallies, max_lists, max_price, max_count, max_amount, max_sent}
use Rattle.laws.specs.Below.{all}
use Rattle.laws.specs.Checks.{all_of}
use Rattle.laws.specs.Lists.{list_words}
use Rattle.recount.specs.Recount.{counted_twice}
use Rattle.model.specs.Job.{Job}
use Rattle.model.specs.PackedTotals.{totals_length}
use Rattle.model.specs.Tables.{JobTables, counted_of, job_lengths, job_short, bags_short, StateTables}

-- The first n words of a table are at most m.
unfoldable pub up_to : ℕ → ℕ → List ℕ → Bool
up_to m n l = all n (λ i. leb (get_or l i 0) m)

-- The first n words of a table are below m.
unfoldable pub under : ℕ → ℕ → List ℕ → Bool
under m n l = all n (λ i. ltb (get_or l i 0) m)

-- The first n words of a table are within ±m.
unfoldable pub around : ℕ → ℕ → List ℤ → Bool
around m n l = all n (λ i. leb (nat_abs (get_or l i (pos 0))) m)

-- K, M, N, T and the number of additional price lists are in range.
unfoldable pub sizes_in_range : JobTables → Bool
sizes_in_range f =
    all_of (
    leb f.lists max_lists
    ∷ (leb 1 f.boxes && leb f.boxes max_boxes)
    ∷ (leb 1 f.grocers && leb f.grocers max_grocers)
    ∷ (leb 1 f.offers && leb f.offers max_offers)
    ∷ leb f.tallies max_tallies
    ∷ [])

-- Every word of the job's tables is in range, those of superseded tallies too. Bags and revisions have no range.
unfoldable pub job_words_in_range : JobTables → Bool
job_words_in_range f =
    all_of (
    up_to max_price (list_words f.lists f.offers) f.price
    ∷ under f.boxes f.offers f.offer_owner
    ∷ under f.boxes f.grocers f.grocer_owner
    ∷ under f.grocers f.tallies f.tally_grocer
    ∷ under f.boxes f.tallies f.tally_box
    ∷ under f.offers f.tallies f.tally_offer
    ∷ around max_count f.tallies f.tally_count
    ∷ [])

-- Condition 21 is not met by the job's tables.
unfoldable pub job_in_range : JobTables → Bool
job_in_range f = sizes_in_range f && job_words_in_range f

-- What demand 3 asks of a job's tables: they are lent whole, so 20 is not met, in range, so 21 is not met, and no bag is counted twice as one revision: 9.
pub record Settles (f : JobTables) : Type 0 where
  pub whole : job_short f (job_lengths f) ≡ false
  pub bags : bags_short f (job_lengths f) ≡ false
  pub in_range : job_in_range f ≡ true
  pub once : counted_twice (counted_of f) ≡ false

-- Condition 21 is not met by the state's tables but the packed ones: a done mark is 0 or 1.
unfoldable pub state_in_range : JobTables → StateTables → Bool
state_in_range f t =
    all_of (
    up_to max_price (f.boxes * list_words f.lists f.offers) t.known
    ∷ up_to max_price (f.boxes * list_words f.lists f.offers) t.price_transit
    ∷ around max_amount (list_words f.lists f.grocers) t.statement
    ∷ up_to 1 (6 * f.boxes * f.boxes) t.done
    ∷ up_to max_sent 1 t.sent
    ∷ [])

-- Condition 21 is not met by the packed tables: "on their words within the job's length".
unfoldable pub totals_in_range : Job → StateTables → Bool
totals_in_range j t = around max_amount (totals_length j) t.working && around max_amount (totals_length j) t.total_transit
