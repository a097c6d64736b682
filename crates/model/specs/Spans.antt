-- Spans of packed totals: a box's totals of its own grocers stand first, then those of each other box's grocers, as its messages go.
-- So steps 4, 5 and 6 each touch one span of words. What code that works on the packed tables goes by.
use Rattle.std.specs.Prelude.{◌≡◌, Bool, true, cond, ◌&&◌, ◌||◌, List, [], ◌∷◌, ◌++◌, ℕ, zero}
use Rattle.std.specs.Prelude.{suc, ◌+◌, ◌*◌, ◌<◌, ◌≤◌, eqb, ltb, leb, ℤ, pos, ◌+ℤ◌, get_or, length}
use Rattle.std.specs.Int.Count.{ones}
use Rattle.laws.specs.Below.{naturals, integers, sum, only, count}
use Rattle.laws.specs.Masks.{without}
use Rattle.laws.specs.Tables.{tabulate, overwrite}
use Rattle.model.specs.Job.{Job, held_by, shares, sharer_word, price_word, total_word, amount}
use Rattle.model.specs.Steps.{multiply_own, receive_prices, send_totals, add_own, receive_totals, received, effect}
use Rattle.model.specs.LocalLists.{chained, local_grocers}
use Rattle.model.specs.PackedTotals.{totals_start, totals_length, total_place}
use Rattle.model.specs.Tables.{JobTables, job_of, evening_of, StateTables, view, store}

module _ (j : Job) where
  -- Where a group of box a's totals begins: group 0 is of its own grocers, group c + 1 of those of box c, which a message to c sends.
  unfoldable pub group_start : ℕ → ℕ → ℕ
  group_start a zero = totals_start j a
  group_start a (suc c) =
      totals_start j a + count j.grocers (λ g. eqb (j.grocer_owner g) a) + sum naturals c (λ d. count j.grocers (total_word j a d))

  -- The grocer of each place.
  unfoldable pub place_grocers : List ℕ
  place_grocers = chained j.boxes (local_grocers j)

  -- The place of a tally's total.
  unfoldable pub tally_place : ℕ → ℕ
  tally_place t = total_place j (j.tally_box t) (j.tally_grocer t)

  -- What the tallies of box a whose offers pass p add to the total at place i, at the prices that the box knows.
  unfoldable pub added_at : (ℕ → ℕ) → (ℕ → Bool) → ℕ → ℕ → ℤ
  added_at know p a i =
      sum integers j.tallies (λ t.
      only integers (held_by j t a && eqb (tally_place t) i && p (j.tally_offer t)) (amount j (know (j.tally_offer t)) t))

-- Place i is in the span from one place to another.
unfoldable pub in_span : ℕ → ℕ → ℕ → Bool
in_span from to i = leb from i && ltb i to

-- A table with the words of a span written anew.
unfoldable pub span_written : ℕ → ℕ → (ℕ → ℤ) → List ℤ → List ℤ
span_written from to f l = tabulate (length l) (λ i. cond (in_span from to i) (f i) (get_or l i (pos 0)))

-- In a job in range, of packed tables that are long enough:
pub record BySpans (j : Job) (t : StateTables) : Type 0 where
  -- the packed length is M and the words of all messages of totals;
  pub packed_length : totals_length j ≡ j.grocers + sum naturals j.grocers (λ g. ones (without (j.grocer_owner g) (sharer_word j g)))
  -- at most M + T, so a host that lends so many lends enough;
  pub most : totals_length j ≤ j.grocers + j.tallies
  -- a box has as many totals as grocers that it owns or holds a tally of;
  pub box_length : (b : ℕ) → length (local_grocers j b) ≡ count j.grocers (λ g. eqb (j.grocer_owner g) b || shares j g b)
  -- a message has as many words as its span;
  pub message_length : (a b : ℕ) → group_start j a (suc b) + count j.grocers (total_word j a b) ≡ group_start j a (suc (suc b))
  -- steps 2 and 3 add, at the place of each tally, count × price;
  pub multiplied : (a b : ℕ) → a < j.boxes → (store j (effect j (view j t) multiply_own a b) t).working
      ≡ overwrite (totals_length j) (λ i. get_or t.working i (pos 0) +ℤ added_at j ((view j t).known a) (λ o. eqb (j.offer_owner o) a) a i) t.working
  pub received_prices : (a b : ℕ) → a < j.boxes → (store j (effect j (view j t) receive_prices a b) t).working
      ≡ overwrite (totals_length j) (λ i. get_or t.working i (pos 0) +ℤ added_at j (received j (view j t) a b a) (price_word j b a) a i) t.working
  -- step 4 moves the span of its message from the working totals to those in transit;
  pub sent_working : (a b : ℕ) → a < j.boxes → b < j.boxes → (store j (effect j (view j t) send_totals a b) t).working
      ≡ span_written (group_start j a (suc b)) (group_start j a (suc (suc b))) (λ i. pos 0) t.working
  pub sent_transit : (a b : ℕ) → a < j.boxes → b < j.boxes → (store j (effect j (view j t) send_totals a b) t).total_transit
      ≡ span_written (group_start j a (suc b)) (group_start j a (suc (suc b))) (λ i. get_or t.working i (pos 0)) t.total_transit
  -- step 5 clears the span of the box's own grocers, and step 6 that of the message received;
  pub added_working : (a b : ℕ) → a < j.boxes → (store j (effect j (view j t) add_own a b) t).working
      ≡ span_written (group_start j a 0) (group_start j a 1) (λ i. pos 0) t.working
  pub received_transit : (a b : ℕ) → a < j.boxes → b < j.boxes → (store j (effect j (view j t) receive_totals a b) t).total_transit
      ≡ span_written (group_start j b (suc a)) (group_start j b (suc (suc a))) (λ i. pos 0) t.total_transit
  -- the word at each place of the span goes to the statement of the grocer of the place,
  pub added_each : (a b i : ℕ) → a < j.boxes → in_span (group_start j a 0) (group_start j a 1) i ≡ true →
      (effect j (view j t) add_own a b).statement (get_or (place_grocers j) i 0) ≡ (view j t).statement (get_or (place_grocers j) i 0) +ℤ get_or t.working i
      (pos 0)
  pub received_each : (a b i : ℕ) → a < j.boxes → b < j.boxes → in_span (group_start j b (suc a)) (group_start j b (suc (suc a))) i ≡ true →
      (effect j (view j t) receive_totals a b).statement (get_or (place_grocers j) i 0)
      ≡ (view j t).statement (get_or (place_grocers j) i 0) +ℤ get_or t.total_transit i (pos 0)
  -- one place for each grocer of the span,
  pub own_once : (a i k : ℕ) → a < j.boxes → in_span (group_start j a 0) (group_start j a 1) i ≡ true → in_span (group_start j a 0) (group_start j a 1) k
      ≡ true →
      get_or (place_grocers j) i 0 ≡ get_or (place_grocers j) k 0 → i ≡ k
  pub message_once : (a b i k : ℕ) → a < j.boxes → b < j.boxes → in_span (group_start j a (suc b)) (group_start j a (suc (suc b))) i ≡ true →
      in_span (group_start j a (suc b)) (group_start j a (suc (suc b))) k ≡ true → get_or (place_grocers j) i 0 ≡ get_or (place_grocers j) k 0 → i ≡ k
  -- and no other statement changes.
  pub added_other : (a b g : ℕ) → a < j.boxes → g < j.grocers →
      ((i : ℕ) → in_span (group_start j a 0) (group_start j a 1) i ≡ true → get_or (place_grocers j) i 0 ≡ g → ⊥) →
      (effect j (view j t) add_own a b).statement g ≡ (view j t).statement g
  pub received_other : (a b g : ℕ) → a < j.boxes → b < j.boxes → g < j.grocers →
      ((i : ℕ) → in_span (group_start j b (suc a)) (group_start j b (suc (suc a))) i ≡ true → get_or (place_grocers j) i 0 ≡ g → ⊥) →
      (effect j (view j t) receive_totals a b).statement g ≡ (view j t).statement g

-- The numbers x × n + q of every word x of a list, q below n, side by side.
unfoldable pub beside : ℕ → List ℕ → List ℕ
beside n [] = []
beside n (x ∷ xs) = tabulate n (λ q. x * n + q) ++ beside n xs

-- Of tables in range, whatever the number of lists: spans, grocers and tallies of the evening's job, told from those of the entries. L is the number of lists.
pub record ListSpans (f : JobTables) : Type 0 where
  -- A group begins at L times the place at which it does among the entries.
  pub groups : (a c : ℕ) → group_start (evening_of f) a c ≡ group_start (job_of f) a c * suc f.lists
  -- The grocers of places are those of the entries, each with its lists side by side: place i × L + q is of list q of the grocer of place i,
  pub grocers : place_grocers (evening_of f) ≡ beside (suc f.lists) (place_grocers (job_of f))
  -- a tally that counts adds there for list q,
  pub tallies : (t a q : ℕ) → t < f.tallies → held_by (job_of f) t a ≡ true → q < suc f.lists →
      tally_place (evening_of f) (t * suc f.lists + q) ≡ tally_place (job_of f) t * suc f.lists + q
  -- and what steps 2 and 3 add there is count × price of this list over the entries' tallies.
  pub added : (know : ℕ → ℕ) (p : ℕ → Bool) (a i q : ℕ) → q < suc f.lists → added_at (evening_of f) know p a (i * suc f.lists + q)
      ≡ sum integers f.tallies (λ t.
      only integers (held_by (job_of f) t a && eqb (tally_place (job_of f) t) i && p ((job_of f).tally_offer t * suc f.lists + q))
      (amount (job_of f) (know ((job_of f).tally_offer t * suc f.lists + q)) t))
