-- A step on the price tables, kinds 1 to 3, and on the totals, kinds 4 to 6: what it requires, and what it leaves, by the number of its kind.
use Rattle.std.specs.Prelude.{◌≡◌, Bool, true, false, cond, ◌||◌, List, ℕ, suc, ◌+◌, ◌-◌, ◌*◌, ◌/◌, ◌≤◌, ◌<◌, eqb, length, get_or, set, ℤ, pos}
use Rattle.laws.specs.Below.{naturals, only}
use Rattle.laws.specs.Listed.{Listed}
use Rattle.model.specs.Job.{Job, price_word, held_by}
use Rattle.model.specs.Steps.{kind_of}
use Rattle.model.specs.Tables.{JobTables, job_of, evening_of, StateTables, job_lengths, state_lengths, job_short, state_short, totals_short}
use Rattle.laws.specs.Limits.{max_grocers, max_lists, max_sent}
use Rattle.model.specs.Ranges.{state_in_range, totals_in_range}
use Rattle.model.specs.Handed.{Handed}
use Rattle.model.specs.Step.{Asked, is_kind, boxes_fit}
use Rattle.step_links.specs.Links.{LinkedPairs}
use Rattle.step_prices.specs.Prices.{sent_transit, received_known, received_transit}
use Rattle.step_totals.specs.Row.{Tallies, TalliesIn, PricesIn, PlacesIn, brings, placed}
use Rattle.step_spans.specs.Credit.{credit_span, SpanIn}
use Rattle.model.specs.PackedTotals.{totals_length}
use Rattle.model.specs.Spans.{group_start, place_grocers, tally_place, in_span, span_written, beside}

-- The places of the totals of box a's tallies; every tally has some place in the packed tables.
pub record Spots (f : JobTables) (a : ℕ) (places : List ℕ) : Type 0 where
  pub long : f.tallies ≤ length places
  pub within : (i : ℕ) → i < f.tallies → get_or places i 0 < totals_length (job_of f)
  pub each : (i : ℕ) → i < f.tallies → held_by (job_of f) i a ≡ true → get_or places i 0 ≡ tally_place (job_of f) i

-- The box by whose list of offers or of totals a step goes: 1 sends what the second box needs, 6 receives what it has sent; the others go by that of the
-- first box.
unfoldable pub span_box : ℕ → ℕ → ℕ → ℕ
span_box kind a b = cond (eqb kind 1 || eqb kind 6) b a

-- The group of that list: 0 the box's own offers or grocers, c + 1 those of box c.
unfoldable pub span_group : ℕ → ℕ → ℕ → ℕ
span_group kind a b = cond (eqb kind 1 || eqb kind 6) (suc a) (cond (eqb kind 2 || eqb kind 5) 0 (suc b))

-- The span of a step of kind 4, 5 or 6, and the grocer of each of its places.
pub record SpanOf (j : Job) (kind a b from to : ℕ) (grocers : List ℕ) : Type 0 where
  pub from_is : from ≡ group_start j (span_box kind a b) (span_group kind a b)
  pub to_is : to ≡ group_start j (span_box kind a b) (suc (span_group kind a b))
  pub long : to ≤ length grocers
  pub each : (i : ℕ) → in_span from to i ≡ true → (get_or grocers i 0 ≡ get_or (place_grocers j) i 0) × (get_or grocers i 0 < j.grocers)

-- The offers whose prices stand in the message of a step of kind 1 or 3: 1 sends them to the second box, 3 receives them from it.
unfoldable pub prices_of : Job → ℕ → ℕ → ℕ → ℕ → Bool
prices_of j kind a b = cond (eqb kind 1) (price_word j a b) (price_word j b a)

-- The tables are long enough and in range, the offers, places or span of the step are the job's, and the step is one of a kind with boxes that fit it.
-- `listed` has, from one place up to another, the offers of the step's message for kinds 1 and 3, and for kinds 4 to 6 the grocers of its span.
pub record Applies (f : JobTables) (t : StateTables) (places : List ℕ) (from to : ℕ) (listed : List ℕ) (q : Asked) : Type 0 where
  pub job_in_lem : Handed f
  pub job_long : job_short f (job_lengths f) ≡ false
  pub state_long : state_short f (state_lengths t) ≡ false
  pub state_in : state_in_range f t ≡ true
  pub totals_long : totals_short (evening_of f) (state_lengths t) ≡ false
  pub totals_in : totals_in_range (evening_of f) t ≡ true
  pub offers_are : q.kind ≤ 3 → (q.kind ≡ 2 → ⊥) → Listed f.offers (prices_of (job_of f) q.kind q.first q.second) from to listed
  pub places_are : 2 ≤ q.kind → q.kind ≤ 3 → Spots f q.first places
  pub span_is : 4 ≤ q.kind → SpanOf (job_of f) q.kind q.first q.second from to listed
  pub kind_in : is_kind q.kind ≡ true
  pub boxes_fit_lem : boxes_fit (job_of f) (kind_of q.kind) q.first q.second ≡ true

-- The count of words sent is there and in range.
pub record SentIn (sent : List ℕ) : Type 0 where
  pub long : 1 ≤ length sent
  pub word_in_lem : get_or sent 0 0 ≤ max_sent

-- The count of words sent, raised by the words of a message.
abbrev pub sent_more : List ℕ → ℕ → List ℕ
sent_more sent more = set sent 0 (get_or sent 0 0 + more)

-- Offers listed from one place up to another, at most n and each below n.
pub record OffersIn (n from to : ℕ) (offers : List ℕ) : Type 0 where
  pub order : from ≤ to
  pub few : to ≤ from + n
  pub long : to ≤ length offers
  pub offer_in : (i : ℕ) → from ≤ i → i < to → get_or offers i 0 < n

-- What a step of kind 1, 2 or 3 requires: tables that are long enough and in range, linked tallies, listed offers, and boxes below K.
pub record PriceStepIn (e : Tallies) (width from to : ℕ) (offers tally_links known transit : List ℕ) (working : List ℤ) (kind a b : ℕ) : Type 0 where
  pub tallies_in : TalliesIn e
  pub tallies_linked : LinkedPairs e.tallies e.holder e.offer e.owner tally_links
  pub width_from : 1 ≤ width
  pub width_to : width ≤ suc max_lists
  pub offers_in : (kind ≡ 2 → ⊥) → OffersIn e.offers from to offers
  pub known_in : PricesIn e.boxes (e.offers * width) known
  pub transit_in : PricesIn e.boxes (e.offers * width) transit
  pub working_in : 2 ≤ kind → PlacesIn e.tallies width e.place working
  pub kind_from : 1 ≤ kind
  pub kind_to : kind ≤ 3
  pub a_in : a < e.boxes
  pub b_in : b < e.boxes

-- What a step of kind 4, 5 or 6 requires: a span in the tables of totals, with grocers that have statements, and amounts in range.
pub record TotalStepIn (from to width : ℕ) (grocers : List ℕ) (working transit statement : List ℤ) (kind : ℕ) : Type 0 where
  pub few : to ≤ from + max_grocers
  pub end_in : to ≤ 8_000
  pub working_in : SpanIn from to width grocers working statement
  pub transit_in : SpanIn from to width grocers transit statement
  pub kind_from : 4 ≤ kind
  pub kind_to : kind ≤ 6

-- The words of a row that stand in a message: those of its offers, one for each price list.
abbrev pub row_words : ℕ → (ℕ → Bool) → ℕ → Bool
row_words width passes w = passes (w / width)

module _ (e : Tallies) (width : ℕ) (passes : ℕ → Bool) (known transit : List ℕ) (kind a b : ℕ) where
  -- The prices known: 3 receives them.
  unfoldable pub known_after : List ℕ
  known_after = cond (eqb kind 3) (received_known e.boxes (e.offers * width) a (row_words width passes) known transit) known

  -- The prices in transit: 1 sends them, 3 receives them.
  unfoldable pub price_transit_after : List ℕ
  price_transit_after =
      cond (eqb kind 1) (sent_transit e.boxes (e.offers * width) a b (row_words width passes) known transit)
      (cond (eqb kind 3) (received_transit e.boxes (e.offers * width) a (row_words width passes) transit) transit)

-- The working totals once the tallies of box a whose offers a box owns are multiplied into them, at the prices of row a.
abbrev pub multiplied : Tallies → ℕ → List ℕ → ℕ → ℕ → List ℤ → List ℤ
multiplied e width prices a owner working =
    placed e.tallies width e.place (brings e.owner e.holder e.offer e.counts prices a owner (a * (e.offers * width)) width) working

-- The working totals: 2 multiplies at the prices known, 3 at those received.
unfoldable pub multiplied_after : Tallies → ℕ → List ℕ → List ℕ → List ℤ → ℕ → ℕ → ℕ → List ℤ
multiplied_after e width known transit working kind a b =
    cond (eqb kind 1) working (cond (eqb kind 2) (multiplied e width known a a working) (multiplied e width transit a b working))

-- The words that a step sends: those of its message, for kind 1; those of its span, for kind 4.
unfoldable pub words_sent : ℕ → ℕ → ℕ → ℕ → ℕ → ℕ
words_sent sends from to width kind = only naturals (eqb kind sends) ((to - from) * width)

-- What a step of kind 1, 2 or 3 leaves: the three tables, and how many words it sent.
pub record PriceStepOut (e : Tallies) (width from to : ℕ) (passes : ℕ → Bool) (known transit : List ℕ) (working : List ℤ) (kind a b : ℕ)
    (known' transit' : List ℕ) (working' : List ℤ) (sent : ℕ) : Type 0 where
  pub known_is : known' ≡ known_after e width passes known transit kind a b
  pub transit_is : transit' ≡ price_transit_after e width passes known transit kind a b
  pub working_is : working' ≡ multiplied_after e width known transit working kind a b
  pub sent_is : sent ≡ words_sent 1 from to width kind

module _ (from to width : ℕ) (grocers : List ℕ) (kind : ℕ) where
  -- The working totals: 4 sends those of the span, 5 adds them to statements, and they become 0.
  unfoldable pub working_after : List ℤ → List ℤ
  working_after working = cond (eqb kind 6) working (span_written (from * width) (to * width) (λ w. pos 0) working)

  -- The totals in transit: 4 sends them, 6 receives them.
  unfoldable pub total_transit_after : List ℤ → List ℤ → List ℤ
  total_transit_after working transit =
      cond (eqb kind 4) (span_written (from * width) (to * width) (λ w. get_or working w (pos 0)) transit)
      (cond (eqb kind 6) (span_written (from * width) (to * width) (λ w. pos 0) transit) transit)

  -- The statements once the totals of the span are added, each place's words to those of its grocer.
  abbrev pub credited : List ℤ → List ℤ → List ℤ
  credited source statement = credit_span (to * width - from * width) (from * width) (beside width grocers) source statement

  -- The statements: 5 adds the box's own totals, 6 those received.
  unfoldable pub statement_after : List ℤ → List ℤ → List ℤ → List ℤ
  statement_after working transit statement =
      cond (eqb kind 4) statement (cond (eqb kind 5) (credited working statement) (credited transit statement))

-- What a step of kind 4, 5 or 6 leaves: the three tables, and how many words it sent.
pub record TotalStepOut (from to width : ℕ) (grocers : List ℕ) (working transit statement : List ℤ) (kind : ℕ)
    (working' transit' statement' : List ℤ) (sent : ℕ) : Type 0 where
  pub working_is : working' ≡ working_after from to width grocers kind working
  pub transit_is : transit' ≡ total_transit_after from to width grocers kind working transit
  pub statement_is : statement' ≡ statement_after from to width grocers kind working transit statement
  pub sent_is : sent ≡ words_sent 4 from to width kind
