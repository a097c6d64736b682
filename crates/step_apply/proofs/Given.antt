-- What the requirement of applying a step says, fact by fact. Assumes nothing.
use mathlib.Core.Path.{◌≡◌, sym}
use mathlib.Core.Bool.{Bool, true, false, cond, not, false≢true}
use mathlib.Core.List.{List, [], ◌∷◌}
use Prim.Native.Nat.{ℕ, zero, suc, ◌+◌, ◌*◌, ◌≤◌, ◌<◌}
use native.Mathlib.Omega.{arith}
use native.Mathlib.Nat.{le_trans, mul-le-mul}
use lib.Dec.{eqb, ltb, leb}
use lib.ListN.{get_or, length}
use lib.IntN.{ℤ}
use borrow.Author.Tests.{ltb-true, lt-ltb, le-leb, leb-true, eqb-false, not-true}
use Rattle.laws.specs.Lists.{list_words}
use Rattle.laws.specs.Listed.{Listed}
use Rattle.laws.proofs.Bools.{and_l, and_r, and_true}
use Rattle.laws.proofs.Below.{count_le}
use Rattle.laws.proofs.Listed.{held_at}
use Rattle.laws.proofs.Tables.{row_in}
use Rattle.laws.proofs.Checks.{each_of}
use Rattle.laws.specs.Limits.{max_boxes, max_offers, max_grocers, max_tallies, max_lists, max_price, max_amount, max_sent}
use Rattle.model.specs.Job.{total_word}
use Rattle.model.specs.Steps.{kind_of, one_box}
use Rattle.model.specs.Tables.{JobTables, job_of, evening_of, StateTables, job_lengths, state_lengths}
use Rattle.model.specs.Handed.{handed_in_range}
use Rattle.model.specs.Ranges.{up_to, around, state_in_range, totals_in_range}
use Rattle.model.specs.PackedTotals.{totals_length}
use Rattle.model.specs.Spans.{group_start, in_span, BySpans, ListSpans}
use Rattle.model.specs.Step.{Asked, is_kind, boxes_fit}
use Rattle.step_places.specs.Marks.{MarksIn}
use Rattle.step_links.specs.Links.{LinkedPairs}
use Rattle.step_totals.specs.Row.{TalliesIn, PricesIn, PlacesIn}
use Rattle.step_apply.specs.Apply.{Applies, Spots, SpanOf, span_box, span_group, prices_of, SentIn, OffersIn, PriceStepIn, TotalStepIn}
use Rattle.model.proofs.Lent.{job_long, StateLong, state_long, TotalsLong, totals_long}
use Rattle.step_totals.proofs.Effect.{tallies_of}
use Rattle.model.proofs.Step.{up_at, around_at, range, evening_range, job_in_lem}
use Rattle.model.proofs.ListTotals.{list_totals_lem, list_spans, evening_spans}
use Rattle.model.proofs.Range.{InRange}
use Rattle.model.proofs.Spans.{own_next, group_next, own_within, span_within, length_most}
use Rattle.step_totals.proofs.Given.{tallies_given}
use Rattle.step_apply.proofs.Found.{spans_in}
use Rattle.step_spans.specs.Credit.{SpanIn}
use Rattle.step_spans.proofs.Statements.{span_in as credit-in}

-- The words of the state's tables are in range, table by table.
pub record StateWords (f : JobTables) (t : StateTables) : Type 0 where
  pub known : up_to max_price (f.boxes * list_words f.lists f.offers) t.known ≡ true
  pub price_transit : up_to max_price (f.boxes * list_words f.lists f.offers) t.price_transit ≡ true
  pub statement : around max_amount (list_words f.lists f.grocers) t.statement ≡ true
  pub done : up_to 1 (6 * f.boxes * f.boxes) t.done ≡ true
  pub sent : up_to max_sent 1 t.sent ≡ true

state_words : (f : JobTables) (t : StateTables) → state_in_range f t ≡ true → StateWords f t
unfolding state_in_range
state_words f t h =
    let e = each_of (
    up_to max_price (f.boxes * list_words f.lists f.offers) t.known
    ∷ up_to max_price (f.boxes * list_words f.lists f.offers) t.price_transit
    ∷ around max_amount (list_words f.lists f.grocers) t.statement
    ∷ up_to 1 (6 * f.boxes * f.boxes) t.done
    ∷ up_to max_sent 1 t.sent
    ∷ []) h in
    record {
      known = e.0;
      price_transit = e.1.0;
      statement = e.1.1.0;
      done = e.1.1.1.0;
      sent = e.1.1.1.1.0;
    }

-- Sizes, lengths, ranges, words, places and boxes.
pub record Given (f : JobTables) (t : StateTables) (places : List ℕ) (from to : ℕ) (listed : List ℕ) (q : Asked) : Type 0 where
  pub bare : f.tally_bag ≡ []
  pub inside : handed_in_range f ≡ true
  pub in_range_lem : InRange (job_of f)
  pub evening_in : InRange (evening_of f)
  pub boxes_in : f.boxes ≤ max_boxes
  pub offers_in : f.offers ≤ max_offers
  pub grocers_in : f.grocers ≤ max_grocers
  pub tallies_few : f.tallies ≤ max_tallies
  pub lists_in : f.lists ≤ max_lists
  pub tallies_in : TalliesIn (tallies_of f places)
  pub state_long : StateLong f.boxes (list_words f.lists f.grocers) (list_words f.lists f.offers) (state_lengths t)
  pub totals_long : TotalsLong (totals_length (evening_of f)) (state_lengths t)
  pub words_in : StateWords f t
  pub working_around : around max_amount (totals_length (evening_of f)) t.working ≡ true
  pub transit_around : around max_amount (totals_length (evening_of f)) t.total_transit ≡ true
  pub by_spans : BySpans (evening_of f) t
  pub list_spans : ListSpans f
  pub packed_length_lem : totals_length (evening_of f) ≡ totals_length (job_of f) * suc f.lists
  pub offers_are : q.kind ≤ 3 → (q.kind ≡ 2 → ⊥) → Listed f.offers (prices_of (job_of f) q.kind q.first q.second) from to listed
  pub places_are : 2 ≤ q.kind → q.kind ≤ 3 → Spots f q.first places
  pub span_is : 4 ≤ q.kind → SpanOf (job_of f) q.kind q.first q.second from to listed
  pub kind_from : 1 ≤ q.kind
  pub kind_to : q.kind ≤ 6
  pub first_in : q.first < f.boxes
  pub second_in : q.second < f.boxes
  pub two_boxes : one_box (kind_of q.kind) ≡ false → q.first ≡ q.second → ⊥

-- Boxes that fit a kind with two boxes are not the same.
boxes_differ : (t : Bool) (a b : ℕ) → cond t (eqb a b) (not (eqb a b)) ≡ true → t ≡ false → a ≡ b → ⊥
boxes_differ true a b h e = absurd (false≢true (sym e))
boxes_differ false a b h e = eqb-false a b (not-true (eqb a b) h)

pub given : (f : JobTables) (t : StateTables) (places : List ℕ) (from to : ℕ) (listed : List ℕ) (q : Asked) → Applies f t places from to listed q → Given f t places from to listed q
unfolding job_of is_kind boxes_fit totals_in_range
given f t places from to listed q h =
    let k = kind_of q.kind in
    let fit = h.boxes_fit_lem in
    let rest = and_r (ltb q.first f.boxes) _ fit in
    let w = job_in_lem f h.job_in_lem.inside in
    let packed = totals_length (evening_of f) in
    record {
      bare = h.job_in_lem.bare;
      inside = h.job_in_lem.inside;
      in_range_lem = range f h.job_in_lem.inside;
      evening_in = evening_range f h.job_in_lem.inside;
      boxes_in = w.boxes≤;
      offers_in = w.offers≤;
      grocers_in = w.grocers≤;
      tallies_few = w.tallies≤;
      lists_in = w.lists≤;
      tallies_in = tallies_given f places (job_long f (job_lengths f) h.job_long) h.job_in_lem.inside;
      state_long = state_long f (state_lengths t) h.state_long;
      totals_long = totals_long (evening_of f) (state_lengths t) h.totals_long;
      words_in = state_words f t h.state_in;
      working_around = and_l (around max_amount packed t.working) (around max_amount packed t.total_transit) h.totals_in;
      transit_around = and_r (around max_amount packed t.working) (around max_amount packed t.total_transit) h.totals_in;
      by_spans = evening_spans f h.job_in_lem.inside t h.totals_long;
      list_spans = list_spans f h.job_in_lem.inside;
      packed_length_lem = (list_totals_lem f).packed_length;
      offers_are = h.offers_are;
      places_are = h.places_are;
      span_is = h.span_is;
      kind_from = leb-true 1 q.kind (and_l (leb 1 q.kind) (leb q.kind 6) h.kind_in);
      kind_to = leb-true q.kind 6 (and_r (leb 1 q.kind) (leb q.kind 6) h.kind_in);
      first_in = ltb-true q.first f.boxes (and_l (ltb q.first f.boxes) _ fit);
      second_in = ltb-true q.second f.boxes (and_l (ltb q.second f.boxes) _ rest);
      two_boxes = boxes_differ (one_box k) q.first q.second (and_r (ltb q.second f.boxes) _ rest);
    }

-- The span of a group: at most 255 places, within the packed tables.
module _ (f : JobTables) (r : InRange (job_of f)) (few : f.grocers ≤ 255) where
  span_bounds : (b c : ℕ) → b < f.boxes → c ≤ f.boxes →
      (group_start (job_of f) b c ≤ group_start (job_of f) b (suc c)) × (group_start (job_of f) b (suc c) ≤ group_start (job_of f) b c + 255) × (group_start (job_of f) b (suc c) ≤ totals_length (job_of f))
  unfolding job_of
  span_bounds b zero lb lc =
      (omega (arith, own_next (job_of f) b), omega (arith, own_next (job_of f) b, count_le f.grocers (λ g. eqb ((job_of f).grocer_owner g) b)), own_within (job_of f) r b lb)
  span_bounds b (suc c) lb lc =
      (omega (arith, group_next (job_of f) b c), omega (arith, group_next (job_of f) b c, count_le f.grocers (total_word (job_of f) b c)), span_within (job_of f) r b c lb (omega arith))

-- What each part of a step requires.
module _ (f : JobTables) (t : StateTables) (places : List ℕ) (from to : ℕ) (listed : List ℕ) (q : Asked) (g : Given f t places from to listed q) where
  pub marks_in : MarksIn f.boxes q.kind q.first q.second t.done
  unfolding state_lengths
  marks_in = record {
    kind_from = g.kind_from;
    kind_to = g.kind_to;
    boxes_in = g.boxes_in;
    a_in = g.first_in;
    b_in = g.second_in;
    done_long = g.state_long.done;
  }

  pub sent_in : SentIn t.sent
  unfolding state_lengths
  sent_in = record { long = g.state_long.sent; word_in_lem = up_at max_sent 1 t.sent 0 g.words_in.sent (omega arith) }

  pub known_in : PricesIn f.boxes (f.offers * suc f.lists) t.known
  unfolding state_lengths
  known_in = record { long = g.state_long.known; words_in = g.words_in.known }

  pub price_transit_in : PricesIn f.boxes (f.offers * suc f.lists) t.price_transit
  unfolding state_lengths
  price_transit_in = record { long = g.state_long.price_transit; words_in = g.words_in.price_transit }

  -- The words of a place of the entries are within the packed tables.
  pub place_words : (p : ℕ) → p < totals_length (job_of f) → p * suc f.lists + suc f.lists ≤ totals_length (evening_of f)
  place_words p l = rw g.packed_length_lem (row_in p (totals_length (job_of f)) (suc f.lists) l)

  -- Each tally's place has its words among the working totals, in range.
  working_in : 2 ≤ q.kind → q.kind ≤ 3 → PlacesIn f.tallies (suc f.lists) places t.working
  unfolding state_lengths
  working_in more few = record {
    long = (g.places_are more few).long;
    place_in = λ i l. le_trans (place_words (get_or places i 0) ((g.places_are more few).within i l)) g.totals_long.working;
    word_in_lem = λ i w l h.
        around_at 1_000_000_000_000_000 (totals_length (evening_of f)) t.working (get_or places i 0 * suc f.lists + w) g.working_around
        (omega (arith, h, place_words (get_or places i 0) ((g.places_are more few).within i l)));
  }

  -- The offers of the message.
  offers_in : q.kind ≤ 3 → (q.kind ≡ 2 → ⊥) → OffersIn f.offers from to listed
  offers_in few other =
      let l = g.offers_are few other in
      record {
        order = omega (arith, l.many);
        few = omega (arith, l.many, count_le f.offers (prices_of (job_of f) q.kind q.first q.second));
        long = l.long;
        offer_in = λ i x y. (held_at f.offers (prices_of (job_of f) q.kind q.first q.second) from to listed l i x y).below;
      }

  -- A step of kind 1, 2 or 3, with tallies linked by box and owner of their offer.
  pub price_step_in : (tally_links : List ℕ) → LinkedPairs f.tallies f.tally_box f.tally_offer f.offer_owner tally_links → q.kind ≤ 3 →
      PriceStepIn (tallies_of f places) (suc f.lists) from to listed tally_links t.known t.price_transit t.working q.kind q.first q.second
  price_step_in tally_links lt few = record {
    tallies_in = g.tallies_in;
    tallies_linked = lt;
    width_from = omega arith;
    width_to = omega (arith, g.lists_in);
    offers_in = offers_in few;
    known_in = known_in;
    transit_in = price_transit_in;
    working_in = λ more. working_in more few;
    kind_from = g.kind_from;
    kind_to = few;
    a_in = g.first_in;
    b_in = g.second_in;
  }

  pub span_in : 4 ≤ q.kind → (from ≤ to) × (to ≤ from + 255) × (to ≤ totals_length (job_of f))
  span_in many =
      let z = g.span_is many in
      let there = spans_in f q.kind q.first q.second g.first_in g.second_in in
      let b = span_bounds f g.in_range_lem g.grocers_in (span_box q.kind q.first q.second) (span_group q.kind q.first q.second) there.0 there.1 in
      (omega (arith, z.from_is, z.to_is, b.0), omega (arith, z.from_is, z.to_is, b.1), omega (arith, z.to_is, b.2))

  -- A step of kind 4, 5 or 6.
  pub total_step_in : 4 ≤ q.kind → TotalStepIn from to (suc f.lists) listed t.working t.total_transit t.statement q.kind
  unfolding state_lengths job_of in_span
  total_step_in many = record {
    few = bounds.1;
    end_in = omega (arith, bounds.2, length_most (job_of f) g.in_range_lem, g.grocers_in, g.tallies_few);
    working_in = added t.working g.totals_long.working g.working_around;
    transit_in = added t.total_transit g.totals_long.total_transit g.transit_around;
    kind_from = many;
    kind_to = g.kind_to;
  }
    where
      bounds : (from ≤ to) × (to ≤ from + 255) × (to ≤ totals_length (job_of f))
      bounds = span_in many

      small : (i : ℕ) → from ≤ i → i < to → get_or listed i 0 < f.grocers
      small i l h = ((g.span_is many).each i (and_true (le-leb from i l) (lt-ltb i to h))).1

      end : to * suc f.lists ≤ totals_length (evening_of f)
      end = rw g.packed_length_lem (mul-le-mul bounds.2 (omega arith))

      -- The span of either table of totals.
      added : (source : List ℤ) → totals_length (evening_of f) ≤ length source → around max_amount (totals_length (evening_of f)) source ≡ true → SpanIn from to (suc f.lists) listed source t.statement
      added source long inside =
          credit-in from to (suc f.lists) f.grocers listed source t.statement bounds.0 bounds.1 (omega (arith, g.lists_in)) (g.span_is many).long (le_trans end long)
          g.state_long.statement small
          (λ w h. around_at 1_000_000_000_000_000 (totals_length (evening_of f)) source w inside (le_trans h end))
          (λ w h. around_at 1_000_000_000_000_000 (list_words f.lists f.grocers) t.statement w g.words_in.statement h)
