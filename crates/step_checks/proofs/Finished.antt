-- The late 21: the tests by kind tell whether the model's step leaves its tables in range. Assumes nothing.
use mathlib.Core.Path.{◌≡◌, sym, ap, ◌∙◌}
use mathlib.Core.Bool.{Bool, ◌&&◌}
use mathlib.Core.List.{List}
use Prim.Native.Nat.{ℕ, suc, ◌+◌, ◌-◌, ◌*◌, ◌<◌, ◌≤◌}
use native.Mathlib.Decide.{ℕ_discrete}
use native.Mathlib.Nat.{le_trans}
use native.Mathlib.Omega.{arith}
use lib.ListN.{get_or}
use lib.IntN.{ℤ}
use lib.Dec.{eqb, leb}
use borrow.Author.Tests.{eqb-true}
use Rattle.laws.specs.Limits.{max_sent}
use Rattle.laws.proofs.Bools.{and_l}
use Rattle.model.specs.Tables.{JobTables, StateTables, job_of, evening_of}
use Rattle.model.specs.Ranges.{state_in_range, totals_in_range}
use Rattle.model.specs.Step.{Asked, moved}
use Rattle.step_packed.specs.Fits.{total_fits, TotalFitsIn}
use Rattle.step_totals.specs.Row.{Tallies, TalliesIn, PricesIn}
use Rattle.step_row.specs.Row.{RowIn}
use Rattle.step_apply.specs.Apply.{Applies}
use Rattle.step_checks.specs.Fits.{BoxSpan, row_fits, price_fits, HeldIn, PriceFitsIn}
use Rattle.model.proofs.Step.{under_at}
use Rattle.step_packed.proofs.Fits.{fits_4, fits_5, fits_6}
use Rattle.step_totals.proofs.Effect.{tallies_of}
use Rattle.step_totals.proofs.Rows.{each_tally}
use Rattle.step_apply.proofs.Given.{Given, given, sent_in, known_in, price_transit_in, total_step_in}
use Rattle.step_checks.proofs.Late.{held_in, late_prices_sent, late_own_multiplied, late_prices_received, late_totals_sent, late_own_added, late_totals_received}

-- The test of each kind.
module _ (e : Tallies) (width from to offers : ℕ) (known transit : List ℕ) (working : List ℤ) (sent : List ℕ) (kind a b : ℕ) where
  abbrev prices : Bool
  prices = price_fits e width from to offers known transit working sent kind a b

  pub fits_1 : kind ≡ 1 → prices ≡ leb (get_or sent 0 0 + offers * width) max_sent
  unfolding price_fits
  fits_1 q = rw q

  pub fits_2 : kind ≡ 2 → prices ≡ row_fits e width from to known a a working
  unfolding price_fits
  fits_2 q = rw q

  pub fits_3 : kind ≡ 3 → prices ≡ row_fits e width from to transit a b working
  unfolding price_fits
  fits_3 q = rw q

-- What multiplying into the words of a span requires.
pub row_in : (e : Tallies) (width from to : ℕ) (prices : List ℕ) (working : List ℤ) (a owner : ℕ) → 1 ≤ width → width ≤ 8 → TalliesIn e → PricesIn e.boxes (e.offers * width) prices →
    HeldIn e width from to a working → a < e.boxes → RowIn from (to - from) width e.offers e.tallies a owner e.owner e.place e.holder e.offer e.counts prices working
row_in e width from to prices working a owner some wide h p s la =
    let end : from + (to - from) ≡ to = omega (arith, s.order) in
    record {
      few = omega (arith, s.order, s.few);
      width_some = some;
      width_in = wide;
      offers_in = h.offers_in;
      tallies_in = h.tallies_in;
      box_in = le_trans la h.boxes_in;
      owner_long_lem = h.owner_long_lem;
      holder_long = h.holder_long;
      long = rw end s.long;
      word_in_lem = λ i l u. s.word_in_lem i l (rw end at u);
      offer_in = λ i l. under_at e.offers e.tallies e.offer i h.offer_in l;
      tally_in = each_tally e width prices a some wide h p s.place_long_lem la;
      place_in = λ i l t. let u = s.place_in i l (eqb-true (get_or e.holder i 0) a (and_l (eqb (get_or e.holder i 0) a) _ t)) in (u.0, omega (arith, u.1, s.order));
    }

module _ (f : JobTables) (t : StateTables) (places : List ℕ) (from to : ℕ) (listed : List ℕ) (q : Asked) (h : Applies f t places from to listed q) where
  abbrev facts : Given f t places from to listed q
  facts = given f t places from to listed q h

  abbrev in_range : Bool
  in_range = state_in_range f (moved f t q) && totals_in_range (evening_of f) (moved f t q)

  -- What the tests require. For kinds 2 and 3 the span is that of all totals of the first box.
  module _ (start end offers : ℕ) (few : q.kind ≤ 3) (span : 2 ≤ q.kind → BoxSpan (job_of f) q.first start end) where
    pub price_fits_in : offers ≤ f.offers → PriceFitsIn (tallies_of f places) f.lists start end offers t.known t.price_transit t.working t.sent q.kind q.first q.second
    price_fits_in most =
        let g = facts in
        record {
          tallies_in = g.tallies_in;
          lists_in = g.lists_in;
          listed_in = most;
          known_in = known_in f t places from to listed q g;
          transit_in = price_transit_in f t places from to listed q g;
          held_in = λ more. held_in f t places from to listed q h start end (span more) more few;
          sent_in = sent_in f t places from to listed q g;
          kind_from = g.kind_from;
          kind_to = few;
          a_in = g.first_in;
          b_in = g.second_in;
        }

    -- Kinds 1 to 3.
    pub late_prices : offers ≡ to - from →
        price_fits (tallies_of f places) (suc f.lists) start end offers t.known t.price_transit t.working t.sent q.kind q.first q.second ≡ in_range
    late_prices many = go (ℕ_discrete q.kind 1) (ℕ_discrete q.kind 2)
      where
        go : Dec (q.kind ≡ 1) → Dec (q.kind ≡ 2) →
            price_fits (tallies_of f places) (suc f.lists) start end offers t.known t.price_transit t.working t.sent q.kind q.first q.second ≡ in_range
        go (yes e) _ =
            fits_1 (tallies_of f places) (suc f.lists) start end offers t.known t.price_transit t.working t.sent q.kind q.first q.second e
            ∙ ap (λ (n : ℕ). leb (get_or t.sent 0 0 + n * suc f.lists) max_sent) many
            ∙ sym (late_prices_sent f t places from to listed q h e)
        go (no n) (yes e) =
            fits_2 (tallies_of f places) (suc f.lists) start end offers t.known t.price_transit t.working t.sent q.kind q.first q.second e
            ∙ sym (late_own_multiplied f t places from to listed q h start end (span (omega arith)) e)
        go (no n) (no m) =
            let e : q.kind ≡ 3 = omega (arith, facts.kind_from) in
            fits_3 (tallies_of f places) (suc f.lists) start end offers t.known t.price_transit t.working t.sent q.kind q.first q.second e
            ∙ sym (late_prices_received f t places from to listed q h start end (span (omega arith)) e)

  pub total_fits_in : 4 ≤ q.kind → TotalFitsIn from to (suc f.lists) listed t.working t.total_transit t.statement t.sent q.kind
  total_fits_in many =
      let g = facts in
      let s = total_step_in f t places from to listed q g many in
      let n = sent_in f t places from to listed q g in
      record {
        working_in = s.working_in;
        transit_in = s.transit_in;
        sent_long = n.long;
        sent_in = n.word_in_lem;
        kind_from = many;
        kind_to = g.kind_to;
      }

  -- Kinds 4 to 6.
  pub late_totals : 4 ≤ q.kind → total_fits from to (suc f.lists) listed t.working t.total_transit t.statement t.sent q.kind ≡ in_range
  late_totals many = go (ℕ_discrete q.kind 4) (ℕ_discrete q.kind 5)
    where
      go : Dec (q.kind ≡ 4) → Dec (q.kind ≡ 5) → total_fits from to (suc f.lists) listed t.working t.total_transit t.statement t.sent q.kind ≡ in_range
      go (yes e) _ =
          sym (late_totals_sent f t places from to listed q h e ∙ fits_4 from to (suc f.lists) listed t.working t.total_transit t.statement t.sent q.kind e)
      go (no n) (yes e) =
          sym (late_own_added f t places from to listed q h e ∙ fits_5 from to (suc f.lists) listed t.working t.total_transit t.statement t.sent q.kind e)
      go (no n) (no m) =
          let e : q.kind ≡ 6 = omega (arith, facts.kind_to) in
          sym (late_totals_received f t places from to listed q h e ∙ fits_6 from to (suc f.lists) listed t.working t.total_transit t.statement t.sent q.kind e)
