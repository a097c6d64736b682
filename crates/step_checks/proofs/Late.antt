-- What the range of the finished tables comes to for each kind of step: one test decides. Assumes nothing.
use mathlib.Core.Path.{◌≡◌, refl, sym, ap, ap₂, ◌∙◌}
use mathlib.Core.Bool.{Bool, true, ◌&&◌, ◌||◌}
use mathlib.Core.List.{List, [], ◌∷◌}
use Prim.Native.Nat.{ℕ, suc, ◌+◌, ◌-◌, ◌*◌, ◌<◌, ◌≤◌}
use native.Mathlib.Nat.{le_trans, mul-le-mul}
use native.Mathlib.Omega.{arith}
use lib.Dec.{eqb, ltb, leb}
use lib.ListN.{length, get_or}
use lib.IntN.{ℤ, pos, nat_abs}
use borrow.Author.Tests.{eqb-true, eq-eqb, le-leb}
use Rattle.laws.specs.Below.{integers, naturals, sum}
use Rattle.laws.specs.Lists.{list_words}
use Rattle.laws.specs.Tables.{cell}
use Rattle.laws.proofs.Below.{count_le, all_of_lem}
use Rattle.laws.proofs.Bools.{and_one, and_true, and_l, and_r, cond_either}
use Rattle.laws.proofs.Checks.{one_left}
use Rattle.laws.proofs.Sums.{only_no, sum_within}
use Rattle.laws.specs.Limits.{max_price, max_amount, max_sent}
use Rattle.model.specs.Job.{Job, shares}
use Rattle.model.specs.LocalLists.{local_grocers}
use Rattle.model.specs.PackedTotals.{totals_start, totals_length, total_place, has_total, spread}
use Rattle.model.specs.Ranges.{up_to, around, state_in_range, totals_in_range}
use Rattle.model.specs.Spans.{place_grocers, in_span, span_written, beside}
use Rattle.model.specs.Step.{Asked, moved}
use Rattle.model.specs.Steps.{kind_of}
use Rattle.model.specs.Tables.{JobTables, job_of, with_lists, evening_of, StateTables, state_tables, state_lengths}
use Rattle.step_places.specs.Marks.{marked}
use Rattle.step_prices.specs.Prices.{sent_transit, received_known, received_transit}
use Rattle.step_packed.specs.Fits.{span_fits}
use Rattle.step_totals.specs.Row.{is_taken}
use Rattle.step_apply.specs.Apply.{Applies, span_box, span_group, row_words, multiplied, credited}
use Rattle.step_checks.specs.Fits.{BoxSpan, HeldIn, row_fits}
use Rattle.model.proofs.LocalLists.{local_at}
use Rattle.model.proofs.PackedTotals.{within}
use Rattle.model.proofs.Spans.{tally_has, tally_at, local_count}
use Rattle.model.proofs.Step.{around_at}
use Rattle.step_rules.proofs.Marked.{marked_bits}
use Rattle.step_spans.proofs.Laws.{span_word}
use Rattle.step_spans.proofs.Statements.{credit_range}
use Rattle.step_totals.proofs.Effect.{tallies_of, held_is}
use Rattle.step_row.proofs.Ranges.{row_range}
use Rattle.step_apply.proofs.Given.{Given, given}
use Rattle.step_apply.proofs.Moved.{passing, prices_sent, own_multiplied, prices_received, totals_sent, own_added, totals_received, span_at, grocers_as}
use Rattle.step_apply.proofs.Ranges.{cell_up, recell_up, set_up}

-- Prices sent or received stay in range.
module _ (k n a b : ℕ) (passes : ℕ → Bool) (known transit : List ℕ) (hk : up_to max_price (k * n) known ≡ true) (ht : up_to max_price (k * n) transit ≡ true) where
  sent_up : up_to max_price (k * n) (sent_transit k n a b passes known transit) ≡ true
  unfolding sent_transit
  sent_up = recell_up max_price k n (λ c w. eqb c b && passes w) (λ c w. cell k n known 0 a w) (λ c w. cell k n transit 0 c w) transit (λ c w. cell_up max_price k n known a w hk) (λ c w. cell_up max_price k n transit c w ht)

  known_up : up_to max_price (k * n) (received_known k n a passes known transit) ≡ true
  unfolding received_known
  known_up = recell_up max_price k n (λ c w. eqb c a && passes w) (λ c w. cell k n transit 0 a w) (λ c w. cell k n known 0 c w) known (λ c w. cell_up max_price k n transit a w ht) (λ c w. cell_up max_price k n known c w hk)

  transit_up : up_to max_price (k * n) (received_transit k n a passes transit) ≡ true
  unfolding received_transit
  transit_up = recell_up max_price k n (λ c w. eqb c a && passes w) (λ c w. 0) (λ c w. cell k n transit 0 c w) transit (λ c w. omega arith) (λ c w. cell_up max_price k n transit c w ht)

-- A table of totals with a span written anew stays in range.
span_range : (m n from to : ℕ) (f : ℕ → ℤ) (l : List ℤ) → n ≤ length l → ((i : ℕ) → i < n → nat_abs (f i) ≤ m) → around m n l ≡ true → around m n (span_written from to f l) ≡ true
unfolding around
span_range m n from to f l long hf h =
    all_of_lem n (λ i. leb (nat_abs (get_or (span_written from to f l) i (pos 0))) m) (λ i q.
    ap (λ (z : ℤ). leb (nat_abs z) m) (span_word from to f l i (le_trans q long))
    ∙ le-leb _ m (cond_either (λ (z : ℤ). nat_abs z ≤ m) (in_span from to i) (f i) (get_or l i (pos 0)) (hf i q) (around_at m n l i h q)))

-- All tables of a state are in range.
abbrev both_in_range : JobTables → StateTables → Bool
both_in_range f t = state_in_range f t && totals_in_range (evening_of f) t

-- The range of tables in which all lists are in range but the working totals, the statements or the count of words sent.
module _ (f : JobTables) (known transit : List ℕ) (working totals statement : List ℤ) (done sent : List ℕ)
    (hk : up_to max_price (f.boxes * list_words f.lists f.offers) known ≡ true) (hp : up_to max_price (f.boxes * list_words f.lists f.offers) transit ≡ true)
    (ht : around max_amount (totals_length (evening_of f)) totals ≡ true) (hd : up_to 1 (6 * f.boxes * f.boxes) done ≡ true) where
  abbrev tables : StateTables
  tables = state_tables known transit working totals statement done sent

  working_decides : around max_amount (list_words f.lists f.grocers) statement ≡ true → up_to max_sent 1 sent ≡ true → both_in_range f tables ≡ around max_amount (totals_length (evening_of f)) working
  unfolding state_in_range totals_in_range
  working_decides hs hn =
      ap₂ ◌&&◌ (one_left [] _ (_ ∷ _ ∷ _ ∷ _ ∷ []) tt (hp, (hs, (hd, (hn, tt)))) ∙ hk)
      (ap (λ (b : Bool). around max_amount (totals_length (evening_of f)) working && b) ht ∙ and_one (around max_amount (totals_length (evening_of f)) working))

  statement_decides : around max_amount (totals_length (evening_of f)) working ≡ true → up_to max_sent 1 sent ≡ true → both_in_range f tables ≡ around max_amount (list_words f.lists f.grocers) statement
  unfolding state_in_range totals_in_range
  statement_decides hw hn =
      ap₂ ◌&&◌ (one_left (_ ∷ _ ∷ []) (around max_amount (list_words f.lists f.grocers) statement) (_ ∷ _ ∷ []) (hk, (hp, tt)) (hd, (hn, tt))) (and_true hw ht) ∙ and_one (around max_amount (list_words f.lists f.grocers) statement)

  sent_decides : around max_amount (totals_length (evening_of f)) working ≡ true → around max_amount (list_words f.lists f.grocers) statement ≡ true → both_in_range f tables ≡ up_to max_sent 1 sent
  unfolding state_in_range totals_in_range
  sent_decides hw hs =
      ap₂ ◌&&◌ (one_left (_ ∷ _ ∷ _ ∷ _ ∷ []) (up_to max_sent 1 sent) [] (hk, (hp, (hs, (hd, tt)))) tt) (and_true hw ht) ∙ and_one (up_to max_sent 1 sent)

-- The span of all totals of a box: it ends where the next box begins, within the packed tables.
module _ (j : Job) (b : ℕ) where
  box_next : totals_start j (suc b) ≡ totals_start j b + length (local_grocers j b)
  unfolding totals_start sum naturals
  box_next = refl

  box_within : b < j.boxes → totals_start j b + length (local_grocers j b) ≤ totals_length j
  unfolding totals_length totals_start
  box_within l = sum_within b j.boxes (λ c. length (local_grocers j c)) l

  -- A total of the box has its place there.
  total_within : (g : ℕ) → has_total j b g ≡ true → (totals_start j b ≤ total_place j b g) × (total_place j b g < totals_start j (suc b))
  unfolding has_total total_place
  total_within g h = (omega arith, within j b (suc b) _ (omega arith) (local_at j b g (and_r (ltb b j.boxes) _ h)).0)

module _ (f : JobTables) (t : StateTables) (places : List ℕ) (from to : ℕ) (listed : List ℕ) (q : Asked) (h : Applies f t places from to listed q) where
  abbrev facts : Given f t places from to listed q
  facts = given f t places from to listed q h

  -- The words of an entry, and of all totals.
  abbrev width : ℕ
  width = suc f.lists

  abbrev packed : ℕ
  packed = totals_length (evening_of f)

  marks : up_to 1 (6 * f.boxes * f.boxes) (marked f.boxes (kind_of q.kind) q.first q.second t.done) ≡ true
  marks = marked_bits f.boxes (kind_of q.kind) q.first q.second t.done

  -- 1: the count of words sent.
  pub late_prices_sent : q.kind ≡ 1 → both_in_range f (moved f t q) ≡ leb (get_or t.sent 0 0 + (to - from) * width) max_sent
  unfolding state_lengths
  late_prices_sent e =
      let g = facts in
      let w = g.words_in in
      ap (both_in_range f) (prices_sent f t places from to listed q g e)
      ∙ sent_decides f _ _ _ _ _ _ _ w.known
      (sent_up f.boxes (f.offers * width) q.first q.second (row_words width (passing f q)) t.known t.price_transit w.known w.price_transit)
      g.transit_around marks g.working_around w.statement
      ∙ set_up max_sent t.sent _ g.state_long.sent

  -- The span of the first box: at most 255 places, within the packed tables.
  module _ (start end : ℕ) (span : BoxSpan (job_of f) q.first start end) where
    box_bounds : (start ≤ end) × (end ≤ start + 255) × (end ≤ totals_length (job_of f))
    unfolding job_of
    box_bounds =
        let g = facts in
        let next = box_next (job_of f) q.first in
        let size = local_count (job_of f) g.in_range_lem q.first in (
          omega (arith, span.from_is, span.to_is, next),
          omega (arith, span.from_is, span.to_is, next, size, count_le f.grocers (λ i. eqb ((job_of f).grocer_owner i) q.first || shares (job_of f) i q.first), g.grocers_in),
          omega (arith, span.to_is, next, box_within (job_of f) q.first g.first_in),
        )

    -- Its words are within the packed tables.
    words_within : end * width ≤ packed
    words_within = rw facts.packed_length_lem (mul-le-mul box_bounds.2 (omega arith))

    -- It has a place for each of the box's tallies.
    pub held_in : 2 ≤ q.kind → q.kind ≤ 3 → HeldIn (tallies_of f places) width start end q.first t.working
    unfolding state_lengths job_of
    held_in more few =
        let g = facts in
        let s = g.places_are more few in
        record {
          order = box_bounds.0;
          few = box_bounds.1;
          long = le_trans words_within g.totals_long.working;
          word_in_lem = λ p l u. around_at 1_000_000_000_000_000 packed t.working p g.working_around (le_trans u words_within);
          place_long_lem = s.long;
          place_in = λ i l e.
              let held = held_is f g.bare q.first g.first_in i l ∙ eq-eqb (get_or f.tally_box i 0) q.first e in
              let at = s.each i l held ∙ tally_at (job_of f) g.in_range_lem i q.first held in
              let u = total_within (job_of f) q.first ((job_of f).tally_grocer i) (tally_has (job_of f) g.in_range_lem i q.first l held) in
              (omega (arith, at, u.0, span.from_is), omega (arith, at, u.1, span.to_is));
        }

    -- A table of working totals with tallies of the first box multiplied into it is in range where the box's own words are.
    row_fits_lem : (prices : List ℕ) (owner : ℕ) → 2 ≤ q.kind → q.kind ≤ 3 →
        around max_amount packed (multiplied (tallies_of f places) width prices q.first owner t.working) ≡ row_fits (tallies_of f places) width start end prices q.first owner t.working
    unfolding state_lengths integers
    row_fits_lem prices owner more few =
        let g = facts in
        let s = held_in more few in
        let taken = is_taken f.offer_owner f.tally_box f.tally_offer q.first owner in
        ap (λ (n : ℕ). around max_amount n (multiplied (tallies_of f places) width prices q.first owner t.working)) g.packed_length_lem
        ∙ row_range start (end - start) width f.tallies (totals_length (job_of f)) places _ taken t.working
        (omega arith) (omega (arith, s.order, s.few)) (omega (arith, box_bounds.0, box_bounds.2)) (rw (sym g.packed_length_lem) g.totals_long.working)
        (λ i v l e. only_no integers (taken i) _ e)
        (λ i l e. let p = s.place_in i l (eqb-true (get_or f.tally_box i 0) q.first (and_l _ _ e)) in (p.0, omega (arith, p.1, s.order)))
        (rw (sym g.packed_length_lem) g.working_around)

    -- 2: the words of the box, at the prices it knows.
    pub late_own_multiplied : q.kind ≡ 2 → both_in_range f (moved f t q) ≡ row_fits (tallies_of f places) width start end t.known q.first q.first t.working
    late_own_multiplied e =
        let g = facts in
        let w = g.words_in in
        ap (both_in_range f) (own_multiplied f t places from to listed q g e)
        ∙ working_decides f _ _ _ _ _ _ _ w.known w.price_transit g.transit_around marks w.statement w.sent
        ∙ row_fits_lem t.known q.first (omega arith) (omega arith)

    -- 3: the words of the box, at the prices in transit to it.
    pub late_prices_received : q.kind ≡ 3 → both_in_range f (moved f t q) ≡ row_fits (tallies_of f places) width start end t.price_transit q.first q.second t.working
    late_prices_received e =
        let g = facts in
        let w = g.words_in in
        ap (both_in_range f) (prices_received f t places from to listed q g e)
        ∙ working_decides f _ _ _ _ _ _ _
        (known_up f.boxes (f.offers * width) q.first q.second (row_words width (passing f q)) t.known t.price_transit w.known w.price_transit)
        (transit_up f.boxes (f.offers * width) q.first q.second (row_words width (passing f q)) t.known t.price_transit w.known w.price_transit)
        g.transit_around marks w.statement w.sent
        ∙ row_fits_lem t.price_transit q.second (omega arith) (omega arith)

  -- A span of totals cleared, or sent, leaves them in range.
  cleared : (l : List ℤ) → packed ≤ length l → around max_amount packed l ≡ true → around max_amount packed (span_written (from * width) (to * width) (λ i. pos 0) l) ≡ true
  cleared l long was = span_range max_amount packed (from * width) (to * width) (λ i. pos 0) l long (λ i u. omega arith) was

  -- 4: the count of words sent.
  pub late_totals_sent : q.kind ≡ 4 → both_in_range f (moved f t q) ≡ leb (get_or t.sent 0 0 + (to - from) * width) max_sent
  unfolding state_lengths
  late_totals_sent e =
      let g = facts in
      let w = g.words_in in
      ap (both_in_range f) (totals_sent f t places from to listed q g e)
      ∙ sent_decides f _ _ _ _ _ _ _ w.known w.price_transit
      (span_range max_amount packed (from * width) (to * width) (λ i. get_or t.working i (pos 0)) t.total_transit g.totals_long.total_transit
      (λ i u. around_at 1_000_000_000_000_000 packed t.working i g.working_around u) g.transit_around)
      marks
      (cleared t.working g.totals_long.working g.working_around)
      w.statement
      ∙ set_up max_sent t.sent _ g.state_long.sent

  -- The statements to which the step's span is added, where each grocer has one place of it.
  added_range : (x y : ℕ) (source : List ℤ) → 4 ≤ q.kind → from * width ≡ x → to * width ≡ y →
      ((i k : ℕ) → in_span x y i ≡ true → in_span x y k ≡ true → get_or (place_grocers (evening_of f)) i 0 ≡ get_or (place_grocers (evening_of f)) k 0 → i ≡ k) →
      around max_amount (list_words f.lists f.grocers) (credited from to width listed q.kind source t.statement) ≡ span_fits from to width listed source t.statement
  unfolding state_lengths with_lists spread job_of
  added_range x y source many ex ey once =
      let g = facts in
      let at = grocers_as f t places from to listed q g (from * width) (to * width) many refl refl in
      credit_range max_amount (list_words f.lists f.grocers) (from * width) (to * width) (beside width listed) source t.statement g.state_long.statement
      (λ i u. (at i u).1)
      (λ i k u v e. once i k (ap₂ (λ (a b : ℕ). in_span a b i) (sym ex) (sym ey) ∙ u) (ap₂ (λ (a b : ℕ). in_span a b k) (sym ex) (sym ey) ∙ v) (sym (at i u).0 ∙ e ∙ (at k v).0))
      (λ i u. around_at 1_000_000_000_000_000 (list_words f.lists f.grocers) t.statement i g.words_in.statement u)

  -- 5: the statements of the box's own grocers, with its own working totals.
  pub late_own_added : q.kind ≡ 5 → both_in_range f (moved f t q) ≡ span_fits from to width listed t.working t.statement
  unfolding state_lengths span_box span_group with_lists spread job_of
  late_own_added e =
      let g = facts in
      let w = g.words_in in
      let z = span_at f t places from to listed q g 5 e (omega arith) in
      ap (both_in_range f) (own_added f t places from to listed q g e)
      ∙ statement_decides f _ _ _ _ _ _ _ w.known w.price_transit g.transit_around marks (cleared t.working g.totals_long.working g.working_around) w.sent
      ∙ added_range _ _ t.working (omega arith) z.0 z.1 (λ i k. g.by_spans.own_once q.first i k g.first_in)

  -- 6: the statements of the grocers of the message, with its totals.
  pub late_totals_received : q.kind ≡ 6 → both_in_range f (moved f t q) ≡ span_fits from to width listed t.total_transit t.statement
  unfolding state_lengths span_box span_group with_lists spread job_of
  late_totals_received e =
      let g = facts in
      let w = g.words_in in
      let z = span_at f t places from to listed q g 6 e (omega arith) in
      ap (both_in_range f) (totals_received f t places from to listed q g e)
      ∙ statement_decides f _ _ _ _ _ _ _ w.known w.price_transit (cleared t.total_transit g.totals_long.total_transit g.transit_around) marks g.working_around w.sent
      ∙ added_range _ _ t.total_transit (omega arith) z.0 z.1 (λ i k. g.by_spans.message_once q.second q.first i k g.second_in g.first_in)
