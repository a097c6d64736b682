-- The tables with the effect of a step, list by list, as the calls leave them. Assumes nothing.
use mathlib.Core.Path.{◌≡◌, refl, sym, ap, ap₂, ◌∙◌}
use mathlib.Core.Bool.{Bool, true, false}
use mathlib.Core.List.{List}
use Prim.Native.Nat.{ℕ, suc, ◌+◌, ◌-◌, ◌*◌, ◌≤◌, ◌<◌}
use native.Mathlib.Decide.{ℕ_discrete}
use native.Mathlib.Omega.{arith}
use lib.IntN.{ℤ, pos}
use lib.ListN.{get_or}
use Rattle.laws.specs.Below.{count}
use Rattle.laws.proofs.Entries.{span_times}
use Rattle.laws.proofs.Tables.{overwrite_one, word_in_lem}
use Rattle.laws.specs.Tables.{overwrite}
use Rattle.model.specs.Job.{total_word, price_word}
use Rattle.model.specs.PackedTotals.{spread}
use Rattle.model.specs.Steps.{Kind, State, effect, one_box, kind_of, send_prices, multiply_own, receive_prices, send_totals, add_own, receive_totals}
use Rattle.model.specs.Tables.{JobTables, job_of, with_lists, evening_of, StateTables, state_tables, state_lengths, view, store}
use Rattle.model.specs.Step.{Asked, moved}
use Rattle.model.specs.Spans.{group_start, place_grocers, in_span, span_written, beside}
use Rattle.step_prices.specs.Prices.{sent_transit, received_known, received_transit}
use Rattle.step_places.specs.Marks.{marked}
use Rattle.step_spans.specs.Credit.{credit_span}
use Rattle.step_apply.specs.Apply.{span_box, span_group, prices_of, row_words, sent_more, known_after, price_transit_after, multiplied, multiplied_after}
use Rattle.step_apply.specs.Apply.{words_sent, PriceStepOut, working_after, total_transit_after, credited, statement_after, TotalStepOut}
use Rattle.step_spans.proofs.Statements.{added_statement, received_statement, evening_grocers}
use Rattle.step_prices.proofs.Effect.{tables_eq, known_stays, price_transit_stays, working_stays, total_transit_stays, statement_stays, sent_stays, step_marked}
use Rattle.step_totals.proofs.Effect.{tallies_of, multiplied_working, received_working}
use Rattle.step_apply.proofs.Given.{Given, span_in}
use Rattle.step_apply.proofs.Sides.{prices_sent_out, own_multiplied_out, prices_received_out, totals_sent_out, own_added_out, totals_received_out, none_more}
use Rattle.step_prices.proofs.Effect as price-laws

-- The marks with the step's, and all tables as a step leaves them, told from what it leaves on its side.
abbrev marks_left : JobTables → StateTables → Asked → List ℕ
marks_left f t q = marked f.boxes (kind_of q.kind) q.first q.second t.done

-- The offers of the step's message.
abbrev pub passing : JobTables → Asked → ℕ → Bool
passing f q = prices_of (job_of f) q.kind q.first q.second

abbrev pub prices_left : JobTables → StateTables → List ℕ → ℕ → ℕ → Asked → StateTables
prices_left f t places from to q =
    state_tables
    (known_after (tallies_of f places) (suc f.lists) (passing f q) t.known t.price_transit q.kind q.first q.second)
    (price_transit_after (tallies_of f places) (suc f.lists) (passing f q) t.known t.price_transit q.kind q.first q.second)
    (multiplied_after (tallies_of f places) (suc f.lists) t.known t.price_transit t.working q.kind q.first q.second)
    t.total_transit
    t.statement
    (marks_left f t q)
    (sent_more t.sent (words_sent 1 from to (suc f.lists) q.kind))

abbrev pub totals_left : JobTables → StateTables → ℕ → ℕ → List ℕ → Asked → StateTables
totals_left f t from to grocers q =
    state_tables
    t.known
    t.price_transit
    (working_after from to (suc f.lists) grocers q.kind t.working)
    (total_transit_after from to (suc f.lists) grocers q.kind t.working t.total_transit)
    (statement_after from to (suc f.lists) grocers q.kind t.working t.total_transit t.statement)
    (marks_left f t q)
    (sent_more t.sent (words_sent 4 from to (suc f.lists) q.kind))

module _ (f : JobTables) (t : StateTables) (places : List ℕ) (from to : ℕ) (listed : List ℕ) (q : Asked) (g : Given f t places from to listed q) where
  -- The number of words of an entry, and of the words of a span.
  abbrev width : ℕ
  width = suc f.lists

  -- The state after a step of a kind, and the tables it is written into.
  abbrev left : Kind → State
  left k = effect (evening_of f) (view (evening_of f) t) k q.first q.second

  abbrev written : Kind → StateTables
  written k = store (evening_of f) (left k) t

  -- The tables of a kind by each list but the marks, which are the same for every kind.
  by_lists : (k : Kind) → kind_of q.kind ≡ k → (known transit : List ℕ) (working totals statement : List ℤ) (sent : List ℕ) →
      (written k).known ≡ known → (written k).price_transit ≡ transit → (written k).working ≡ working → (written k).total_transit ≡ totals → (written k).statement ≡ statement → (written k).sent ≡ sent →
      moved f t q ≡ state_tables known transit working totals statement (marked f.boxes (kind_of q.kind) q.first q.second t.done) sent
  unfolding moved with_lists spread job_of
  by_lists k e known transit working totals statement sent ek ep ew et es en =
      ap written e
      ∙ tables_eq (written k) _ ek ep ew et es
      (step_marked (evening_of f) t k q.first q.second ∙ ap (λ (x : Kind). marked f.boxes x q.first q.second t.done) (sym e))
      en

  -- The offers of the message of kind 1, and of kind 3.
  sends : q.kind ≡ 1 → (o : ℕ) → o < f.offers → passing f q o ≡ price_word (job_of f) q.first q.second o
  unfolding prices_of
  sends e o l = rw e

  receives : q.kind ≡ 3 → (o : ℕ) → o < f.offers → passing f q o ≡ price_word (job_of f) q.second q.first o
  unfolding prices_of
  receives e o l = rw e

  -- As many words are sent as the listed offers have.
  offers_sent : q.kind ≡ 1 → count f.offers (passing f q) * width ≡ (to - from) * width
  offers_sent e = ap (λ (n : ℕ). n * width) (omega (arith, (g.offers_are (omega (arith, e)) (λ two. omega (arith, e, two))).many))

  -- 1 Send prices.
  pub prices_sent : q.kind ≡ 1 → moved f t q ≡ state_tables
      t.known
      (sent_transit f.boxes (f.offers * width) q.first q.second (row_words width (passing f q)) t.known t.price_transit)
      t.working
      t.total_transit
      t.statement
      (marked f.boxes (kind_of q.kind) q.first q.second t.done)
      (sent_more t.sent ((to - from) * width))
  unfolding effect kind_of state_lengths with_lists spread job_of
  prices_sent e =
      by_lists send_prices (ap kind_of e) _ _ _ _ _ _
      (known_stays (evening_of f) (left send_prices) t g.state_long refl)
      (price-laws.sent_transit_lem f t q.first q.second (passing f q) (sends e))
      (working_stays (evening_of f) (left send_prices) t g.state_long g.totals_long refl)
      (total_transit_stays (evening_of f) (left send_prices) t g.state_long g.totals_long refl)
      (statement_stays (evening_of f) (left send_prices) t g.state_long refl)
      (price-laws.sent_more_lem f t q.first q.second (passing f q) (sends e)
      ∙ overwrite_one _ t.sent g.state_long.sent
      ∙ ap (sent_more t.sent) (offers_sent e))

  -- 2 Multiply own.
  pub own_multiplied : q.kind ≡ 2 → moved f t q ≡ state_tables
      t.known
      t.price_transit
      (multiplied (tallies_of f places) width t.known q.first q.first t.working)
      t.total_transit
      t.statement
      (marked f.boxes (kind_of q.kind) q.first q.second t.done)
      t.sent
  unfolding effect kind_of state_lengths with_lists spread job_of
  own_multiplied e =
      by_lists multiply_own (ap kind_of e) _ _ _ _ _ _
      (known_stays (evening_of f) (left multiply_own) t g.state_long refl)
      (price_transit_stays (evening_of f) (left multiply_own) t g.state_long refl)
      (sym (multiplied_working f places g.bare g.tallies_in g.evening_in g.list_spans q.first g.first_in (g.places_are (omega arith) (omega arith)).each t q.second g.by_spans g.totals_long.working))
      (total_transit_stays (evening_of f) (left multiply_own) t g.state_long g.totals_long refl)
      (statement_stays (evening_of f) (left multiply_own) t g.state_long refl)
      (sent_stays (evening_of f) (left multiply_own) t g.state_long refl)

  -- The boxes of a step of two boxes are not the same.
  differ : (k : Kind) → kind_of q.kind ≡ k → one_box k ≡ false → q.first ≡ q.second → ⊥
  differ k e o = g.two_boxes (ap one_box e ∙ o)

  -- 3 Receive prices.
  pub prices_received : q.kind ≡ 3 → moved f t q ≡ state_tables
      (received_known f.boxes (f.offers * width) q.first (row_words width (passing f q)) t.known t.price_transit)
      (received_transit f.boxes (f.offers * width) q.first (row_words width (passing f q)) t.price_transit)
      (multiplied (tallies_of f places) width t.price_transit q.first q.second t.working)
      t.total_transit
      t.statement
      (marked f.boxes (kind_of q.kind) q.first q.second t.done)
      t.sent
  unfolding effect kind_of state_lengths with_lists spread job_of one_box
  prices_received e =
      by_lists receive_prices (ap kind_of e) _ _ _ _ _ _
      (price-laws.received_known_lem f t q.first q.second (passing f q) (receives e))
      (price-laws.received_transit_lem f t q.first q.second (passing f q) (receives e))
      (sym (received_working f places g.bare g.tallies_in g.evening_in g.list_spans q.first g.first_in (g.places_are (omega arith) (omega arith)).each t q.second
      (differ receive_prices (ap kind_of e) refl) g.by_spans g.totals_long.working))
      (total_transit_stays (evening_of f) (left receive_prices) t g.state_long g.totals_long refl)
      (statement_stays (evening_of f) (left receive_prices) t g.state_long refl)
      (sent_stays (evening_of f) (left receive_prices) t g.state_long refl)

  -- The words of a step's span, by the number of its kind: those of a group of the evening's totals.
  pub span_at : (k : ℕ) → q.kind ≡ k → 4 ≤ k →
      (from * width ≡ group_start (evening_of f) (span_box k q.first q.second) (span_group k q.first q.second))
      × (to * width ≡ group_start (evening_of f) (span_box k q.first q.second) (suc (span_group k q.first q.second)))
  span_at k e many =
      let z = g.span_is (omega arith) in
      let words = g.list_spans.groups in (
        ap (λ (n : ℕ). n * width) (z.from_is ∙ ap (λ (x : ℕ). group_start (job_of f) (span_box x q.first q.second) (span_group x q.first q.second)) e) ∙ sym (words _ _),
        ap (λ (n : ℕ). n * width) (z.to_is ∙ ap (λ (x : ℕ). group_start (job_of f) (span_box x q.first q.second) (suc (span_group x q.first q.second))) e) ∙ sym (words _ _),
      )

  -- A table with a span written, and the grocers of a span, where the span begins and ends elsewhere by another name.
  span_as : (x y : ℕ) (w : ℕ → ℤ) (l : List ℤ) → from * width ≡ x → to * width ≡ y → span_written x y w l ≡ span_written (from * width) (to * width) w l
  span_as x y w l ex ey = ap₂ (λ (u v : ℕ). span_written u v w l) (sym ex) (sym ey)

  pub grocers_as : (x y : ℕ) → 4 ≤ q.kind → from * width ≡ x → to * width ≡ y → (i : ℕ) → in_span x y i ≡ true →
      (get_or (beside width listed) i 0 ≡ get_or (place_grocers (evening_of f)) i 0) × (get_or (beside width listed) i 0 < (evening_of f).grocers)
  unfolding job_of
  grocers_as x y many ex ey i h =
      let z = g.span_is many in
      evening_grocers f g.list_spans from to listed z.long (span_in f t places from to listed q g many).2 z.each i (ap₂ (λ (u v : ℕ). in_span u v i) ex ey ∙ h)

  credit_as : (x y : ℕ) (source : List ℤ) → from * width ≡ x → to * width ≡ y →
      credited from to width listed q.kind source t.statement ≡ credit_span (y - x) x (beside width listed) source t.statement
  credit_as x y source ex ey = ap₂ (λ (u v : ℕ). credit_span (v - u) u (beside width listed) source t.statement) ex ey

  -- The words of a message of totals are those of the places of its span.
  words_sent_lem : q.kind ≡ 4 → count (evening_of f).grocers (total_word (evening_of f) q.first q.second) ≡ (to - from) * width
  unfolding span_box span_group
  words_sent_lem e =
      let z = span_at 4 e (omega arith) in
      omega (arith, z.0, z.1, g.by_spans.message_length q.first q.second, span_times width from to)

  sent_more_lem : q.kind ≡ 4 → (written send_totals).sent ≡ overwrite 1 (λ i. get_or t.sent 0 0 + (to - from) * width) t.sent
  unfolding store effect view
  sent_more_lem e = rw (words_sent_lem e, word_in_lem 1 t.sent 0 0 (omega arith))

  -- 4 Send totals.
  pub totals_sent : q.kind ≡ 4 → moved f t q ≡ state_tables
      t.known
      t.price_transit
      (span_written (from * width) (to * width) (λ w. pos 0) t.working)
      (span_written (from * width) (to * width) (λ w. get_or t.working w (pos 0)) t.total_transit)
      t.statement
      (marked f.boxes (kind_of q.kind) q.first q.second t.done)
      (sent_more t.sent ((to - from) * width))
  unfolding effect kind_of state_lengths with_lists spread job_of span_box span_group
  totals_sent e =
      let z = span_at 4 e (omega arith) in
      by_lists send_totals (ap kind_of e) _ _ _ _ _ _
      (known_stays (evening_of f) (left send_totals) t g.state_long refl)
      (price_transit_stays (evening_of f) (left send_totals) t g.state_long refl)
      (g.by_spans.sent_working q.first q.second g.first_in g.second_in ∙ span_as _ _ (λ w. pos 0) t.working z.0 z.1)
      (g.by_spans.sent_transit q.first q.second g.first_in g.second_in ∙ span_as _ _ (λ w. get_or t.working w (pos 0)) t.total_transit z.0 z.1)
      (statement_stays (evening_of f) (left send_totals) t g.state_long refl)
      (sent_more_lem e ∙ overwrite_one _ t.sent g.state_long.sent)

  -- 5 Add own working totals to its own statements.
  pub own_added : q.kind ≡ 5 → moved f t q ≡ state_tables
      t.known
      t.price_transit
      (span_written (from * width) (to * width) (λ w. pos 0) t.working)
      t.total_transit
      (credited from to width listed q.kind t.working t.statement)
      (marked f.boxes (kind_of q.kind) q.first q.second t.done)
      t.sent
  unfolding effect kind_of state_lengths with_lists spread job_of span_box span_group
  own_added e =
      let z = span_at 5 e (omega arith) in
      by_lists add_own (ap kind_of e) _ _ _ _ _ _
      (known_stays (evening_of f) (left add_own) t g.state_long refl)
      (price_transit_stays (evening_of f) (left add_own) t g.state_long refl)
      (g.by_spans.added_working q.first q.second g.first_in ∙ span_as _ _ (λ w. pos 0) t.working z.0 z.1)
      (total_transit_stays (evening_of f) (left add_own) t g.state_long g.totals_long refl)
      (sym (credit_as _ _ t.working z.0 z.1
      ∙ added_statement (evening_of f) t g.by_spans (beside width listed) g.state_long.statement q.first q.second g.first_in (grocers_as _ _ (omega arith) z.0 z.1)))
      (sent_stays (evening_of f) (left add_own) t g.state_long refl)

  -- 6 Receive totals.
  pub totals_received : q.kind ≡ 6 → moved f t q ≡ state_tables
      t.known
      t.price_transit
      t.working
      (span_written (from * width) (to * width) (λ w. pos 0) t.total_transit)
      (credited from to width listed q.kind t.total_transit t.statement)
      (marked f.boxes (kind_of q.kind) q.first q.second t.done)
      t.sent
  unfolding effect kind_of state_lengths with_lists spread job_of span_box span_group
  totals_received e =
      let z = span_at 6 e (omega arith) in
      by_lists receive_totals (ap kind_of e) _ _ _ _ _ _
      (known_stays (evening_of f) (left receive_totals) t g.state_long refl)
      (price_transit_stays (evening_of f) (left receive_totals) t g.state_long refl)
      (working_stays (evening_of f) (left receive_totals) t g.state_long g.totals_long refl)
      (g.by_spans.received_transit q.first q.second g.first_in g.second_in ∙ span_as _ _ (λ w. pos 0) t.total_transit z.0 z.1)
      (sym (credit_as _ _ t.total_transit z.0 z.1
      ∙ received_statement (evening_of f) t g.by_spans (beside width listed) g.state_long.statement q.first q.second g.first_in g.second_in (grocers_as _ _ (omega arith) z.0 z.1)))
      (sent_stays (evening_of f) (left receive_totals) t g.state_long refl)

  -- Kinds 1 to 3: what the model says is left on the side of prices.
  pub prices_moved : q.kind ≤ 3 → moved f t q ≡ prices_left f t places from to q
  unfolding state_lengths
  prices_moved small = go (ℕ_discrete q.kind 1) (ℕ_discrete q.kind 2)
    where
      by_out : (known transit : List ℕ) (working : List ℤ) (more : ℕ) →
          PriceStepOut (tallies_of f places) width from to (passing f q) t.known t.price_transit t.working q.kind q.first q.second known transit working more →
          moved f t q ≡ state_tables known transit working t.total_transit t.statement (marks_left f t q) (sent_more t.sent more) → moved f t q ≡ prices_left f t places from to q
      by_out known transit working more o e = e ∙ tables_eq _ _ o.known_is o.transit_is o.working_is refl refl refl (ap (sent_more t.sent) o.sent_is)

      none : t.sent ≡ sent_more t.sent 0
      none = sym (none_more t.sent g.state_long.sent)

      go : Dec (q.kind ≡ 1) → Dec (q.kind ≡ 2) → moved f t q ≡ prices_left f t places from to q
      go (yes e) _ = by_out _ _ _ _ (prices_sent_out (tallies_of f places) width from to (passing f q) t.known t.price_transit t.working q.kind q.first q.second e) (prices_sent e)
      go (no n) (yes e) =
          by_out _ _ _ 0 (own_multiplied_out (tallies_of f places) width from to (passing f q) t.known t.price_transit t.working q.kind q.first q.second e)
          (own_multiplied e ∙ tables_eq _ _ refl refl refl refl refl refl none)
      go (no n) (no m) =
          let e : q.kind ≡ 3 = omega (arith, g.kind_from) in
          by_out _ _ _ 0 (prices_received_out (tallies_of f places) width from to (passing f q) t.known t.price_transit t.working q.kind q.first q.second e)
          (prices_received e ∙ tables_eq _ _ refl refl refl refl refl refl none)

  -- Kinds 4 to 6: what it says is left on the side of totals.
  pub totals_moved : 4 ≤ q.kind → moved f t q ≡ totals_left f t from to listed q
  unfolding state_lengths
  totals_moved many = go (ℕ_discrete q.kind 4) (ℕ_discrete q.kind 5)
    where
      by_out : (working transit statement : List ℤ) (more : ℕ) →
          TotalStepOut from to width listed t.working t.total_transit t.statement q.kind working transit statement more →
          moved f t q ≡ state_tables t.known t.price_transit working transit statement (marks_left f t q) (sent_more t.sent more) → moved f t q ≡ totals_left f t from to listed q
      by_out working transit statement more o e = e ∙ tables_eq _ _ refl refl o.working_is o.transit_is o.statement_is refl (ap (sent_more t.sent) o.sent_is)

      none : t.sent ≡ sent_more t.sent 0
      none = sym (none_more t.sent g.state_long.sent)

      go : Dec (q.kind ≡ 4) → Dec (q.kind ≡ 5) → moved f t q ≡ totals_left f t from to listed q
      go (yes e) _ =
          by_out _ _ _ _ (totals_sent_out from to width listed t.working t.total_transit t.statement q.kind e) (totals_sent e)
      go (no n) (yes e) =
          by_out _ _ _ 0 (own_added_out from to width listed t.working t.total_transit t.statement q.kind e)
          (own_added e ∙ tables_eq _ _ refl refl refl refl refl refl none)
      go (no n) (no m) =
          let e : q.kind ≡ 6 = omega (arith, g.kind_to) in
          by_out _ _ _ 0 (totals_received_out from to width listed t.working t.total_transit t.statement q.kind e)
          (totals_received e ∙ tables_eq _ _ refl refl refl refl refl refl none)
