-- The tables that an accepted step leaves, from what its parts leave. Assumes nothing.
use mathlib.Core.Path.{◌≡◌, refl, sym, ap, subst, ◌∙◌}
use mathlib.Core.Bool.{true, cond, ◌&&◌, not}
use mathlib.Core.List.{List}
use Prim.Native.Nat.{ℕ, ◌+◌, ◌*◌, ◌<◌, ◌≤◌}
use native.Mathlib.Decide.{ℕ_discrete}
use native.Mathlib.Omega.{arith}
use lib.Dec.{eqb, ltb}
use lib.ListN.{get_or, length, set}
use lib.Ieee.{Float}
use borrow.Author.Tests.{ne_eqb, eq-eqb, ltb-true, ltb-false}
use Rattle.laws.specs.Limits.{max_sent}
use Rattle.laws.specs.Tables.{tabulate, overwrite, recell, word, cell}
use Rattle.laws.proofs.Bools.{split}
use Rattle.laws.proofs.Tables.{row_in, length_tabulate, word_in_lem, cell_at, is_recell, recell_cong, recell_cell, overwrite_one, overwrite_same}
use Rattle.model.specs.Job.{need_word, sharer_word}
use Rattle.model.specs.Ranges.{up_to}
use Rattle.model.specs.Step.{Asked, StepAnswer, accepted, refused, step_answer}
use Rattle.model.specs.Tables.{steps_done, marks_of}
use Rattle.model.specs.Steps as Money
use Rattle.model.proofs.Refusal.{refused_number}
use Rattle.step_places.specs.Marks.{MarksIn, marked}
use Rattle.step_places.specs.Message.{word_in}
use Rattle.forecast_rules.specs.Doubles.{zero+}
use Rattle.forecast_rules.specs.Lines.{part_at}
use Rattle.forecast_rules.specs.Steps.{kind_number, kind_of, mark, summed, effect}
use Rattle.forecast_rules.specs.Tables.{ForecastTables, forecast_of, StateTables, state_tables, from_marks, to_marks, view, store}
use Rattle.forecast_rules.specs.Step.{step_refusal, step_tables, moved, outcome, stepped}
use Rattle.forecast_rules.proofs.Served.{WordsIn, words_in}
use Rattle.forecast_rules.proofs.Late.{few_marks, few_sent}
use Rattle.forecast_doubles.specs.Lines.{line_lists, LinesIn, RowIn, Added}
use Rattle.forecast_doubles.specs.Moves.{Moved, Copied, Zeroed, summed_in}
use Rattle.forecast_doubles.specs.Parts.{summed_word}
use Rattle.forecast_doubles.proofs.Told.{row_is}
use Rattle.forecast_doubles.proofs.Effects.{sent_values, received_values, taken_values, sent_parts, left_parts, received_parts, taken_parts, summed_forecasts, summed_word_lem, summed_parts}
use Rattle.forecast_moves.specs.Steps.{MessageIn, ValuesMoved, PartsMoved, held_summed, held_after}
use Rattle.forecast_checks.specs.Decided.{Decided}
use Rattle.forecast_checks.proofs.Tested.{LinesWhole, lines_whole, StateWhole, state_whole}
use Rattle.forecast_checks.proofs.Asked.{by_kind, kind_from, kind_to}
use Rattle.forecast_checks.proofs.Late.{few, sent_is}
use Rattle.forecast_checks.proofs.Refused.{Entered, entered, AskedIn, asked_in, accepted_tables, accepted_rules}

-- The number of a kind is that of money's kind of the same number.
numbers : (n : ℕ) → 1 ≤ n → n ≤ 6 → kind_number (kind_of n) ≡ Money.kind_number (Money.kind_of n)
unfolding kind_number kind_of Money.kind_number Money.kind_of
numbers = by_kind (λ n. kind_number (kind_of n) ≡ Money.kind_number (Money.kind_of n)) refl refl refl refl refl refl

-- A kind by its number.
back_number : (p : Money.Kind) → kind_number (kind_of (Money.kind_number p)) ≡ Money.kind_number p
unfolding kind_number kind_of Money.kind_number
back_number Money.send_prices = refl
back_number Money.multiply_own = refl
back_number Money.receive_prices = refl
back_number Money.send_totals = refl
back_number Money.add_own = refl
back_number Money.receive_totals = refl

back_kind : (p : Money.Kind) → Money.kind_of (Money.kind_number p) ≡ p
unfolding Money.kind_number Money.kind_of
back_kind Money.send_prices = refl
back_kind Money.multiply_own = refl
back_kind Money.receive_prices = refl
back_kind Money.send_totals = refl
back_kind Money.add_own = refl
back_kind Money.receive_totals = refl

-- One mark more, told by money's kind, is one mark more of the forecast.
same_mark : (k : ℕ) (marks : List ℕ) (n a b : ℕ) → 1 ≤ n → n ≤ 6 → (p : Money.Kind) (c d : ℕ) →
    Money.mark (steps_done k marks) (Money.kind_of n) a b p c d ≡ mark (from_marks k marks) (kind_of n) a b (kind_of (Money.kind_number p)) c d
unfolding Money.mark mark from_marks
same_mark k marks n a b h l p c d = sym (rw (numbers n h l, back_number p, back_kind p))

pub done_is : (k : ℕ) (marks : List ℕ) (n a b : ℕ) → 1 ≤ n → n ≤ 6 → marked k (Money.kind_of n) a b marks ≡ to_marks k (mark (from_marks k marks) (kind_of n) a b) marks
unfolding marked to_marks
done_is k marks n a b h l = ap (λ (d : Money.Steps). marks_of k d marks) (λ i p c d. same_mark k marks n a b h l p c d i)

-- What is decided of the tables as they are seen is decided of the tables.
pub decided : (f : ForecastTables) (t seen : StateTables) (q : Asked) (needs sharers : List ℕ) (met words : ℕ) → seen ≡ t →
    Decided f seen q needs sharers met words → Decided f t q needs sharers met words
decided f t seen q needs sharers met words e y = let P : StateTables → Type 0 = λ u. Decided f u q needs sharers met words in subst P e y

-- The answer by the number of the first condition met.
module _ (f : ForecastTables) (t : StateTables) (q : Asked) where
  pub refused_by : (r : ℕ) → r ≡ step_refusal f t q → 0 < r → outcome (refused r) t ≡ stepped f t q
  unfolding stepped step_tables
  refused_by r e h =
      let n : r ≡ 0 → ⊥ = λ z. omega (arith, h, z) in
      rw (ne_eqb (step_refusal f t q) 0 (λ z. n (e ∙ z))) (ap (λ (a : StepAnswer). outcome a t) (sym (refused_number r n) ∙ ap step_answer e))

  pub accepted_by : 0 ≡ step_refusal f t q → (u : StateTables) → u ≡ moved f t q → outcome accepted u ≡ stepped f t q
  unfolding stepped step_tables step_answer
  accepted_by e u eu = rw (sym e, eu)

-- An accepted step.
module _ (f : ForecastTables) (t : StateTables) (q : Asked) (needs sharers : List ℕ) (count : ℕ) (y : Decided f t q needs sharers 0 count) where
  abbrev none : step_refusal f t q ≡ 0
  none = sym y.number_is

  passed : Entered f t
  passed = entered f t (accepted_tables f t q none)

  request : AskedIn f t q
  request = asked_in f t q 0 (accepted_rules f t q none) refl

  inside : WordsIn f
  inside = words_in f passed.inside

  lines : LinesWhole f
  lines = lines_whole f passed.whole

  long : StateWhole f.boxes f.grocers f.offers t
  long = state_whole f t passed.long

  from : 1 ≤ q.kind
  from = kind_from q.kind request.kind

  to : q.kind ≤ 6
  to = kind_to q.kind request.kind

  needing : needs ≡ tabulate 500 (need_word (forecast_of f).job)
  needing = y.needs_are refl

  sharing : sharers ≡ tabulate 255 (sharer_word (forecast_of f).job)
  sharing = y.sharers_are refl

  pub needs_long_lem : length needs ≡ 500
  needs_long_lem = rw needing (length_tabulate 500 (need_word (forecast_of f).job))

  pub sharers_long : length sharers ≡ 255
  sharers_long = rw sharing (length_tabulate 255 (sharer_word (forecast_of f).job))

  first< : q.first < 16
  first< = omega (arith, request.first<, inside.boxes≤)

  second< : q.second < 16
  second< = omega (arith, request.second<, inside.boxes≤)

  -- What the parts require.
  pub marking : MarksIn f.boxes q.kind q.first q.second t.done × (up_to 1 (6 * f.boxes * f.boxes) t.done ≡ true)
  marking = (
    record { kind_from = from; kind_to = to; boxes_in = inside.boxes≤; a_in = request.first<; b_in = request.second<; done_long = long.done },
    few_marks f t passed.state,
  )

  pub counting : ((1 ≤ length t.sent) × (get_or t.sent 0 0 ≤ max_sent)) × (count ≤ 4_000)
  counting =
      ((long.sent, few_sent f t passed.state), omega (arith, y.words_are refl, few f inside t needs sharers needing sharing (kind_of q.kind) q.first q.second))

  -- A message between the two boxes, of n offers or grocers.
  message : (n : ℕ) (owner masks : List ℕ) (x y : List Float) → n ≤ length owner → n ≤ length masks → f.boxes * n ≤ length x → f.boxes * n ≤ length y →
      MessageIn n q.first q.second owner masks x y
  message n owner masks x y lo lm lx ly = record {
    first_in = first<;
    second_in = second<;
    owner_long_lem = lo;
    mask_long_lem = lm;
    x_first = omega (arith, lx, row_in q.first f.boxes n request.first<);
    x_second = omega (arith, lx, row_in q.second f.boxes n request.second<);
    y_first = omega (arith, ly, row_in q.first f.boxes n request.first<);
    y_second = omega (arith, ly, row_in q.second f.boxes n request.second<);
  }

  pub values_in : (n : ℕ) → n ≡ f.offers → q.kind ≤ 2 →
      ((n ≤ 500) × ((q.kind ≡ 1 → ⊥) → q.kind ≡ 2)) × MessageIn n q.first q.second f.offer_owner needs t.known t.value_transit
  values_in n e h =
      rw e (
        (inside.offers≤, λ ne. omega (arith, from, h, ne)),
        message f.offers f.offer_owner needs t.known t.value_transit lines.offer_owner (rw needs_long_lem inside.offers≤) long.known long.value_transit,
      )

  grocers_long : f.grocers ≤ length sharers
  grocers_long = rw sharers_long inside.grocers≤

  pub parts_in : (m : ℕ) → m ≡ f.grocers → ((q.kind ≡ 4 → ⊥) → q.kind ≡ 5) →
      ((m ≤ 255) × ((q.kind ≡ 4 → ⊥) → q.kind ≡ 5)) × (MessageIn m q.first q.second f.grocer_owner sharers t.part t.part_transit
      × MessageIn m q.first q.second f.grocer_owner sharers t.held t.part_transit)
  parts_in m e h =
      rw e (
        (inside.grocers≤, h),
        (
          message f.grocers f.grocer_owner sharers t.part t.part_transit lines.grocer_owner grocers_long long.part long.part_transit,
          message f.grocers f.grocer_owner sharers t.held t.part_transit lines.grocer_owner grocers_long long.held long.part_transit,
        ),
      )

  pub lines_in : (n : ℕ) → n ≡ f.lines → LinesIn f.grocers f.offers n (line_lists f.line_grocer f.line_offer f.line_box f.line_rate)
  lines_in n e = rw e (record {
    grocer_long_lem = lines.line_grocer;
    offer_long_lem = lines.line_offer;
    box_long_lem = lines.line_box;
    rate_long = lines.line_rate;
    grocers = inside.line_grocer;
    offers = inside.line_offer;
  })

  pub row_of : RowIn f.grocers f.offers q.first t.part t.known
  row_of = record {
    grocers_in = inside.grocers≤;
    offers_in = inside.offers≤;
    box_in = first<;
    part_long = omega (arith, long.part, row_in q.first f.boxes f.grocers request.first<);
    known_long_lem = omega (arith, long.known, row_in q.first f.boxes f.offers request.first<);
  }

  pub own_sizes : (f.boxes ≤ 16) × ((f.grocers ≤ 255) × ((f.grocers ≤ length f.grocer_owner) × ((f.grocers ≤ length sharers) × (q.first < f.boxes))))
  own_sizes = (inside.boxes≤, (inside.grocers≤, (lines.grocer_owner, (grocers_long, request.first<))))

  pub own_tables : (f.boxes * f.grocers ≤ length t.part) × ((f.boxes * f.grocers ≤ length t.held) × (f.grocers ≤ length t.forecast))
  own_tables = (long.part, (long.held, long.forecast))

  -- Tables that a step does not touch.
  keep_known : t.known ≡ recell f.boxes f.offers (cell f.boxes f.offers t.known zero+) t.known
  keep_known = sym (recell_cell f.boxes f.offers t.known zero+ long.known)

  keep_values : t.value_transit ≡ recell f.boxes f.offers (cell f.boxes f.offers t.value_transit zero+) t.value_transit
  keep_values = sym (recell_cell f.boxes f.offers t.value_transit zero+ long.value_transit)

  keep_part : t.part ≡ recell f.boxes f.grocers (cell f.boxes f.grocers t.part zero+) t.part
  keep_part = sym (recell_cell f.boxes f.grocers t.part zero+ long.part)

  keep_transit : t.part_transit ≡ recell f.boxes f.grocers (cell f.boxes f.grocers t.part_transit zero+) t.part_transit
  keep_transit = sym (recell_cell f.boxes f.grocers t.part_transit zero+ long.part_transit)

  keep_held : t.held ≡ recell f.boxes f.grocers (cell f.boxes f.grocers t.held zero+) t.held
  keep_held = sym (recell_cell f.boxes f.grocers t.held zero+ long.held)

  keep_forecast : t.forecast ≡ overwrite f.grocers (word f.grocers t.forecast zero+) t.forecast
  keep_forecast = sym (overwrite_same f.grocers _ t.forecast zero+ long.forecast (λ g l. word_in_lem f.grocers t.forecast zero+ g l))

  -- What the marks and the count of words become.
  module _ (done' sent' : List ℕ) (ed : done' ≡ marked f.boxes (Money.kind_of q.kind) q.first q.second t.done) (es : sent' ≡ set t.sent 0 (get_or t.sent 0 0 + count)) where
    sent_told : sent' ≡ overwrite 1 (λ i. (effect (forecast_of f) (view (forecast_of f) t) (kind_of q.kind) q.first q.second).sent) t.sent
    sent_told =
        es
        ∙ ap (λ (n : ℕ). set t.sent 0 (get_or t.sent 0 0 + n)) (y.words_are refl)
        ∙ ap (λ (n : ℕ). set t.sent 0 n) (sent_is f inside t needs sharers needing sharing (kind_of q.kind) q.first q.second first< second<)
        ∙ sym (overwrite_one _ t.sent long.sent)

    done_told : done' ≡ to_marks f.boxes (mark (from_marks f.boxes t.done) (kind_of q.kind) q.first q.second) t.done
    done_told = ed ∙ done_is f.boxes t.done q.kind q.first q.second from to

    -- By a kind that the number is told to be.
    moved_as : (n : ℕ) → q.kind ≡ n → store (forecast_of f) (effect (forecast_of f) (view (forecast_of f) t) (kind_of n) q.first q.second) t ≡ moved f t q
    unfolding moved
    moved_as n e = ap (λ (k : ℕ). store (forecast_of f) (effect (forecast_of f) (view (forecast_of f) t) (kind_of k) q.first q.second) t) (sym e)

    sent_as : (n : ℕ) → q.kind ≡ n → sent' ≡ overwrite 1 (λ i. (effect (forecast_of f) (view (forecast_of f) t) (kind_of n) q.first q.second).sent) t.sent
    sent_as n e = sent_told ∙ ap (λ (k : ℕ). overwrite 1 (λ i. (effect (forecast_of f) (view (forecast_of f) t) (kind_of k) q.first q.second).sent) t.sent) e

    done_as : (n : ℕ) → q.kind ≡ n → done' ≡ to_marks f.boxes (mark (from_marks f.boxes t.done) (kind_of n) q.first q.second) t.done
    done_as n e = done_told ∙ ap (λ (k : ℕ). to_marks f.boxes (mark (from_marks f.boxes t.done) (kind_of k) q.first q.second) t.done) e

    -- 1.
    sent_out : (known' transit' : List Float) → q.kind ≡ 1 → length transit' ≡ length t.value_transit → known' ≡ t.known →
        Copied (q.first * f.offers) (q.second * f.offers) f.offers (word_in f.offer_owner needs q.first q.second) t.known t.value_transit transit' →
        state_tables known' transit' t.part t.part_transit t.held t.forecast done' sent' ≡ moved f t q
    unfolding store effect view forecast_of kind_of
    sent_out known' transit' e st ek v =
        let went = sent_values f t needs q.first q.second request.first< request.second< inside.boxes≤ inside.offers≤ needing known' transit' v long.value_transit st in
        let kept = ek ∙ keep_known in
        (λ i. state_tables (kept i) (went i) (keep_part i) (keep_transit i) (keep_held i) (keep_forecast i) (done_as 1 e i) (sent_as 1 e i)) ∙ moved_as 1 e

    -- 2.
    come_in : (known' transit' : List Float) → q.kind ≡ 2 → length known' ≡ length t.known → length transit' ≡ length t.value_transit →
        Moved (q.first * f.offers) f.offers (word_in f.offer_owner needs q.second q.first) t.value_transit t.known transit' known' →
        state_tables known' transit' t.part t.part_transit t.held t.forecast done' sent' ≡ moved f t q
    unfolding store effect view forecast_of kind_of
    come_in known' transit' e sk st v =
        let came = received_values f t needs q.second q.first request.second< request.first< inside.boxes≤ inside.offers≤ needing known' transit' v long.known sk in
        let left = taken_values f t needs q.second q.first request.second< request.first< inside.boxes≤ inside.offers≤ needing known' transit' v long.value_transit st in
        (λ i. state_tables (came i) (left i) (keep_part i) (keep_transit i) (keep_held i) (keep_forecast i) (done_as 2 e i) (sent_as 2 e i)) ∙ moved_as 2 e

    pub values_accepted : (known' transit' : List Float) (n : ℕ) → n ≡ f.offers → q.kind ≤ 2 → length known' ≡ length t.known → length transit' ≡ length t.value_transit →
        ValuesMoved n q.kind q.first q.second f.offer_owner needs t.known t.value_transit known' transit' →
        state_tables known' transit' t.part t.part_transit t.held t.forecast done' sent' ≡ moved f t q
    values_accepted known' transit' n en h sk st v =
        let u : ValuesMoved f.offers q.kind q.first q.second f.offer_owner needs t.known t.value_transit known' transit' = rw en at v in
        elim (ℕ_discrete q.kind 1) [
          | yes e ↦ sent_out known' transit' e st (u.sent e).0 (u.sent e).1
          | no e ↦ let two : q.kind ≡ 2 = omega (arith, from, h, e) in come_in known' transit' two sk st (u.received two)
        ]

    -- 3: the row of the box, and no other.
    row_added : (part' : List Float) → length part' ≡ length t.part →
        Added (line_lists f.line_grocer f.line_offer f.line_box f.line_rate) f.grocers f.offers q.first f.lines t.known t.part part' →
        part' ≡ recell f.boxes f.grocers (λ c g. cond (eqb c q.first) (part_at (forecast_of f) ((view (forecast_of f) t).known q.first) q.first g) (cell f.boxes f.grocers t.part zero+ c g)) t.part
    row_added part' sp v =
        is_recell f.boxes f.grocers _ t.part part' zero+ long.part sp
        (λ c g lc lg. elim (ℕ_discrete c q.first) [
          | yes e ↦ rw (e, eq-eqb q.first q.first refl) (v.row g lg ∙ row_is f t q.first g request.first< inside.line_offer)
          | no e ↦ rw (ne_eqb c q.first e, cell_at f.boxes f.grocers t.part zero+ c g lc lg) (other c g lg e)
        ])
        (λ p l. v.behind p (omega (arith, l, row_in q.first f.boxes f.grocers request.first<)))
      where
        other : (c g : ℕ) → g < f.grocers → (c ≡ q.first → ⊥) → get_or part' (c * f.grocers + g) zero+ ≡ get_or t.part (c * f.grocers + g) zero+
        other c g lg ne =
            split (ltb c q.first)
            (λ e. v.others (c * f.grocers + g) (omega (arith, lg, row_in c q.first f.grocers (ltb-true c q.first e))))
            (λ e. let more : q.first < c = omega (arith, ltb-false c q.first e, ne) in v.behind (c * f.grocers + g) (omega (arith, row_in q.first c f.grocers more)))

    pub lines_accepted : (part' : List Float) (n : ℕ) → n ≡ f.lines → q.kind ≡ 3 → length part' ≡ length t.part →
        Added (line_lists f.line_grocer f.line_offer f.line_box f.line_rate) f.grocers f.offers q.first n t.known t.part part' →
        state_tables t.known t.value_transit part' t.part_transit t.held t.forecast done' sent' ≡ moved f t q
    unfolding store effect view forecast_of kind_of
    lines_accepted part' n en e sp v =
        let row = row_added part' sp (rw en at v) in
        (λ i. state_tables (keep_known i) (keep_values i) (row i) (keep_transit i) (keep_held i) (keep_forecast i) (done_as 3 e i) (sent_as 3 e i)) ∙ moved_as 3 e

    -- 4.
    parts_out : (part' transit' held' : List Float) → q.kind ≡ 4 → length part' ≡ length t.part → length transit' ≡ length t.part_transit → held' ≡ t.held →
        Moved (q.first * f.grocers) f.grocers (word_in f.grocer_owner sharers q.second q.first) t.part t.part_transit part' transit' →
        state_tables t.known t.value_transit part' transit' held' t.forecast done' sent' ≡ moved f t q
    unfolding store effect view forecast_of kind_of
    parts_out part' transit' held' e sp st eh v =
        let went = sent_parts f t sharers q.second q.first request.second< request.first< inside.boxes≤ inside.grocers≤ sharing part' transit' v long.part_transit st in
        let left = left_parts f t sharers q.second q.first request.second< request.first< inside.boxes≤ inside.grocers≤ sharing part' transit' v long.part sp in
        let kept = eh ∙ keep_held in
        (λ i. state_tables (keep_known i) (keep_values i) (left i) (went i) (kept i) (keep_forecast i) (done_as 4 e i) (sent_as 4 e i)) ∙ moved_as 4 e

    -- 5.
    parts_held : (part' transit' held' : List Float) → q.kind ≡ 5 → length transit' ≡ length t.part_transit → length held' ≡ length t.held → part' ≡ t.part →
        Moved (q.second * f.grocers) f.grocers (word_in f.grocer_owner sharers q.first q.second) t.part_transit t.held transit' held' →
        state_tables t.known t.value_transit part' transit' held' t.forecast done' sent' ≡ moved f t q
    unfolding store effect view forecast_of kind_of
    parts_held part' transit' held' e st sh ep v =
        let came = received_parts f t sharers q.first q.second request.first< request.second< inside.boxes≤ inside.grocers≤ sharing transit' held' v long.held sh in
        let left = taken_parts f t sharers q.first q.second request.first< request.second< inside.boxes≤ inside.grocers≤ sharing transit' held' v long.part_transit st in
        let kept = ep ∙ keep_part in
        (λ i. state_tables (keep_known i) (keep_values i) (kept i) (left i) (came i) (keep_forecast i) (done_as 5 e i) (sent_as 5 e i)) ∙ moved_as 5 e

    pub parts_accepted : (part' transit' held' : List Float) (m : ℕ) → m ≡ f.grocers → ((q.kind ≡ 4 → ⊥) → q.kind ≡ 5) →
        length part' ≡ length t.part → length transit' ≡ length t.part_transit → length held' ≡ length t.held →
        PartsMoved m q.kind q.first q.second f.grocer_owner sharers t.part t.part_transit t.held part' transit' held' →
        state_tables t.known t.value_transit part' transit' held' t.forecast done' sent' ≡ moved f t q
    parts_accepted part' transit' held' m em five sp st sh v =
        let u : PartsMoved f.grocers q.kind q.first q.second f.grocer_owner sharers t.part t.part_transit t.held part' transit' held' = rw em at v in
        elim (ℕ_discrete q.kind 4) [
          | yes e ↦ parts_out part' transit' held' e sp st (u.sent e).0 (u.sent e).1
          | no e ↦ parts_held part' transit' held' (five e) st sh (u.received (five e)).0 (u.received (five e)).1
        ]

    -- 6: the part sums held.
    held_summed_lem : held_after f.boxes f.grocers q.first f.grocer_owner sharers t.held
        ≡ recell f.boxes f.grocers (λ c g. cond (not (eqb c q.first) && summed (forecast_of f) q.first g c) zero+ (cell f.boxes f.grocers t.held zero+ c g)) t.held
    unfolding held_after held_summed
    held_summed_lem =
        recell_cong f.boxes f.grocers _ _ t.held (λ c g lc lg.
        rw (summed_word_lem f t sharers q.first inside.boxes≤ inside.grocers≤ sharing c g (omega (arith, lc, inside.boxes≤)) lg, cell_at f.boxes f.grocers t.held zero+ c g lc lg))

    pub sums_accepted : (part' held' forecast' : List Float) → q.kind ≡ 6 → length part' ≡ length t.part →
        forecast' ≡ overwrite f.grocers (summed_word f.boxes f.grocers q.first f.grocer_owner sharers t.part t.held t.forecast) t.forecast →
        Zeroed (q.first * f.grocers) f.grocers (summed_in f.grocer_owner sharers q.first q.first) t.part part' →
        held' ≡ held_after f.boxes f.grocers q.first f.grocer_owner sharers t.held →
        state_tables t.known t.value_transit part' t.part_transit held' forecast' done' sent' ≡ moved f t q
    unfolding store effect view forecast_of kind_of
    sums_accepted part' held' forecast' e sp ef v eh =
        let a = q.first in
        let sums = ef ∙ summed_forecasts f t sharers a inside.boxes≤ inside.grocers≤ sharing in
        let parts = summed_parts f t sharers a inside.boxes≤ inside.grocers≤ sharing part' request.first< v long.part sp in
        let others = eh ∙ held_summed_lem in
        (λ i. state_tables (keep_known i) (keep_values i) (parts i) (keep_transit i) (others i) (sums i) (done_as 6 e i) (sent_as 6 e i)) ∙ moved_as 6 e
