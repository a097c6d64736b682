-- The steps of an order, one after the other: what each turn finds and leaves. Assumes nothing.
use mathlib.Core.Path.{◌≡◌, refl, sym, ap, ap₂, ◌∙◌, subst}
use mathlib.Core.Bool.{Bool, true, false}
use mathlib.Core.List.{List, [], ◌∷◌, ◌++◌}
use Prim.Native.Nat.{ℕ, suc, ◌+◌, ◌*◌, ◌/◌, ◌%◌, ◌≤◌, ◌<◌}
use native.Mathlib.Omega.{arith}
use native.Mathlib.Nat.{div-lt_iff_lt-mul, mod-lt}
use lib.Dec.{leb}
use lib.ListN.{length, get_or}
use lib.Seq.{get_or-set_same}
use lib.IntN.{pos}
use borrow.Author.Tests.{le-leb, leb-true, leb-false}
use Rattle.laws.specs.Lists.{list_words}
use Rattle.laws.specs.Tables.{overwrite, recell}
use Rattle.laws.proofs.Bools.{split, and_true}
use Rattle.laws.proofs.Tables.{word_in_lem, get_d_overwrite, long_overwrite, length_overwrite}
use Rattle.model.specs.Job.{Job}
use Rattle.model.specs.Steps.{Kind, kind_of, Steps, Step, State, step_at, permitted, fresh, effect, effect_of}
use Rattle.model.specs.Tables.{JobTables, job_of, with_lists, evening_of, StateTables, view, store, job_lengths, job_short}
use Rattle.model.specs.Handed.{Handed}
use Rattle.model.specs.Step.{Asked, asked, is_kind, moved, fresh_tables}
use Rattle.model.specs.Words.{over, messages_of}
use Rattle.model.specs.Run.{after_steps}
use Rattle.model.specs.Boxes.{Sound}
use Rattle.model.specs.PackedTotals.{totals_length, pack_totals, spread}
use Rattle.step_apply.specs.Apply.{sent_more, prices_of}
use Rattle.run_fresh.specs.Fresh.{own_prices, FreshPrices, FreshTotals}
use Rattle.step_places.specs.Order.{steps_in, mark_all, no_steps}
use Rattle.run_steps.specs.All.{head_of, Looked, StepIn, StepOut, AllIn, after_order, Holds, AllOut}
use Rattle.model.proofs.Core.{permit}
use Rattle.model.proofs.Reach.{effect_done, sound_fresh, sound_effect}
use Rattle.model.proofs.Step.{job_in_lem, range, evening_range, limits, under_at}
use Rattle.model.proofs.Lent.{job_long, store-store}
use Rattle.model.proofs.Served.{within}
use Rattle.model.proofs.PriceLists.{same_steps_lem}
use Rattle.model.proofs.PackedTotals.{pack_over}
use Rattle.step_apply.proofs.Found.{spans_in}
use Rattle.step_totals.proofs.Effect.{tallies_of}
use Rattle.step_apply.proofs.Given.{Given, given, price_step_in, total_step_in}
use Rattle.step_apply.proofs.Moved.{prices_left, totals_left, prices_moved, totals_moved}
use Rattle.run_fresh.proofs.Made.{fresh_is}
use Rattle.step_places.proofs.Orders.{steps_length, steps_next}
use Rattle.step_places.proofs.Sends.{sends_few}
use Rattle.run_steps.proofs.Way.{OnWay, stored_view, stored_way, way_boxes, prices_apply, totals_apply, some_box}

-- The state after steps, and one more; and the steps that it marks.
after_snoc : (j : Job) (s : State) (xs : List Step) (x : Step) → after_steps j s (xs ++ (x ∷ [])) ≡ effect_of j (after_steps j s xs) x
unfolding after_steps
after_snoc j s [] x = refl
after_snoc j s (y ∷ ys) x = after_snoc j (effect_of j s y) ys x

pub after_marks : (j : Job) (s : State) (xs : List Step) → (after_steps j s xs).done ≡ mark_all s.done xs
unfolding after_steps mark_all
after_marks j s [] = refl
after_marks j s (x ∷ xs) = after_marks j (effect_of j s x) xs ∙ ap (λ (d : Steps). mark_all d xs) (effect_done j s x.kind x.first x.second)

over_snoc : (xs : List Step) (x : Step) → over messages_of (xs ++ (x ∷ [])) ≡ over messages_of xs + messages_of x.kind x.first x.second
unfolding over
over_snoc [] x = omega arith
over_snoc (y ∷ ys) x = omega (arith, over_snoc ys x)

-- The count of words sent, as it is written.
store_sent : (j : Job) (s : State) (t : StateTables) → get_or (store j s t).sent 0 0 ≡ s.sent
unfolding store
store_sent j s t = get_d_overwrite 1 (λ i. s.sent) t.sent 0 0 (omega arith)

sent_there : (j : Job) (s : State) (t : StateTables) → 1 ≤ length (store j s t).sent
unfolding store
sent_there j s t = long_overwrite 1 (λ i. s.sent) t.sent

-- A step of the state s, whose tables are written over t.
module _ (f : JobTables) (ok : Handed f) (long : job_short f (job_lengths f) ≡ false) (t : StateTables) (tlinks places offer_heads offers heads grocers : List ℕ)
    (look : Looked f tlinks places offer_heads offers heads grocers)
    (s : State) (o : Sound (evening_of f) s) (kind a b : ℕ) (k : is_kind kind ≡ true) (p : permitted (evening_of f) s.done (kind_of kind) a b ≡ true) where
  -- The tables that hold it, and what is asked.
  abbrev held : StateTables
  held = store (evening_of f) s t

  abbrev ask : Asked
  ask = asked kind a b

  abbrev next : State
  next = effect (evening_of f) s (kind_of kind) a b

  held_view : view (evening_of f) held ≡ s
  held_view = stored_view f ok long t held s o refl

  held_way : OnWay f held
  held_way = stored_way f ok long t held s o refl

  may : permitted (evening_of f) (view (evening_of f) held).done (kind_of kind) a b ≡ true
  may = rw held_view p

  -- Where its list begins and ends: of offers,
  abbrev first : ℕ
  first = get_or offer_heads (head_of kind a b) 0

  abbrev last : ℕ
  last = get_or offer_heads (head_of kind a b + 1) 0

  -- and of totals.
  abbrev from : ℕ
  from = get_or heads (head_of kind a b) 0

  abbrev to : ℕ
  to = get_or heads (head_of kind a b + 1) 0

  price_facts : kind ≤ 3 → Given f held places first last offers ask
  price_facts small = given f held places first last offers ask (prices_apply f held held_way kind a b k may tlinks places offer_heads offers heads grocers look small)

  total_facts : 3 < kind → Given f held places from to grocers ask
  total_facts large = given f held places from to grocers ask (totals_apply f held held_way kind a b k may tlinks places offer_heads offers heads grocers look large)

  head_few : head_of kind a b + 1 < f.boxes * 18
  unfolding head_of
  head_few =
      let w = way_boxes f held held_way kind a b k may in
      let i = spans_in f kind a b w.0 w.1 in
      omega (arith, i.0, i.1, (job_in_lem f ok.inside).boxes≤)

  moved_is : store (evening_of f) next t ≡ moved f held ask
  unfolding moved
  moved_is = sym (ap (λ (u : State). store (evening_of f) (effect (evening_of f) u (kind_of kind) a b) held) held_view ∙ store-store (evening_of f) next s t)

  -- One message more.
  sent_more_lem : (more : ℕ) → get_or (sent_more held.sent more) 0 0 ≡ s.sent + more
  sent_more_lem more = get_or-set_same held.sent 0 _ 0 (sent_there (evening_of f) s t) ∙ ap (λ (n : ℕ). n + more) (store_sent (evening_of f) s t)

  -- The tables as they are, which hold it.
  module _ (t₁ : StateTables) (h : Holds (evening_of f) s t t₁) where
    step_in : StepIn (tallies_of f places) f.lists tlinks offer_heads offers heads grocers t₁.known t₁.price_transit t₁.working t₁.total_transit t₁.statement kind a b
    step_in = record {
      lists_in = (job_in_lem f ok.inside).lists≤;
      head_in = omega (arith, head_few, (job_in_lem f ok.inside).boxes≤);
      offer_head_in = omega (arith, head_few, look.offer_heads_long);
      total_head_in = omega (arith, head_few, look.heads_long);
      price_side = λ small. rw (h.known, h.price_transit, h.working) (price_step_in f held places first last offers ask (price_facts small) tlinks look.tallies_linked small);
      total_side = λ large. rw (h.working, h.total_transit, h.statement) (total_step_in f held places from to grocers ask (total_facts large) large);
    }

    module _ (t₂ : StateTables) (more : ℕ) (out : StepOut (tallies_of f places) f.lists (prices_of (job_of f) kind a b) offer_heads heads grocers t₁ t₂ kind a b more) where
      -- On the side of prices,
      module _ (small : kind ≤ 3) where
        prices_left_lem : store (evening_of f) next t ≡ prices_left f held places first last ask
        prices_left_lem = moved_is ∙ prices_moved f held places first last offers ask (price_facts small) small

        price_holds : Holds (evening_of f) next t t₂
        price_holds =
            let w = out.price_side small in
            record {
              known = (rw (h.known, h.price_transit) at w.0.known_is) ∙ sym (ap (λ (u : StateTables). u.known) prices_left_lem);
              price_transit = (rw (h.known, h.price_transit) at w.0.transit_is) ∙ sym (ap (λ (u : StateTables). u.price_transit) prices_left_lem);
              working = (rw (h.known, h.price_transit, h.working) at w.0.working_is) ∙ sym (ap (λ (u : StateTables). u.working) prices_left_lem);
              total_transit = w.1 ∙ h.total_transit ∙ sym (ap (λ (u : StateTables). u.total_transit) prices_left_lem);
              statement = w.2 ∙ h.statement ∙ sym (ap (λ (u : StateTables). u.statement) prices_left_lem);
            }

        price_sent_lem : s.sent + more ≡ next.sent
        price_sent_lem =
            sym (sent_more_lem more)
            ∙ ap (λ (n : ℕ). get_or (sent_more held.sent n) 0 0) (out.price_side small).0.sent_is
            ∙ sym (ap (λ (u : StateTables). get_or u.sent 0 0) prices_left_lem)
            ∙ store_sent (evening_of f) next t

      -- and on the side of totals.
      module _ (large : 3 < kind) where
        totals_left_lem : store (evening_of f) next t ≡ totals_left f held from to grocers ask
        totals_left_lem = moved_is ∙ totals_moved f held places from to grocers ask (total_facts large) large

        total_holds : Holds (evening_of f) next t t₂
        total_holds =
            let w = out.total_side large in
            record {
              known = w.1 ∙ h.known ∙ sym (ap (λ (u : StateTables). u.known) totals_left_lem);
              price_transit = w.2 ∙ h.price_transit ∙ sym (ap (λ (u : StateTables). u.price_transit) totals_left_lem);
              working = (rw h.working at w.0.working_is) ∙ sym (ap (λ (u : StateTables). u.working) totals_left_lem);
              total_transit = (rw (h.working, h.total_transit) at w.0.transit_is) ∙ sym (ap (λ (u : StateTables). u.total_transit) totals_left_lem);
              statement = (rw (h.working, h.total_transit, h.statement) at w.0.statement_is) ∙ sym (ap (λ (u : StateTables). u.statement) totals_left_lem);
            }

        total_sent_lem : s.sent + more ≡ next.sent
        total_sent_lem =
            sym (sent_more_lem more)
            ∙ ap (λ (n : ℕ). get_or (sent_more held.sent n) 0 0) (out.total_side large).0.sent_is
            ∙ sym (ap (λ (u : StateTables). get_or u.sent 0 0) totals_left_lem)
            ∙ store_sent (evening_of f) next t

-- The turn i of an order.
module _ (f : JobTables) (t : StateTables) (needs sharers order : List ℕ) (n : ℕ) (g : AllIn f t needs sharers order n) where
  abbrev job : Job
  job = evening_of f

  -- At the first turn the state is fresh.
  first_sound : Sound job (after_order job 0 order)
  unfolding after_order steps_in after_steps
  first_sound = sound_fresh job

  first_out : (t₁ : StateTables) → Holds job (fresh job) t t₁ → AllOut job t t₁ order 0 0 0
  unfolding after_order steps_in after_steps fresh over
  first_out t₁ h = record { holds = h; words_are = refl; messages_are = refl }

  -- What making the tables fresh requires.
  pub prices_fresh : FreshPrices f.boxes f.offers f.lists f.price f.offer_owner t.known t.price_transit
  unfolding job_of job_lengths
  prices_fresh =
      let l = job_long f (job_lengths f) g.job_long in
      record {
        boxes≤ = (range f g.job_in_lem.inside).boxes≤;
        offers≤ = (limits f g.job_in_lem.inside).offers≤;
        lists≤ = (job_in_lem f g.job_in_lem.inside).lists≤;
        price_long = l.price;
        owner_long = l.offer_owner;
        owner< = λ o h. rw (word_in_lem f.offers f.offer_owner 0 o h) at ((range f g.job_in_lem.inside).owner< o h);
        known_long = g.known_long_lem;
        transit_long = g.transit_long_lem;
      }

  pub totals_fresh : (words : ℕ) → words ≡ totals_length job → FreshTotals words (list_words f.lists f.grocers) t.working t.total_transit t.statement
  totals_fresh words e = record { working_long = omega (arith, g.working_long_lem); transit_long = omega (arith, g.totals_long); statement_long = g.statement_long_lem }

  -- The word of turn i is a place.
  pub turn_place : (i : ℕ) → i < n → (i < 1536) × (1 ≤ f.boxes) × (f.boxes ≤ 16) × (get_or order i 0 < 6 * f.boxes * f.boxes)
  unfolding job_of
  turn_place i l = (omega (arith, g.does.few), some_box f g.job_in_lem, (range f g.job_in_lem.inside).boxes≤, under_at (6 * f.boxes * f.boxes) n order i g.does.places_in l)

  module _ (i : ℕ) (l : i < n) (o : Sound job (after_order job i order)) (kind a b : ℕ)
      (ek : kind ≡ suc (get_or order i 0 / f.boxes / f.boxes)) (ea : a ≡ get_or order i 0 / f.boxes % f.boxes) (eb : b ≡ get_or order i 0 % f.boxes) where
    -- The state, and the place of the step.
    abbrev s : State
    s = after_order job i order

    abbrev place : ℕ
    place = get_or order i 0

    one_box_lem : 1 ≤ f.boxes
    one_box_lem = some_box f g.job_in_lem

    place< : place < 6 * f.boxes * f.boxes
    place< = (turn_place i l).3

    kind< : place / f.boxes / f.boxes < 6
    kind< = (div-lt_iff_lt-mul one_box_lem).1 ((div-lt_iff_lt-mul one_box_lem).1 place<)

    turn_kind : is_kind kind ≡ true
    unfolding is_kind
    turn_kind = rw ek (and_true (le-leb 1 (suc (place / f.boxes / f.boxes)) (omega arith)) (le-leb (suc (place / f.boxes / f.boxes)) 6 (omega (arith, kind<))))

    turn_between : (1 ≤ kind) × (kind ≤ 6)
    turn_between = (omega (arith, ek), omega (arith, ek, kind<))

    step_is : step_at f.boxes place ≡ record { kind = kind_of kind; first = a; second = b }
    unfolding step_at
    step_is = rw (ek, ea, eb)

    s_marks : s.done ≡ mark_all no_steps (steps_in f.boxes i order)
    unfolding after_order fresh with_lists spread job_of
    s_marks = after_marks job (fresh job) (steps_in f.boxes i order)

    turn_permitted : permitted job s.done (kind_of kind) a b ≡ true
    unfolding job_of
    turn_permitted = ap (λ (may : Steps → Kind → ℕ → ℕ → Bool). may s.done (kind_of kind) a b) (same_steps_lem f).permits ∙ rw s_marks (rw step_is at (g.does.in_turn_lem i l))

    -- The state after it.
    next_is : effect job s (kind_of kind) a b ≡ after_order job (i + 1) order
    unfolding after_order with_lists spread job_of
    next_is =
        sym (ap (after_steps job (fresh job)) (steps_next f.boxes i order (omega (arith, g.does.long)))
        ∙ after_snoc job (fresh job) (steps_in f.boxes i order) (step_at f.boxes place)
        ∙ ap (effect_of job s) step_is)

    turn_sound : Sound job (after_order job (i + 1) order)
    turn_sound = rw next_is at (sound_effect job (evening_range f g.job_in_lem.inside) s (kind_of kind) a b o (permit job s.done (kind_of kind) a b turn_permitted))

    module _ (t₁ : StateTables) (words messages : ℕ) (r : AllOut job t t₁ order i words messages) (tlinks places offer_heads offers heads grocers : List ℕ) (look : Looked f tlinks places offer_heads offers heads grocers) where
      pub turn_in : StepIn (tallies_of f places) f.lists tlinks offer_heads offers heads grocers t₁.known t₁.price_transit t₁.working t₁.total_transit t₁.statement kind a b
      turn_in = step_in f g.job_in_lem g.job_long t tlinks places offer_heads offers heads grocers look s o kind a b turn_kind turn_permitted t₁ r.holds

      module _ (t₂ : StateTables) (more : ℕ) (out : StepOut (tallies_of f places) f.lists (prices_of (job_of f) kind a b) offer_heads heads grocers t₁ t₂ kind a b more) where
        turn_holds : Holds job (effect job s (kind_of kind) a b) t t₂
        turn_holds =
            split (leb kind 3)
            (λ e. price_holds f g.job_in_lem g.job_long t tlinks places offer_heads offers heads grocers look s o kind a b turn_kind turn_permitted t₁ r.holds t₂ more out (leb-true kind 3 e))
            (λ e. total_holds f g.job_in_lem g.job_long t tlinks places offer_heads offers heads grocers look s o kind a b turn_kind turn_permitted t₁ r.holds t₂ more out (leb-false kind 3 e))

        turn_sent : s.sent + more ≡ (effect job s (kind_of kind) a b).sent
        turn_sent =
            split (leb kind 3)
            (λ e. price_sent_lem f g.job_in_lem g.job_long t tlinks places offer_heads offers heads grocers look s o kind a b turn_kind turn_permitted t₁ r.holds t₂ more out (leb-true kind 3 e))
            (λ e. total_sent_lem f g.job_in_lem g.job_long t tlinks places offer_heads offers heads grocers look s o kind a b turn_kind turn_permitted t₁ r.holds t₂ more out (leb-false kind 3 e))

        words_next : words + more ≡ (after_order job (i + 1) order).sent
        words_next = ap (λ (w : ℕ). w + more) r.words_are ∙ turn_sent ∙ ap (λ (u : State). u.sent) next_is

        -- The counts are small,
        pub words_few : words + more ≤ 1_000_000
        words_few = omega (arith, words_next, (within f g.job_in_lem.inside t (after_order job (i + 1) order) turn_sound).sent≤)

        pub messages_few : messages ≤ 1536
        unfolding with_lists spread job_of
        messages_few = omega (arith, r.messages_are, sends_few (steps_in f.boxes i order), steps_length f.boxes i order (omega (arith, g.does.long)), g.does.few)

        -- and the turn leaves what it should.
        pub turn_out : (words' messages' : ℕ) → words' ≡ words + more → messages' ≡ messages + messages_of (kind_of kind) a b → AllOut job t t₂ order (i + 1) words' messages'
        unfolding with_lists spread job_of
        turn_out words' messages' ew em = record {
          holds = rw next_is at turn_holds;
          words_are = ew ∙ words_next;
          messages_are = em
              ∙ ap₂ ◌+◌ r.messages_are (ap (λ (x : Step). messages_of x.kind x.first x.second) (sym step_is))
              ∙ sym (over_snoc (steps_in f.boxes i order) (step_at f.boxes place))
              ∙ ap (over messages_of) (sym (steps_next f.boxes i order (omega (arith, g.does.long))));
        }

-- Tables that hold a state are as long as those that it was written over.
module _ (f : JobTables) (t : StateTables) (needs sharers order : List ℕ) (n : ℕ) (g : AllIn f t needs sharers order n) (s : State) (t₁ : StateTables) (h : Holds (evening_of f) s t t₁) where
  -- The words of a row of prices.
  abbrev words : ℕ
  words = list_words f.lists f.offers

  pub known_length : length t₁.known ≡ length t.known
  unfolding store recell with_lists spread job_of
  known_length = ap length h.known ∙ length_overwrite (f.boxes * words) (λ i. s.known (i / words) (i % words)) t.known g.known_long_lem

  pub transit_length : length t₁.price_transit ≡ length t.price_transit
  unfolding store recell with_lists spread job_of
  transit_length = ap length h.price_transit ∙ length_overwrite (f.boxes * words) (λ i. s.price_transit (i / words) (i % words)) t.price_transit g.transit_long_lem

  pub working_length : length t₁.working ≡ length t.working
  unfolding store
  working_length = ap length (h.working ∙ pack_over (evening_of f) s.working t.working) ∙ length_overwrite (totals_length (evening_of f)) _ t.working g.working_long_lem

  pub totals_length_lem : length t₁.total_transit ≡ length t.total_transit
  unfolding store
  totals_length_lem = ap length (h.total_transit ∙ pack_over (evening_of f) s.total_transit t.total_transit) ∙ length_overwrite (totals_length (evening_of f)) _ t.total_transit g.totals_long

  pub statement_length : length t₁.statement ≡ length t.statement
  unfolding store with_lists spread job_of
  statement_length = ap length h.statement ∙ length_overwrite (list_words f.lists f.grocers) s.statement t.statement g.statement_long_lem

-- The tables that are made fresh hold the fresh state: so many words of packed totals are 0.
pub fresh_holds : (f : JobTables) (t t₁ : StateTables) (words : ℕ) → words ≡ totals_length (evening_of f) → totals_length (evening_of f) ≤ length t.working → totals_length (evening_of f) ≤ length t.total_transit →
    t₁.known ≡ own_prices f.boxes f.offers f.lists f.price f.offer_owner t.known → t₁.price_transit ≡ overwrite (f.boxes * (f.offers * suc f.lists)) (λ i. 0) t.price_transit →
    t₁.working ≡ overwrite words (λ i. pos 0) t.working → t₁.total_transit ≡ overwrite words (λ i. pos 0) t.total_transit →
    t₁.statement ≡ overwrite (list_words f.lists f.grocers) (λ i. pos 0) t.statement → Holds (evening_of f) (fresh (evening_of f)) t t₁
unfolding fresh_tables
fresh_holds f t t₁ words packed lw lt ek ep ew et es =
    let e = fresh_is f t lw lt in
    record {
      known = ek ∙ ap (λ (u : StateTables). u.known) e;
      price_transit = ep ∙ ap (λ (u : StateTables). u.price_transit) e;
      working = ew ∙ ap (λ (x : ℕ). overwrite x (λ i. pos 0) t.working) packed ∙ ap (λ (u : StateTables). u.working) e;
      total_transit = et ∙ ap (λ (x : ℕ). overwrite x (λ i. pos 0) t.total_transit) packed ∙ ap (λ (u : StateTables). u.total_transit) e;
      statement = es ∙ ap (λ (u : StateTables). u.statement) e;
    }

-- A state written over tables that another was written over.
module _ (f : JobTables) (r s : State) (t t₁ t₂ : StateTables) (h : Holds (evening_of f) r t t₁) where
  holds-over : Holds (evening_of f) s t₁ t₂ → Holds (evening_of f) s t t₂
  unfolding store
  holds-over k =
      let e = store-store (evening_of f) s r t in
      record {
        known = k.known ∙ ap (recell (evening_of f).boxes (evening_of f).offers s.known) h.known ∙ ap (λ (u : StateTables). u.known) e;
        price_transit = k.price_transit ∙ ap (recell (evening_of f).boxes (evening_of f).offers s.price_transit) h.price_transit ∙ ap (λ (u : StateTables). u.price_transit) e;
        working = k.working ∙ ap (pack_totals (evening_of f) s.working) h.working ∙ ap (λ (u : StateTables). u.working) e;
        total_transit = k.total_transit ∙ ap (pack_totals (evening_of f) s.total_transit) h.total_transit ∙ ap (λ (u : StateTables). u.total_transit) e;
        statement = k.statement ∙ ap (overwrite (evening_of f).grocers s.statement) h.statement ∙ ap (λ (u : StateTables). u.statement) e;
      }

-- A state that tables hold, written over them once more.
holds_own : (f : JobTables) (s : State) (t t₁ : StateTables) → Holds (evening_of f) s t t₁ → Holds (evening_of f) s t₁ t₁
unfolding store
holds_own f s t t₁ h =
    let e = store-store (evening_of f) s s t in
    record {
      known = h.known ∙ sym (ap (λ (u : StateTables). u.known) e) ∙ ap (recell (evening_of f).boxes (evening_of f).offers s.known) (sym h.known);
      price_transit = h.price_transit ∙ sym (ap (λ (u : StateTables). u.price_transit) e) ∙ ap (recell (evening_of f).boxes (evening_of f).offers s.price_transit) (sym h.price_transit);
      working = h.working ∙ sym (ap (λ (u : StateTables). u.working) e) ∙ ap (pack_totals (evening_of f) s.working) (sym h.working);
      total_transit = h.total_transit ∙ sym (ap (λ (u : StateTables). u.total_transit) e) ∙ ap (pack_totals (evening_of f) s.total_transit) (sym h.total_transit);
      statement = h.statement ∙ sym (ap (λ (u : StateTables). u.statement) e) ∙ ap (overwrite (evening_of f).grocers s.statement) (sym h.statement);
    }

-- What holds at turn i: t₀ are the tables before the first turn, t₁ those at this one.
pub record Turning (f : JobTables) (t₀ t₁ : StateTables) (needs sharers order : List ℕ) (n i words messages : ℕ) : Type 0 where
  pub all : AllIn f t₀ needs sharers order n
  pub sound : Sound (evening_of f) (after_order (evening_of f) i order)
  pub out : AllOut (evening_of f) t₀ t₁ order i words messages

-- The first turn, on tables that are made fresh.
pub turning_first : (f : JobTables) (t t₁ : StateTables) (needs sharers order : List ℕ) (n : ℕ) → AllIn f t needs sharers order n → Holds (evening_of f) (fresh (evening_of f)) t t₁ →
    Turning f t₁ t₁ needs sharers order n 0 0 0
turning_first f t t₁ needs sharers order n g h = record { all = all; sound = first_sound f t₁ needs sharers order n all; out = first_out f t₁ needs sharers order n all t₁ (holds_own f (fresh (evening_of f)) t t₁ h) }
  where
    all : AllIn f t₁ needs sharers order n
    all = record {
      job_in_lem = g.job_in_lem;
      job_long = g.job_long;
      known_long_lem = rw (known_length f t needs sharers order n g _ t₁ h) g.known_long_lem;
      transit_long_lem = rw (transit_length f t needs sharers order n g _ t₁ h) g.transit_long_lem;
      working_long_lem = rw (working_length f t needs sharers order n g _ t₁ h) g.working_long_lem;
      totals_long = rw (totals_length_lem f t needs sharers order n g _ t₁ h) g.totals_long;
      statement_long_lem = rw (statement_length f t needs sharers order n g _ t₁ h) g.statement_long_lem;
      needs_are = g.needs_are;
      sharers_are = g.sharers_are;
      does = g.does;
    }

-- The last turn: the tables hold the state after all steps, written over those of the call.
pub turning_last : (f : JobTables) (t t₀ t₁ : StateTables) (needs sharers order : List ℕ) (n i words messages : ℕ) → Holds (evening_of f) (fresh (evening_of f)) t t₀ →
    Turning f t₀ t₁ needs sharers order n i words messages → i ≡ n → AllOut (evening_of f) t t₁ order n words messages
turning_last f t t₀ t₁ needs sharers order n i words messages h w e =
    let r = subst (λ (x : ℕ). AllOut (evening_of f) t₀ t₁ order x words messages) e w.out in
    record { holds = holds-over f (fresh (evening_of f)) _ t t₀ t₁ h r.holds; words_are = r.words_are; messages_are = r.messages_are }

-- A turn more.
pub up : (i n : ℕ) → i < n → i + 1 ≤ n
up i n l = omega arith

-- A turn: the step of its word, told by the numbers kind, a and b.
module _ (f : JobTables) (t₀ t₁ : StateTables) (needs sharers order : List ℕ) (n i words messages : ℕ) (w : Turning f t₀ t₁ needs sharers order n i words messages) (l : i < n) (kind a b : ℕ)
    (e : (kind ≡ suc (get_or order i 0 / f.boxes / f.boxes)) × (a ≡ get_or order i 0 / f.boxes % f.boxes) × (b ≡ get_or order i 0 % f.boxes)) where
  -- Its boxes are there.
  pub turn_boxes : (a < f.boxes) × (b < f.boxes)
  turn_boxes = let p = (turn_place f t₀ needs sharers order n w.all i l).1 in (rw e.1 (mod-lt _ p), rw e.2 (mod-lt _ p))

  -- Its kind is one of six, and it may be done.
  kind_between : (1 ≤ kind) × (kind ≤ 6)
  kind_between = turn_between f t₀ needs sharers order n w.all i l w.sound kind a b e.0 e.1 e.2

  module _ (tlinks places offer_heads offers heads grocers : List ℕ) (look : Looked f tlinks places offer_heads offers heads grocers) where
    pub may_step : StepIn (tallies_of f places) f.lists tlinks offer_heads offers heads grocers t₁.known t₁.price_transit t₁.working t₁.total_transit t₁.statement kind a b
    may_step = turn_in f t₀ needs sharers order n w.all i l w.sound kind a b e.0 e.1 e.2 t₁ words messages w.out tlinks places offer_heads offers heads grocers look

    -- Where it is done,
    module _ (t₂ : StateTables) (more : ℕ) (out : StepOut (tallies_of f places) f.lists (prices_of (job_of f) kind a b) offer_heads heads grocers t₁ t₂ kind a b more) where
      -- the counts fit their numbers,
      pub counts_fit : (1 ≤ kind) × (kind ≤ 6) × (words + more < 4_294_967_296) × (messages < 4_294_967_295)
      counts_fit = (
        kind_between.0,
        kind_between.1,
        omega (arith, words_few f t₀ needs sharers order n w.all i l w.sound kind a b e.0 e.1 e.2 t₁ words messages w.out tlinks places offer_heads offers heads grocers look t₂ more out),
        omega (arith, messages_few f t₀ needs sharers order n w.all i l w.sound kind a b e.0 e.1 e.2 t₁ words messages w.out tlinks places offer_heads offers heads grocers look t₂ more out),
      )

      -- and the next turn begins.
      pub turning_next : (words' messages' : ℕ) → words' ≡ words + more → ((a b : ℕ) → messages' ≡ messages + messages_of (kind_of kind) a b) → Turning f t₀ t₂ needs sharers order n (i + 1) words' messages'
      turning_next words' messages' ew em = record {
        all = w.all;
        sound = turn_sound f t₀ needs sharers order n w.all i l w.sound kind a b e.0 e.1 e.2;
        out = turn_out f t₀ needs sharers order n w.all i l w.sound kind a b e.0 e.1 e.2 t₁ words messages w.out tlinks places offer_heads offers heads grocers look t₂ more out words' messages' ew (em a b);
      }
