-- Demand 3 holds of every job in range, whatever the buffers held and whatever is requested. Assumes nothing.
use mathlib.Core.Path.{◌≡◌, refl, sym, ap, ◌∙◌}
use mathlib.Core.Bool.{true, false, cond, ◌&&◌, not}
use mathlib.Core.List.{List, [], ◌∷◌, map}
use Prim.Native.Nat.{ℕ, ◌*◌, ◌<◌, ◌≤◌}
use native.Mathlib.Omega.{arith}
use lib.Dec.{eqb}
use lib.ListN.{length, get_or, length-map}
use lib.IntN.{pos}
use borrow.Author.Tests.{le-ltb}
use Rattle.laws.proofs.Tables.{get_d_overwrite, lay_in, lay_past}
use Rattle.laws.proofs.Bools.{split, and_true}
use Rattle.laws.specs.Checks.{first_met}
use Rattle.laws.specs.Tables.{lay_over}
use Rattle.laws.specs.Lists.{list_words}
use Rattle.model.specs.Job.{plain_sum}
use Rattle.model.specs.Requests.{Request, lends_short, answer_to, serve, serve_all, accepted_from, tables_after, accepted_in, done_in, answers_from, answers_in}
use Rattle.model.specs.Tables.{JobTables, evening_of, StateTables, view, store, job_short, bags_short, state_short, lent_short, totals_short, any_short}
use Rattle.model.specs.PackedTotals.{totals_length}
use Rattle.model.specs.Run.{run, run_state, reported, run_refusals, ran, finished, placed, picked_places}
use Rattle.model.specs.Ranges.{Settles}
use Rattle.model.specs.Handed.{handed_in_range}
use Rattle.model.specs.Step.{is_kind, step_of, fresh_tables, step_answer}
use Rattle.model.specs.Words.{over, words_of, owner_words, message_count, step_count, messages_of}
use Rattle.model.specs.Steps.{Step, Steps, done_by, State, has_step, fresh, effect_of, Kind, kind_number, send_prices, multiply_own, receive_prices, send_totals, add_own, receive_totals, mark, permitted, kind_of}
use Rattle.model.specs.Demand3.{AllDone, permitted_request, refusal_of, Demand3, whole_request, RunIsList, answers_by_rules, SomeStep, SomeAccepted}
use Rattle.model.specs.Boxes.{state_by_rules, Closed, Sound}
use Rattle.model.proofs.Running.{running}
use Rattle.model.proofs.Trace.{trace_sent}
use Rattle.model.proofs.Counting.{steps_number, all_of_size, size_le}
use Rattle.model.proofs.Finish.{all_steps, end_price_transit, end_total_transit, end_working, end_statement}
use Rattle.model.proofs.Lists.{marked, sound, form, closed, taken_size, all_reached, all_sends}
use Rattle.model.proofs.Progress.{progress}
use Rattle.model.proofs.Run.{run_done, run_reached, run_taken, run_length, run_sends}
use Rattle.model.proofs.EveningJob.{at_sizes}
use Rattle.model.proofs.Step.{evening_range, ok_store, totals_store}
use Rattle.model.proofs.Served.{allowed, settles_in, within, view_is, next, one_answer, one_serve, one_sound}
use Rattle.model.proofs.Words.{end_sent}
use Rattle.model.proofs.EachWord.{each_word_lem, one_price_lem, one_total_lem}
use Rattle.model.proofs.Refusal.{accepted_zero, rules_zero}
use Rattle.model.proofs.Reach.{sound_fresh, effect_done}
use Rattle.model.proofs.Machine.{kind_back, permits, attempt, attempt_all, taken, reached, done_of, size}

-- The steps that a list of requests asks for: those whose kind is one and that lend enough.
unfoldable pub asks : JobTables → List Request → List Step
asks f [] = []
asks f (r ∷ rs) = cond (not (lends_short f r) && is_kind r.asked.kind) (step_of r.asked ∷ asks f rs) (asks f rs)

-- A request is refused by number 0 just where it is permitted.
pub refusal_zero : (f : JobTables) (d : Steps) (r : Request) → eqb (refusal_of f d r) 0 ≡ permitted_request f d r
unfolding refusal_of permitted_request step_of
refusal_zero f d r =
    split (lends_short f r)
    (λ e. rw e)
    (λ e. rw e (rules_zero (evening_of f) d r.asked))

module _ (f : JobTables) (z : Settles f) (t : StateTables) where
  -- A request attempts the step that it asks for.
  one_attempt : (s : State) (r : Request) (xs : List Step) →
      attempt_all (evening_of f) s (cond (not (lends_short f r) && is_kind r.asked.kind) (step_of r.asked ∷ xs) xs) ≡ attempt_all (evening_of f) (next f z t s r) xs
  unfolding next allowed attempt_all attempt permits step_of
  one_attempt s r xs =
      split (lends_short f r)
      (λ e. rw e)
      (λ e. rw e (split (is_kind r.asked.kind) (λ k. rw k) (λ k. rw k)))

  one_taken : (s : State) (r : Request) (xs : List Step) →
      taken (evening_of f) s (cond (not (lends_short f r) && is_kind r.asked.kind) (step_of r.asked ∷ xs) xs)
      ≡ cond (permitted_request f s.done r) (step_of r.asked ∷ taken (evening_of f) (next f z t s r) xs) (taken (evening_of f) (next f z t s r) xs)
  unfolding next allowed taken attempt permits step_of permitted_request
  one_taken s r xs =
      split (lends_short f r)
      (λ e. rw e)
      (λ e. rw e (split (is_kind r.asked.kind) (λ k. rw k) (λ k. rw k)))

  all_serve : (s : State) → Sound (evening_of f) s → (rs : List Request) → serve_all f (store (evening_of f) s t) rs ≡ store (evening_of f) (attempt_all (evening_of f) s (asks f rs)) t
  unfolding serve_all asks attempt_all
  all_serve s o [] = refl
  all_serve s o (r ∷ rs) =
      ap (λ (u : StateTables). serve_all f u rs) (one_serve f z t s o r)
      ∙ all_serve (next f z t s r) (one_sound f z t s o r) rs
      ∙ ap (λ (v : State). store (evening_of f) v t) (sym (one_attempt s r (asks f rs)))

  all_accepted : (s : State) → Sound (evening_of f) s → (rs : List Request) → accepted_from f (store (evening_of f) s t) rs ≡ taken (evening_of f) s (asks f rs)
  unfolding accepted_from asks taken
  all_accepted s o [] = refl
  all_accepted s o (r ∷ rs) =
      rw (one_answer f z t s o r, accepted_zero (refusal_of f s.done r), refusal_zero f s.done r, one_serve f z t s o r, all_accepted (next f z t s r) (one_sound f z t s o r) rs)
      (sym (one_taken s r (asks f rs)))

  -- The steps done after a request.
  next_done : (s : State) (r : Request) →
      (next f z t s r).done ≡ cond (permitted_request f s.done r) (mark s.done (step_of r.asked).kind r.asked.first r.asked.second) s.done
  unfolding next allowed permitted_request step_of
  next_done s r =
      split (not (lends_short f r) && (is_kind r.asked.kind && permitted (evening_of f) s.done (kind_of r.asked.kind) r.asked.first r.asked.second))
      (λ e. rw (e, effect_done (evening_of f) s (kind_of r.asked.kind) r.asked.first r.asked.second))
      (λ e. rw e)

  all_answers : (s : State) → Sound (evening_of f) s → (rs : List Request) → answers_from f (store (evening_of f) s t) rs ≡ answers_by_rules f s.done rs
  unfolding answers_from answers_by_rules step_of
  all_answers s o [] = refl
  all_answers s o (r ∷ rs) =
      rw (one_answer f z t s o r, one_serve f z t s o r, all_answers (next f z t s r) (one_sound f z t s o r) rs, next_done s r)

  module _ (rs : List Request) where
    -- The state that the list leaves.
    reach : Sound (evening_of f) (reached (evening_of f) (asks f rs))
    reach = sound (evening_of f) (evening_range f (settles_in f z)) (asks f rs)

    pub left_is : tables_after f t rs ≡ store (evening_of f) (reached (evening_of f) (asks f rs)) t
    unfolding tables_after fresh_tables reached
    left_is = all_serve (fresh (evening_of f)) (sound_fresh (evening_of f)) rs

    pub accepted_is : accepted_in f t rs ≡ taken (evening_of f) (fresh (evening_of f)) (asks f rs)
    unfolding accepted_in fresh_tables
    accepted_is = all_accepted (fresh (evening_of f)) (sound_fresh (evening_of f)) rs

    pub done_is : done_in f t rs ≡ done_of (evening_of f) (asks f rs)
    unfolding done_in done_of
    done_is = ap done_by accepted_is

    marked_is : (reached (evening_of f) (asks f rs)).done ≡ done_in f t rs
    marked_is = marked (evening_of f) (evening_range f (settles_in f z)) (asks f rs) ∙ sym done_is

    pub view_left : view (evening_of f) (tables_after f t rs) ≡ reached (evening_of f) (asks f rs)
    view_left = ap (view (evening_of f)) left_is ∙ view_is f (settles_in f z) t (reached (evening_of f) (asks f rs)) reach

    -- The state of the list is the closed form of the steps done.
    state_is : view (evening_of f) (tables_after f t rs) ≡ state_by_rules (evening_of f) (done_in f t rs)
    state_is = view_left ∙ form (evening_of f) (evening_range f (settles_in f z)) (asks f rs) ∙ ap (state_by_rules (evening_of f)) (sym done_is)

    closed_is : Closed (evening_of f) (done_in f t rs)
    closed_is = rw done_is (closed (evening_of f) (evening_range f (settles_in f z)) (asks f rs))

    list_is : answers_in f t rs ≡ answers_by_rules f (λ k a b. false) rs
    unfolding answers_in fresh_tables fresh
    list_is = all_answers (fresh (evening_of f)) (sound_fresh (evening_of f)) rs

    answer_of_lem : (r : Request) → answer_to f (tables_after f t rs) r ≡ step_answer (refusal_of f (done_in f t rs) r)
    answer_of_lem r =
        ap (λ (u : StateTables). answer_to f u r) left_is
        ∙ one_answer f z t (reached (evening_of f) (asks f rs)) reach r
        ∙ ap (λ (d : Steps). step_answer (refusal_of f d r)) marked_is

    served_is : (r : Request) → serve f (tables_after f t rs) r ≡ store (evening_of f) (next f z t (reached (evening_of f) (asks f rs)) r) t
    served_is r = ap (λ (u : StateTables). serve f u r) left_is ∙ one_serve f z t (reached (evening_of f) (asks f rs)) reach r

    next_yes : (r : Request) → permitted_request f (done_in f t rs) r ≡ true →
        next f z t (reached (evening_of f) (asks f rs)) r ≡ effect_of (evening_of f) (reached (evening_of f) (asks f rs)) (step_of r.asked)
    unfolding next allowed permitted_request step_of
    next_yes r h = rw (marked_is, h)

    next_not : (r : Request) → permitted_request f (done_in f t rs) r ≡ false → next f z t (reached (evening_of f) (asks f rs)) r ≡ reached (evening_of f) (asks f rs)
    unfolding next allowed permitted_request step_of
    next_not r h = rw (marked_is, h)

    does_is : (r : Request) → permitted_request f (done_in f t rs) r ≡ true →
        view (evening_of f) (serve f (tables_after f t rs) r) ≡ effect_of (evening_of f) (view (evening_of f) (tables_after f t rs)) (step_of r.asked)
    does_is r h =
        ap (view (evening_of f)) (served_is r)
        ∙ view_is f (settles_in f z) t (next f z t (reached (evening_of f) (asks f rs)) r) (one_sound f z t (reached (evening_of f) (asks f rs)) reach r)
        ∙ next_yes r h
        ∙ ap (λ (s : State). effect_of (evening_of f) s (step_of r.asked)) (sym view_left)

    keeps_is : (r : Request) → permitted_request f (done_in f t rs) r ≡ false → serve f (tables_after f t rs) r ≡ tables_after f t rs
    keeps_is r h = served_is r ∙ ap (λ (s : State). store (evening_of f) s t) (next_not r h) ∙ sym left_is

    words_is : (view (evening_of f) (tables_after f t rs)).sent ≡ over (words_of (evening_of f)) (accepted_in f t rs)
    unfolding reached fresh
    words_is = ap (λ (s : State). s.sent) view_left ∙ trace_sent (evening_of f) (fresh (evening_of f)) (asks f rs) ∙ rw accepted_is (omega arith)

    size_is : size (evening_of f) (done_in f t rs) ≡ length (accepted_in f t rs)
    size_is = ap (size (evening_of f)) done_is ∙ taken_size (evening_of f) (evening_range f (settles_in f z)) (asks f rs) ∙ ap length (sym accepted_is)

    -- All done: the state is that of all steps.
    pub all_is : AllDone (evening_of f) (done_in f t rs) → view (evening_of f) (tables_after f t rs) ≡ state_by_rules (evening_of f) (has_step (evening_of f))
    all_is h = state_is ∙ ap (state_by_rules (evening_of f)) (all_steps (evening_of f) (done_in f t rs) closed_is h)

    count_is : AllDone (evening_of f) (done_in f t rs) → length (accepted_in f t rs) ≡ step_count (evening_of f)
    count_is h = sym size_is ∙ ap (size (evening_of f)) (all_steps (evening_of f) (done_in f t rs) closed_is h) ∙ steps_number (evening_of f)

    sends_is : AllDone (evening_of f) (done_in f t rs) → over messages_of (accepted_in f t rs) ≡ message_count (evening_of f)
    sends_is h = ap (over messages_of) accepted_is ∙ all_sends (evening_of f) (evening_range f (settles_in f z)) (asks f rs) (rw done_is at h)

    owner_is : AllDone (evening_of f) (done_in f t rs) → over (words_of (evening_of f)) (accepted_in f t rs) ≡ owner_words (evening_of f)
    owner_is h = sym words_is ∙ ap (λ (s : State). s.sent) (all_is h) ∙ end_sent (evening_of f) (evening_range f (settles_in f z))

-- A run's state is that of all steps.
pub run_all : (f : JobTables) → handed_in_range f ≡ true → (cs : List ℕ) → run_state (evening_of f) cs ≡ state_by_rules (evening_of f) (has_step (evening_of f))
run_all f ok cs = run_reached (evening_of f) (evening_range f ok) cs ∙ all_reached (evening_of f) (evening_range f ok) (run (evening_of f) cs) (run_done (evening_of f) (evening_range f ok) cs)

kind_named : (k : Kind) → is_kind (kind_number k) ≡ true
unfolding is_kind kind_number
kind_named send_prices = refl
kind_named multiply_own = refl
kind_named receive_prices = refl
kind_named send_totals = refl
kind_named add_own = refl
kind_named receive_totals = refl

-- A request for a step that lends of each table what it needs asks for the step.
module _ (f : JobTables) where
  whole_lends : (x : Step) → lends_short f (whole_request f x) ≡ false
  unfolding lends_short whole_request job_short bags_short state_short totals_short
  whole_lends x =
      rw (
        le-ltb (list_words f.lists f.offers) (list_words f.lists f.offers) (omega arith),
        le-ltb f.offers f.offers (omega arith),
        le-ltb f.grocers f.grocers (omega arith),
        le-ltb f.tallies f.tallies (omega arith),
        le-ltb (f.boxes * list_words f.lists f.offers) (f.boxes * list_words f.lists f.offers) (omega arith),
        le-ltb (totals_length (evening_of f)) (totals_length (evening_of f)) (omega arith),
        le-ltb (list_words f.lists f.grocers) (list_words f.lists f.grocers) (omega arith),
        le-ltb (6 * f.boxes * f.boxes) (6 * f.boxes * f.boxes) (omega arith),
      )

  whole_step : (x : Step) → step_of (whole_request f x).asked ≡ x
  unfolding step_of whole_request
  whole_step x = λ i. record { kind = kind_back x.kind i; first = x.first; second = x.second }

  whole_kind : (x : Step) → is_kind (whole_request f x).asked.kind ≡ true
  unfolding whole_request
  whole_kind x = kind_named x.kind

  pub asks_whole : (xs : List Step) → asks f (map (whole_request f) xs) ≡ xs
  unfolding asks
  asks_whole [] = refl
  asks_whole (x ∷ xs) = rw (whole_lends x, whole_kind x, whole_step x, asks_whole xs)

module _ (f : JobTables) (z : Settles f) (t : StateTables) (cs p : List ℕ) where
  run_sent : (run_state (evening_of f) cs).sent ≡ owner_words (evening_of f)
  run_sent = ap (λ (s : State). s.sent) (run_all f (settles_in f z) cs) ∙ end_sent (evening_of f) (evening_range f (settles_in f z))

  run_number : first_met (run_refusals f t) ≡ cond (any_short f t) 20 0
  unfolding run_refusals first_met any_short
  run_number = rw (z.in_range, z.once) (split (lent_short f t) (λ e. rw e) (λ e. rw e))

  ran_answer : (ran f t cs p).answer ≡ reported (cond (any_short f t) 20 0) (finished (owner_words (evening_of f)) (message_count (evening_of f)) (step_count (evening_of f)))
  unfolding ran
  ran_answer = rw (run_number, run_sent, run_sends (evening_of f) (evening_range f (settles_in f z)) cs, run_length (evening_of f) (evening_range f (settles_in f z)) cs)

  pub ran_tables : any_short f t ≡ false → (ran f t cs p).tables ≡ store (evening_of f) (run_state (evening_of f) cs) t
  unfolding ran
  ran_tables h = rw (run_number, h)

  -- The places of the steps picked lie in front of the buffer.
  ran_picked : any_short f t ≡ false → (ran f t cs p).picked ≡ lay_over (picked_places (evening_of f) cs) p
  unfolding ran
  ran_picked h = rw (run_number, h)

  picked_length : length (picked_places (evening_of f) cs) ≡ step_count (evening_of f)
  unfolding picked_places
  picked_length = length-map (run (evening_of f) cs) (placed (evening_of f)) ∙ run_length (evening_of f) (evening_range f (settles_in f z)) cs

  ran_places : any_short f t ≡ false → (i : ℕ) → i < step_count (evening_of f) → i < length p → get_or (ran f t cs p).picked i 0 ≡ get_or (picked_places (evening_of f) cs) i 0
  ran_places h i l m = rw (ran_picked h) (lay_in 0 (picked_places (evening_of f) cs) p i (omega (arith, l, picked_length)) m)

  ran_past : any_short f t ≡ false → (i : ℕ) → step_count (evening_of f) ≤ i → get_or (ran f t cs p).picked i 0 ≡ get_or p i 0
  ran_past h i l = rw (ran_picked h) (lay_past 0 (picked_places (evening_of f) cs) p i (omega (arith, l, picked_length)))

  ran_keeps : any_short f t ≡ true → ((ran f t cs p).tables ≡ t) × ((ran f t cs p).picked ≡ p)
  unfolding ran
  ran_keeps h = (rw (run_number, h), rw (run_number, h))

-- The tables that a run leaves hold the state of all steps.
run_view : (f : JobTables) → Settles f → (u : StateTables) (cs p : List ℕ) → any_short f u ≡ false →
    view (evening_of f) (ran f u cs p).tables ≡ state_by_rules (evening_of f) (has_step (evening_of f))
run_view f z u cs p n =
    ap (view (evening_of f)) (ran_tables f z u cs p n ∙ ap (λ (s : State). store (evening_of f) s u) (run_reached (evening_of f) (evening_range f (settles_in f z)) cs))
    ∙ view_is f (settles_in f z) u (reached (evening_of f) (run (evening_of f) cs)) (sound (evening_of f) (evening_range f (settles_in f z)) (run (evening_of f) cs))
    ∙ all_reached (evening_of f) (evening_range f (settles_in f z)) (run (evening_of f) cs) (run_done (evening_of f) (evening_range f (settles_in f z)) cs)

pub run_statement : (f : JobTables) → Settles f → (t : StateTables) (cs p : List ℕ) → any_short f t ≡ false → (g : ℕ) → g < list_words f.lists f.grocers →
    get_or (ran f t cs p).tables.statement g (pos 0) ≡ plain_sum (evening_of f) g
unfolding store
run_statement f z t cs p n g h =
    let l : g < (evening_of f).grocers = at_sizes f.lists f (λ k m n. g < m) h in
    rw (ran_tables f z t cs p n) (get_d_overwrite (evening_of f).grocers (run_state (evening_of f) cs).statement t.statement g (pos 0) l)
    ∙ ap (λ (s : State). s.statement g) (run_all f (settles_in f z) cs)
    ∙ end_statement (evening_of f) (evening_range f (settles_in f z)) g l

-- A permitted step has a request that is accepted: one that lends of each table what it needs.
step_accepted : (f : JobTables) → Settles f → (t : StateTables) (rs : List Request) → SomeStep (permitted (evening_of f) (done_in f t rs)) → SomeAccepted f (tables_after f t rs)
unfolding permitted_request
step_accepted f z t rs s =
    let x : Step = record { kind = s.kind; first = s.first; second = s.second } in
    let r = whole_request f x in
    let allowed : permitted_request f (done_in f t rs) r ≡ true = rw (whole_lends f x, whole_kind f x, whole_step f x) s.holds in
    record { request = r; holds = rw (answer_of_lem f z t rs r, accepted_zero (refusal_of f (done_in f t rs) r)) (refusal_zero f (done_in f t rs) r ∙ allowed) }

pub demand3 : (f : JobTables) → Settles f → (t : StateTables) (rs : List Request) → Demand3 f t rs
unfolding reported
demand3 f z t rs = record {
  answers = list_is f z t rs;
  next_answer = answer_of_lem f z t rs;
  accepts = λ r. rw (answer_of_lem f z t rs r, accepted_zero (refusal_of f (done_in f t rs) r)) (refusal_zero f (done_in f t rs) r);
  does = does_is f z t rs;
  keeps = keeps_is f z t rs;
  holds = state_is f z t rs;
  stays = left_is f z t rs ∙ ap (λ (s : State). store (evening_of f) s t) (sym (view_left f z t rs));
  in_range = rw (left_is f z t rs) (and_true (ok_store f (reached (evening_of f) (asks f rs)) t (within f (settles_in f z) t (reached (evening_of f) (asks f rs)) (reach f z t rs)))
      (totals_store (evening_of f) (reached (evening_of f) (asks f rs)) t (within f (settles_in f z) t (reached (evening_of f) (asks f rs)) (reach f z t rs))));
  marks = λ k a b i. (ap (λ (s : State). s.done) (view_left f z t rs) ∙ marked_is f z t rs) i k a b;
  words_sent = words_is f z t rs;
  running_sum = λ g. rw (state_is f z t rs) (running (evening_of f) (evening_range f (settles_in f z)) (done_in f t rs) (closed_is f z t rs) g);
  goes_on = progress (evening_of f) (evening_range f (settles_in f z)) (done_in f t rs);
  some_accepted = λ k a b h n. step_accepted f z t rs (progress (evening_of f) (evening_range f (settles_in f z)) (done_in f t rs) k a b h n);
  at_most = omega (arith, size_is f z t rs, size_le (evening_of f) (done_in f t rs) (has_step (evening_of f)) (closed_is f z t rs).steps, steps_number (evening_of f));
  all_done = count_is f z t rs;
  all_taken = λ e. all_of_size (evening_of f) (done_in f t rs) (closed_is f z t rs) (size_is f z t rs ∙ e ∙ sym (steps_number (evening_of f)));
  finish = λ h. rw (all_is f z t rs h) (record {
    statements = end_statement (evening_of f) (evening_range f (settles_in f z));
    no_working = λ b g lb lg. end_working (evening_of f) (evening_range f (settles_in f z)) b g lb lg;
    no_totals = end_total_transit (evening_of f);
    no_prices = end_price_transit (evening_of f);
    words_sent = end_sent (evening_of f) (evening_range f (settles_in f z));
  });
  one_price = λ h o b l. rw (accepted_is f z t rs) (one_price_lem (evening_of f) (evening_range f (settles_in f z)) (asks f rs) (rw (done_is f z t rs) at h) o b l);
  one_total = λ h g b l. rw (accepted_is f z t rs) (one_total_lem (evening_of f) (evening_range f (settles_in f z)) (asks f rs) (rw (done_is f z t rs) at h) g b l);
  each_word = rw (accepted_is f z t rs) (each_word_lem (evening_of f) (fresh (evening_of f)) (asks f rs));
  same_steps = λ h u ps e. count_is f z u ps e ∙ sym (count_is f z t rs h);
  same_state = λ h u ps e. all_is f z u ps e ∙ sym (all_is f z t rs h);
  run_leaves = λ h u cs p n. run_view f z u cs p n ∙ sym (all_is f z t rs h);
  run_report = λ h u cs p n. ran_answer f z u cs p ∙ rw (n, owner_is f z t rs h, sends_is f z t rs h, count_is f z t rs h);
}

-- A run is the list of the steps it picks.
pub demand3_run : (f : JobTables) → Settles f → (t : StateTables) (cs p : List ℕ) → RunIsList f t cs p
demand3_run f z t cs p = record {
  answer = ran_answer f z t cs p;
  accepted = accepted_is f z t (map (whole_request f) (run (evening_of f) cs)) ∙ rw (asks_whole f (run (evening_of f) cs)) (run_taken (evening_of f) (evening_range f (settles_in f z)) cs);
  all_done = rw (done_is f z t (map (whole_request f) (run (evening_of f) cs)), asks_whole f (run (evening_of f) cs)) (run_done (evening_of f) (evening_range f (settles_in f z)) cs);
  tables = λ h. ran_tables f z t cs p h ∙ sym (left_is f z t (map (whole_request f) (run (evening_of f) cs)) ∙ rw (asks_whole f (run (evening_of f) cs), ← (run_reached (evening_of f) (evening_range f (settles_in f z)) cs)));
  statements = run_statement f z t cs p;
  places = ran_places f z t cs p;
  past = ran_past f z t cs p;
  keeps = ran_keeps f z t cs p;
}
