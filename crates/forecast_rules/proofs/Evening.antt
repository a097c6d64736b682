-- The evening of forecasting holds of every forecast in range, whatever the buffers held and whatever is requested. Assumes nothing.
use mathlib.Core.Path.{◌≡◌, refl, sym, ap, ◌∙◌}
use mathlib.Core.Bool.{true, false, cond, ◌&&◌, ◌||◌, not}
use mathlib.Core.List.{List, [], ◌∷◌}
use Prim.Native.Nat.{ℕ, ◌+◌}
use native.Mathlib.Omega.{arith}
use lib.Dec.{eqb}
use lib.ListN.{length}
use Rattle.laws.proofs.Bools.{split, or_turn, or_false, and_r}
use Rattle.model.specs.Step.{is_kind, step_answer}
use Rattle.forecast_rules.specs.Steps.{Kind, kind_number, kind_of, Step, Steps, State, mark, done_by, has_step, permitted, fresh, effect_of}
use Rattle.forecast_rules.specs.Boxes.{state_by_rules, Closed, Sound}
use Rattle.forecast_rules.specs.Tables.{ForecastTables, forecast_of, StateTables, view, store}
use Rattle.forecast_rules.specs.Ranges.{Forecasts}
use Rattle.forecast_rules.specs.Step.{step_of, fresh_tables}
use Rattle.forecast_rules.specs.Requests.{Request, lends_short, answer_to, serve, serve_all, accepted_from, answers_from, tables_after, answers_in, accepted_in, done_in}
use Rattle.forecast_rules.specs.Evening.{AllDone, permitted_request, refusal_of, answers_by_rules, Evening}
use Rattle.model.proofs.Refusal.{accepted_zero}
use Rattle.forecast_rules.proofs.Machine.{permit}
use Rattle.forecast_rules.proofs.Core.{effect_done}
use Rattle.forecast_rules.proofs.Reach.{sound_fresh, all_steps}
use Rattle.forecast_rules.proofs.Progress.{progress}
use Rattle.forecast_rules.proofs.Finish.{finished}
use Rattle.forecast_rules.proofs.Counting.{size, size_none, size_mark, steps_are, size_most, all_of_size}
use Rattle.forecast_rules.proofs.Refusal.{rules_zero}
use Rattle.forecast_rules.proofs.Served.{range, allowed, next, one_answer, one_serve, one_sound, view_is, store_in}

-- A request is refused by number 0 just where it is permitted.
refusal_zero : (f : ForecastTables) (d : Steps) (r : Request) → eqb (refusal_of f d r) 0 ≡ permitted_request f d r
unfolding refusal_of permitted_request step_of
refusal_zero f d r =
    split (lends_short f r)
    (λ e. rw e)
    (λ e. rw e (rules_zero (forecast_of f) d r.asked))

module _ (f : ForecastTables) (z : Forecasts f) (t : StateTables) where
  -- The state after a list of requests, and the steps accepted in it.
  unfoldable pub state_from : State → List Request → State
  state_from s [] = s
  state_from s (r ∷ rs) = state_from (next f z t s r) rs

  unfoldable pub steps_from : State → List Request → List Step
  steps_from s [] = []
  steps_from s (r ∷ rs) = cond (permitted_request f s.done r) (step_of r.asked ∷ steps_from (next f z t s r) rs) (steps_from (next f z t s r) rs)

  -- The steps done after a request.
  next_done : (s : State) (r : Request) →
      (next f z t s r).done ≡ cond (permitted_request f s.done r) (mark s.done (step_of r.asked).kind r.asked.first r.asked.second) s.done
  unfolding next allowed permitted_request step_of
  next_done s r =
      split (not (lends_short f r) && (is_kind r.asked.kind && permitted (forecast_of f) s.done (kind_of r.asked.kind) r.asked.first r.asked.second))
      (λ e. rw (e, effect_done (forecast_of f) s (kind_of r.asked.kind) r.asked.first r.asked.second))
      (λ e. rw e)

  all_sound : (s : State) → Sound (forecast_of f) s → (rs : List Request) → Sound (forecast_of f) (state_from s rs)
  unfolding state_from
  all_sound s o [] = o
  all_sound s o (r ∷ rs) = all_sound (next f z t s r) (one_sound f z t s o r) rs

  all_serve : (s : State) → Sound (forecast_of f) s → (rs : List Request) → serve_all f (store (forecast_of f) s t) rs ≡ store (forecast_of f) (state_from s rs) t
  unfolding serve_all state_from
  all_serve s o [] = refl
  all_serve s o (r ∷ rs) = ap (λ (u : StateTables). serve_all f u rs) (one_serve f z t s o r) ∙ all_serve (next f z t s r) (one_sound f z t s o r) rs

  all_accepted : (s : State) → Sound (forecast_of f) s → (rs : List Request) → accepted_from f (store (forecast_of f) s t) rs ≡ steps_from s rs
  unfolding accepted_from steps_from
  all_accepted s o [] = refl
  all_accepted s o (r ∷ rs) =
      rw (one_answer f z t s o r, accepted_zero (refusal_of f s.done r), refusal_zero f s.done r, one_serve f z t s o r, all_accepted (next f z t s r) (one_sound f z t s o r) rs)

  all_answers : (s : State) → Sound (forecast_of f) s → (rs : List Request) → answers_from f (store (forecast_of f) s t) rs ≡ answers_by_rules f s.done rs
  unfolding answers_from answers_by_rules step_of
  all_answers s o [] = refl
  all_answers s o (r ∷ rs) =
      rw (one_answer f z t s o r, one_serve f z t s o r, all_answers (next f z t s r) (one_sound f z t s o r) rs, next_done s r)

  -- Marks are the steps accepted, and those there were.
  one_done : (s : State) (r : Request) (xs : List Step) (k : Kind) (a b : ℕ) →
      (done_by xs k a b || (next f z t s r).done k a b) ≡ (done_by (cond (permitted_request f s.done r) (step_of r.asked ∷ xs) xs) k a b || s.done k a b)
  unfolding done_by mark step_of
  one_done s r xs k a b =
      rw (next_done s r) (split (permitted_request f s.done r)
      (λ e. rw e (or_turn (eqb (kind_number k) (kind_number (kind_of r.asked.kind)) && (eqb a r.asked.first && eqb b r.asked.second)) (done_by xs k a b) (s.done k a b)))
      (λ e. rw e))

  all_done_lem : (s : State) (rs : List Request) (k : Kind) (a b : ℕ) → (state_from s rs).done k a b ≡ (done_by (steps_from s rs) k a b || s.done k a b)
  unfolding state_from steps_from done_by
  all_done_lem s [] k a b = refl
  all_done_lem s (r ∷ rs) k a b = all_done_lem (next f z t s r) rs k a b ∙ one_done s r (steps_from (next f z t s r) rs) k a b

  -- Each accepted step is one more of the set.
  one_size : (s : State) (r : Request) (xs : List Step) →
      length xs + size (forecast_of f) (next f z t s r).done ≡ length (cond (permitted_request f s.done r) (step_of r.asked ∷ xs) xs) + size (forecast_of f) s.done
  unfolding permitted_request step_of
  one_size s r xs =
      rw (next_done s r) (split (permitted_request f s.done r)
      (λ e. rw (
        e,
        size_mark (forecast_of f) s.done (kind_of r.asked.kind) r.asked.first r.asked.second
            (permit (forecast_of f) s.done (kind_of r.asked.kind) r.asked.first r.asked.second (and_r (is_kind r.asked.kind) _ (and_r (not (lends_short f r)) _ e))),
      ) (omega arith))
      (λ e. rw e))

  all_size : (s : State) (rs : List Request) → size (forecast_of f) (state_from s rs).done ≡ length (steps_from s rs) + size (forecast_of f) s.done
  unfolding state_from steps_from
  all_size s [] = omega arith
  all_size s (r ∷ rs) = all_size (next f z t s r) rs ∙ one_size s r (steps_from (next f z t s r) rs)

  module _ (rs : List Request) where
    -- The state that the list leaves, from a fresh one.
    abbrev left : State
    left = state_from (fresh (forecast_of f)) rs

    sound : Sound (forecast_of f) left
    sound = all_sound (fresh (forecast_of f)) (sound_fresh (forecast_of f)) rs

    left_is : tables_after f t rs ≡ store (forecast_of f) left t
    unfolding tables_after fresh_tables
    left_is = all_serve (fresh (forecast_of f)) (sound_fresh (forecast_of f)) rs

    accepted_is : accepted_in f t rs ≡ steps_from (fresh (forecast_of f)) rs
    unfolding accepted_in fresh_tables
    accepted_is = all_accepted (fresh (forecast_of f)) (sound_fresh (forecast_of f)) rs

    marked_is : left.done ≡ done_in f t rs
    unfolding done_in fresh
    marked_is = (λ i k a b. (all_done_lem (fresh (forecast_of f)) rs k a b ∙ or_false (done_by (steps_from (fresh (forecast_of f)) rs) k a b)) i) ∙ ap done_by (sym accepted_is)

    view_left : view (forecast_of f) (tables_after f t rs) ≡ left
    view_left = ap (view (forecast_of f)) left_is ∙ view_is f z t left sound

    state_is : view (forecast_of f) (tables_after f t rs) ≡ state_by_rules (forecast_of f) (done_in f t rs)
    state_is = view_left ∙ sound.form ∙ ap (state_by_rules (forecast_of f)) marked_is

    closed_is : Closed (forecast_of f) (done_in f t rs)
    closed_is = rw marked_is at sound.closed

    list_is : answers_in f t rs ≡ answers_by_rules f (λ k a b. false) rs
    unfolding answers_in fresh_tables fresh
    list_is = all_answers (fresh (forecast_of f)) (sound_fresh (forecast_of f)) rs

    answer_of_lem : (r : Request) → answer_to f (tables_after f t rs) r ≡ step_answer (refusal_of f (done_in f t rs) r)
    answer_of_lem r =
        ap (λ (u : StateTables). answer_to f u r) left_is
        ∙ one_answer f z t left sound r
        ∙ ap (λ (d : Steps). step_answer (refusal_of f d r)) marked_is

    served_is : (r : Request) → serve f (tables_after f t rs) r ≡ store (forecast_of f) (next f z t left r) t
    served_is r = ap (λ (u : StateTables). serve f u r) left_is ∙ one_serve f z t left sound r

    next_yes : (r : Request) → permitted_request f (done_in f t rs) r ≡ true → next f z t left r ≡ effect_of (forecast_of f) left (step_of r.asked)
    unfolding next allowed permitted_request step_of
    next_yes r h = rw (marked_is, h)

    next_not : (r : Request) → permitted_request f (done_in f t rs) r ≡ false → next f z t left r ≡ left
    unfolding next allowed permitted_request step_of
    next_not r h = rw (marked_is, h)

    does_is : (r : Request) → permitted_request f (done_in f t rs) r ≡ true →
        view (forecast_of f) (serve f (tables_after f t rs) r) ≡ effect_of (forecast_of f) (view (forecast_of f) (tables_after f t rs)) (step_of r.asked)
    does_is r h =
        ap (view (forecast_of f)) (served_is r)
        ∙ view_is f z t (next f z t left r) (one_sound f z t left sound r)
        ∙ next_yes r h
        ∙ ap (λ (s : State). effect_of (forecast_of f) s (step_of r.asked)) (sym view_left)

    keeps_is : (r : Request) → permitted_request f (done_in f t rs) r ≡ false → serve f (tables_after f t rs) r ≡ tables_after f t rs
    keeps_is r h = served_is r ∙ ap (λ (s : State). store (forecast_of f) s t) (next_not r h) ∙ sym left_is

    size_is : size (forecast_of f) (done_in f t rs) ≡ length (accepted_in f t rs)
    unfolding fresh
    size_is = ap (size (forecast_of f)) (sym marked_is) ∙ all_size (fresh (forecast_of f)) rs ∙ rw (size_none (forecast_of f), accepted_is) (omega arith)

    -- All done: the state is that of all steps.
    all_is : AllDone (forecast_of f) (done_in f t rs) → view (forecast_of f) (tables_after f t rs) ≡ state_by_rules (forecast_of f) (has_step (forecast_of f))
    all_is h = state_is ∙ ap (state_by_rules (forecast_of f)) (all_steps (forecast_of f) (done_in f t rs) closed_is h)

-- The evening of forecasting.
pub evening : (f : ForecastTables) → Forecasts f → (t : StateTables) (rs : List Request) → Evening f t rs
evening f z t rs = record {
  answers = list_is f z t rs;
  next_answer = answer_of_lem f z t rs;
  accepts = λ r. rw (answer_of_lem f z t rs r, accepted_zero (refusal_of f (done_in f t rs) r)) (refusal_zero f (done_in f t rs) r);
  does = does_is f z t rs;
  keeps = keeps_is f z t rs;
  holds = state_is f z t rs;
  stays = left_is f z t rs ∙ ap (λ (s : State). store (forecast_of f) s t) (sym (view_left f z t rs));
  in_range = rw (left_is f z t rs) (store_in f z t (left f z t rs) (sound f z t rs));
  marks = λ k a b i. (ap (λ (s : State). s.done) (view_left f z t rs) ∙ marked_is f z t rs) i k a b;
  goes_on = progress (forecast_of f) (done_in f t rs);
  at_most = omega (arith, size_is f z t rs, size_most (forecast_of f) (done_in f t rs) (closed_is f z t rs));
  all_done = λ h. sym (size_is f z t rs) ∙ ap (size (forecast_of f)) (all_steps (forecast_of f) (done_in f t rs) (closed_is f z t rs) h) ∙ steps_are (forecast_of f);
  all_taken = λ e. all_of_size (forecast_of f) (done_in f t rs) (closed_is f z t rs) (size_is f z t rs ∙ e);
  finish = λ h. rw (all_is f z t rs h) (finished (forecast_of f) (range f z));
  same_state = λ h u ps e. all_is f z u ps e ∙ sym (all_is f z t rs h);
}
