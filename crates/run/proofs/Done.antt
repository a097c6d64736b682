-- What doing the steps of an order comes to, whatever the steps were picked by. Assumes nothing.
use mathlib.Core.Path.{◌≡◌, sym, ap, ◌∙◌}
use mathlib.Core.Bool.{false}
use mathlib.Core.List.{List, map}
use Prim.Native.Nat.{ℕ}
use lib.ListN.{length, set, take}
use Rattle.laws.specs.Tables.{tabulate}
use Rattle.laws.proofs.Tables.{overwrite_one}
use Rattle.model.specs.Job.{need_word, sharer_word}
use Rattle.model.specs.Steps.{Steps, Step, State, fresh}
use Rattle.model.specs.Tables.{JobTables, job_of, with_lists, evening_of, StateTables, store, steps_done, marks_of, state_lengths, totals_short}
use Rattle.model.specs.PackedTotals.{spread}
use Rattle.model.specs.Words.{over, messages_of}
use Rattle.model.specs.Run.{placed, after_steps}
use Rattle.step_places.specs.Order.{steps_in, mark_all, no_steps}
use Rattle.run_order.specs.Order.{MarksFrom, SoFar}
use Rattle.run_steps.specs.All.{without_marks, AllIn, AllOut, after_order}
use Rattle.run.specs.Run.{Begins}
use Rattle.model.proofs.Lent.{state_long, totals_long}
use Rattle.job_masks.proofs.InJob.{some_box}
use Rattle.step_prices.proofs.Effect.{tables_eq}
use Rattle.step_places.proofs.Orders.{steps_length, places_back}
use Rattle.run_steps.proofs.Turns.{after_marks}

module _ (f : JobTables) (t : StateTables) (g : Begins f t) (packed : totals_short (evening_of f) (state_lengths t) ≡ false) (needs sharers done order : List ℕ) (n : ℕ)
    (en : needs ≡ tabulate 500 (need_word (job_of f))) (es : sharers ≡ tabulate 255 (sharer_word (job_of f))) (w : SoFar (job_of f) done order n) where
  -- All steps of the order may be done.
  pub steps_may : AllIn f (without_marks t.known t.price_transit t.working t.total_transit t.statement) needs sharers order n
  unfolding state_lengths
  steps_may =
      let l = state_long f (state_lengths t) g.state_long in
      let k = totals_long (evening_of f) (state_lengths t) packed in
      record {
        job_in_lem = g.job_in_lem;
        job_long = g.job_long;
        known_long_lem = l.known;
        transit_long_lem = l.price_transit;
        working_long_lem = k.working;
        totals_long = k.total_transit;
        statement_long_lem = l.statement;
        needs_are = en;
        sharers_are = es;
        does = record { long = rw w.long w.in_order; few = w.in_order; places_in = w.places_in; in_turn_lem = w.in_turn_lem };
      }

  -- Where they are done, and are the steps xs, an evening with these steps has ended.
  module _ (xs : List Step) (steps_of : steps_in f.boxes n order ≡ xs) (t' : StateTables) (words messages : ℕ)
      (r : AllOut (evening_of f) (without_marks t.known t.price_transit t.working t.total_transit t.statement)
      (without_marks t'.known t'.price_transit t'.working t'.total_transit t'.statement) order n words messages)
      (m : MarksFrom f.boxes t.done done) (ed : t'.done ≡ done) (es' : t'.sent ≡ set t.sent 0 words) where
    -- The state at the end.
    abbrev end : State
    end = after_steps (evening_of f) (fresh (evening_of f)) xs

    end_is : after_order (evening_of f) n order ≡ end
    unfolding after_order with_lists spread job_of
    end_is = ap (after_steps (evening_of f) (fresh (evening_of f))) steps_of

    end_marks : steps_done f.boxes done ≡ end.done
    unfolding fresh job_of
    end_marks = w.marks_are ∙ ap (mark_all no_steps) steps_of ∙ sym (after_marks (evening_of f) (fresh (evening_of f)) xs)

    done_is : t'.done ≡ (store (evening_of f) end t).done
    unfolding store MarksFrom with_lists spread job_of
    done_is = ed ∙ m ∙ ap (λ (d : Steps). marks_of f.boxes d t.done) end_marks

    pub words_done : words ≡ end.sent
    words_done = r.words_are ∙ ap (λ (s : State). s.sent) end_is

    sent_is : t'.sent ≡ (store (evening_of f) end t).sent
    unfolding store state_lengths
    sent_is = es' ∙ ap (set t.sent 0) words_done ∙ sym (overwrite_one end.sent t.sent (state_long f (state_lengths t) g.state_long).sent)

    pub tables_done : t' ≡ store (evening_of f) end t
    unfolding store
    tables_done =
        let h = rw end_is at r.holds in
        tables_eq t' (store (evening_of f) end t) h.known h.price_transit h.working h.total_transit h.statement done_is sent_is

    pub messages_done : messages ≡ over messages_of xs
    unfolding with_lists spread job_of
    messages_done = r.messages_are ∙ ap (over messages_of) steps_of

    pub number_done : n ≡ length xs
    number_done = sym (steps_length f.boxes n order (rw w.long w.in_order)) ∙ ap length steps_of

    -- The words of the order are the places of the steps.
    pub places_done : take n order ≡ map (placed (evening_of f)) xs
    unfolding with_lists spread job_of
    places_done = sym (places_back f.boxes n order (some_box f g.job_in_lem) w.places_in) ∙ ap (map (placed (evening_of f))) steps_of
