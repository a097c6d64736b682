-- The run without choices over the tables of a job: its order is the steps that the job has, and what they leave. Assumes nothing.
use mathlib.Core.Path.{◌≡◌, refl, sym, ap, ◌∙◌}
use mathlib.Core.List.{List, []}
use Prim.Native.Nat.{ℕ, suc, ◌*◌, ◌/◌, ◌%◌, ◌≤◌, ◌<◌}
use native.Mathlib.Omega.{arith}
use native.Mathlib.Nat.{mod-lt, mul-le-mul}
use lib.IntN.{ℤ}
use lib.ListN.{length, take}
use borrow.Author.Tests.{lt-ltb}
use Rattle.laws.specs.Below.{ascending}
use Rattle.laws.specs.Lists.{list_words}
use Rattle.laws.specs.Tables.{tabulate}
use Rattle.laws.proofs.Ascending.{ascending_cong}
use Rattle.model.specs.Job.{Job, need_word, sharer_word}
use Rattle.model.specs.Steps.{Kind, send_prices, multiply_own, receive_prices, send_totals, add_own, receive_totals, State, Step, step_at, at_place, fits, has_step, fresh}
use Rattle.model.specs.Words.{over, messages_of}
use Rattle.model.specs.PackedTotals.{spread, totals_length}
use Rattle.model.specs.Tables.{JobTables, job_of, with_lists, evening_of, StateTables, store}
use Rattle.model.specs.Run.{after_steps, run, run_state}
use Rattle.model.proofs.PriceLists.{same_steps_lem}
use Rattle.model.proofs.ListTotals.{list_totals_lem}
use Rattle.model.proofs.Spans.{length_most}
use Rattle.model.proofs.Step.{job_in_lem, range, limits}
use Rattle.model.proofs.Whole.{JobWhole, job_whole}
use Rattle.step_places.specs.Order.{steps_in}
use Rattle.step_places.proofs.Plain.{Plain, plain_order}
use Rattle.job_masks.specs.Masks.{Placed, Owned, holder_word, by_owner}
use Rattle.job_masks.proofs.Holders.{need_words, sharer_words}
use Rattle.job_masks.proofs.InJob.{placed_offers, placed_grocers, owned_offers, owned_grocers}
use Rattle.job_masks.proofs.Owned.{prices_reach, totals_reach}
use Rattle.run_steps.specs.All.{without_marks, AllIn, after_order, AllOut}
use Rattle.run_steps.proofs.Way.{some_box}
use Rattle.job_masks.specs.Due.{due_by, due_at}
use Rattle.settle.specs.Due.{DueIn, DueOut}

module _ (f : JobTables) (g : DueIn f) where
  abbrev job : Job
  job = job_of f

  -- The same with all price lists.
  abbrev evening : Job
  evening = evening_of f

  parts : JobWhole f
  parts = job_whole f g.job_long

  -- What the words of tallies require.
  pub needs_in : Placed f.boxes f.tallies 500 f.tally_box f.tally_offer
  needs_in = placed_offers f g.job_in_lem parts

  pub sharers_in : Placed f.boxes f.tallies 255 f.tally_box f.tally_grocer
  sharers_in = placed_grocers f g.job_in_lem parts

  one_box_lem : 1 ≤ f.boxes
  one_box_lem = some_box f g.job_in_lem

  few_boxes : f.boxes ≤ 16
  unfolding job_of
  few_boxes = (range f g.job_in_lem.inside).boxes≤

  -- The most words of prices in all boxes, and of totals.
  width_most : suc f.lists ≤ 8
  width_most = omega (arith, (job_in_lem f g.job_in_lem.inside).lists≤)

  prices_most : f.boxes * list_words f.lists f.offers ≤ 64_000
  prices_most = mul-le-mul {n₂ = 16} {m₂ = 4_000} few_boxes (mul-le-mul {n₂ = 500} {m₂ = 8} (job_in_lem f g.job_in_lem.inside).offers≤ width_most)

  totals_most : totals_length evening ≤ 10_040
  unfolding job_of
  totals_most =
      let l = limits f g.job_in_lem.inside in
      let entries : totals_length (job_of f) ≤ 1_255 = omega (arith, length_most (job_of f) (range f g.job_in_lem.inside), l.grocers≤, l.tallies≤) in
      omega (arith, (list_totals_lem f).packed_length, mul-le-mul {n₂ = 1_255} {m₂ = 8} entries width_most)

  -- With the words of needs and sharers made of these tables.
  module _ (needs sharers : List ℕ) (en : needs ≡ tabulate 500 (holder_word f.boxes f.tallies f.tally_box f.tally_offer))
      (es : sharers ≡ tabulate 255 (holder_word f.boxes f.tallies f.tally_box f.tally_grocer)) where
    -- What their order requires.
    pub order_in : (order : List ℕ) → length order ≡ 1536 →
        ((1 ≤ f.boxes) × (f.boxes ≤ 16) × (length order ≡ 1536)) × (Owned f.offers f.offer_owner needs × Owned f.grocers f.grocer_owner sharers)
    order_in order l = ((one_box_lem, few_boxes, l), (owned_offers f g.job_in_lem parts needs _ en, owned_grocers f g.job_in_lem parts sharers _ es))

    needs_of : needs ≡ tabulate 500 (need_word job)
    needs_of = en ∙ need_words f g.job_in_lem.bare

    sharers_of : sharers ≡ tabulate 255 (sharer_word job)
    sharers_of = es ∙ sharer_words f g.job_in_lem.bare

    -- The words of each owner.
    abbrev receivers : List ℕ
    receivers = by_owner f.offers f.offer_owner needs

    abbrev senders : List ℕ
    senders = by_owner f.grocers f.grocer_owner sharers

    -- The steps that they tell are the job's.
    fits_is : (q : Kind) (a b : ℕ) → a < f.boxes → b < f.boxes → due_by receivers senders q a b ≡ fits job q a b
    unfolding due_by fits
    fits_is send_prices a b la lb = prices_reach f g.job_in_lem needs needs_of a b la lb
    fits_is multiply_own a b la lb = refl
    fits_is receive_prices a b la lb = prices_reach f g.job_in_lem needs needs_of b a lb la
    fits_is send_totals a b la lb = totals_reach f g.job_in_lem sharers sharers_of a b la lb
    fits_is add_own a b la lb = refl
    fits_is receive_totals a b la lb = totals_reach f g.job_in_lem sharers sharers_of b a lb la

    due_is : (i : ℕ) → due_at f.boxes receivers senders i ≡ at_place f.boxes (has_step job) i
    unfolding step_at has_step job_of
    due_is i =
        let la : i / f.boxes % f.boxes < f.boxes = mod-lt (i / f.boxes) one_box_lem in
        let lb : i % f.boxes < f.boxes = mod-lt i one_box_lem in
        rw (lt-ltb _ f.boxes la, lt-ltb _ f.boxes lb) (fits_is _ _ _ la lb)

    -- An order of them.
    module _ (order : List ℕ) (n : ℕ) (few : n ≤ 1536) (long : length order ≡ 1536)
        (eo : take n order ≡ ascending (6 * f.boxes * f.boxes) (due_at f.boxes receivers senders)) where
      plain : Plain job order n
      unfolding job_of
      plain = plain_order job (range f g.job_in_lem.inside) order n (rw long few) (eo ∙ ascending_cong (6 * f.boxes * f.boxes) _ _ (λ i l. due_is i))

      -- All of them may be done.
      pub all_in : (known transit : List ℕ) (working totals statement : List ℤ) → length known ≡ 64_000 → length transit ≡ 64_000 →
          length working ≡ 10_040 → length totals ≡ 10_040 → list_words f.lists f.grocers ≤ length statement →
          AllIn f (without_marks known transit working totals statement) needs sharers order n
      all_in known transit working totals statement lk lt lw lm ls =
          let prices = prices_most in
          let most = totals_most in
          record {
            job_in_lem = g.job_in_lem;
            job_long = g.job_long;
            known_long_lem = omega (arith, prices, lk);
            transit_long_lem = omega (arith, prices, lt);
            working_long_lem = omega (arith, most, lw);
            totals_long = omega (arith, most, lm);
            statement_long_lem = ls;
            needs_are = needs_of;
            sharers_are = sharers_of;
            does = record { long = rw long few; few = few; places_in = plain.places_in; in_turn_lem = plain.in_turn_lem };
          }

      -- Where they are done the run has ended: it picks with all price lists the steps of the entries.
      steps_run : steps_in f.boxes n order ≡ run evening []
      unfolding job_of
      steps_run = plain.steps_are ∙ sym ((same_steps_lem f).picks [])

      end_is : after_order evening n order ≡ run_state evening []
      unfolding after_order run_state with_lists spread job_of
      end_is = ap (after_steps evening (fresh evening)) steps_run

      pub due_out : (t t' : StateTables) (words messages : ℕ) → AllOut evening t t' order n words messages → DueOut evening t.statement t'.statement words messages n
      unfolding store with_lists spread job_of
      due_out t t' words messages r = record {
        statement_is = r.holds.statement ∙ ap (λ (s : State). (store evening s t).statement) end_is;
        words_are = r.words_are ∙ ap (λ (s : State). s.sent) end_is;
        messages_are = r.messages_are ∙ ap (over messages_of) steps_run;
        steps_are = plain.count_is ∙ ap (λ (xs : List Step). length xs) (sym ((same_steps_lem f).picks []));
      }
