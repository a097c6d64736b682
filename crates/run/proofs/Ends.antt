-- What a run begins with, and what it comes to. Assumes nothing.
use mathlib.Core.Path.{◌≡◌, refl, sym, ap, ◌∙◌}
use mathlib.Core.Bool.{Bool, true, false, cond, not, ◌||◌}
use mathlib.Core.List.{List, [], ◌∷◌}
use Prim.Native.Nat.{ℕ, zero, suc, ◌*◌, ◌≤◌}
use native.Mathlib.Omega.{arith}
use lib.Dec.{eqb, ltb}
use lib.ListN.{length, get_or, set, take, drop}
use borrow.Author.Tests.{ne_eqb}
use Rattle.laws.specs.Tables.{tabulate, lay_over}
use Rattle.laws.specs.Checks.{first_met}
use Rattle.laws.proofs.Bools.{or_true, or_false}
use Rattle.laws.proofs.Checks.{one_met}
use Rattle.model.specs.Job.{Job, need_word, sharer_word}
use Rattle.model.specs.Steps.{Step, State, fresh, effect_of}
use Rattle.model.specs.Tables.{JobTables, job_of, evening_of, StateTables, store, job_lengths, state_lengths, job_short, bags_short, state_short, lent_short, totals_short, counted_of}
use Rattle.recount.specs.Recount.{counted_twice}
use Rattle.model.specs.Ranges.{Settles, job_in_range}
use Rattle.model.specs.Local.{job_refusals}
use Rattle.model.specs.Handed.{handed_tables, Standing}
use Rattle.model.specs.Words.{over, messages_of, message_count, step_count}
use Rattle.model.specs.Run.{ready_count, pick, picks, run, picked_places, run_state, RunAnswer, finished, refused, reported, run_refusals, ran}
use Rattle.job_masks.specs.Masks.{holder_word, Placed, Owned, by_owner}
use Rattle.step_waits.specs.Waits.{TallyLists, tally_lists, wait_table, WaitsIn}
use Rattle.job_checks.specs.Sizes.{sizes}
use Rattle.run_ready.specs.Walk.{WalkIn}
use Rattle.step_places.specs.Order.{steps_in}
use Rattle.run_order.specs.Order.{OfJob, SomeJob, EveryJob, MarksFrom, SoFar, Ordered}
use Rattle.run_steps.specs.All.{without_marks, AllIn, AllOut}
use Rattle.run.specs.Run.{Begins, given, OrderIn}
use Rattle.book_places.specs.Spots.{CountIn, start_by}
use Rattle.model.proofs.Handed.{handed-whole, handed_in, handed_evening, handed_run}
use Rattle.job_checks.proofs.Refusals.{accepted}
use Rattle.model.proofs.PriceLists.{same_steps_lem}
use Rattle.model.proofs.Step.{range}
use Rattle.model.proofs.Lent.{state_long}
use Rattle.job_checks.proofs.Sizes.{short_sizes}
use Rattle.model.proofs.Whole.{JobWhole, job_whole}
use Rattle.job_masks.proofs.Holders.{need_words, sharer_words}
use Rattle.job_masks.proofs.InJob.{placed_offers, placed_grocers, owned_offers}
use Rattle.step_waits.proofs.Told.{receivers_of, waits_of, waits_in}
use Rattle.run_steps.proofs.Way.{some_box}
use Rattle.run_order.proofs.Few.{messages_few as few_messages}
use Rattle.run_order.proofs.SoFar.{picked_so_far}
use Rattle.run.proofs.Behind.{met_before as met_first, met_behind}
use Rattle.run.proofs.Done.{steps_may, words_done, tables_done, messages_done, number_done, places_done}
use Rattle.run_steps.proofs.Looking.{count_ready, packed_words}

-- At most 16 boxes have at most 512 messages.
messages_few : (j : Job) → j.boxes ≤ 16 → message_count j ≤ 512
messages_few j l = few_messages j l

-- No more steps are picked than there is room for.
picks_few : (j : Job) (n : ℕ) (s : State) (cs : List ℕ) → length (picks j n s cs) ≤ n
unfolding picks
picks_few j zero s cs = omega arith
picks_few j (suc n) s cs =
    let x = pick j s.done (get_or cs 0 0) in
    at_most (eqb (ready_count j s.done) 0) (x ∷ picks j n (effect_of j s x) (drop 1 cs)) (omega (arith, picks_few j n (effect_of j s x) (drop 1 cs)))
  where
    at_most : (b : Bool) (xs : List Step) → length xs ≤ suc n → length (cond b [] xs) ≤ suc n
    at_most true xs h = omega arith
    at_most false xs h = h

-- So there is room for the order of a run.
pub run_few : (j : Job) → j.boxes ≤ 16 → (cs : List ℕ) → length (run j cs) ≤ 1536
unfolding run step_count
run_few j l cs = omega (arith, picks_few j (step_count j) (fresh j) cs, messages_few j l)

-- A job with words of receivers and waits, and what holds of every one, where these words are others by name.
module _ (boxes : ℕ) (receivers receivers' : List ℕ) (waits waits' : List (List ℕ)) (er : receivers ≡ receivers') (ew : waits ≡ waits') where
  pub some_same : SomeJob boxes receivers' waits' → SomeJob boxes receivers waits
  some_same s = rw (er, ew) s

  pub every_same : (P : Job → Type 0) → EveryJob boxes receivers waits P → EveryJob boxes receivers' waits' P
  every_same P h = λ j p. h j (rw (er, ew) p)

module _ (f : JobTables) (t : StateTables) (g : Begins f t) where
  job_parts : JobWhole f
  job_parts = job_whole f g.job_long

  -- What the words and tables of messages require.
  pub begins_needs : Placed f.boxes f.tallies 500 f.tally_box f.tally_offer
  begins_needs = placed_offers f g.job_in_lem job_parts

  abbrev lists : TallyLists
  lists = tally_lists f.offer_owner f.grocer_owner f.tally_grocer f.tally_box f.tally_offer

  begins_waits : WaitsIn f.boxes f.tallies lists
  begins_waits = waits_in f g.job_in_lem job_parts

  pub begins_sharers : Placed f.boxes f.tallies 255 f.tally_box f.tally_grocer
  begins_sharers = placed_grocers f g.job_in_lem job_parts

  -- The walk may begin.
  begins_walk : WalkIn f.boxes t.done
  unfolding state_lengths job_of
  begins_walk = record { some = some_box f g.job_in_lem; boxes_in = (range f g.job_in_lem.inside).boxes≤; done_long = (state_long f (state_lengths t) g.state_long).done }

  -- The sharer words are the job's, and tell whether the packed tables are short.
  module _ (sharers : List ℕ) (es : sharers ≡ tabulate 255 (holder_word f.boxes f.tallies f.tally_box f.tally_grocer)) where
    pub sharers_of : sharers ≡ tabulate 255 (sharer_word (job_of f))
    sharers_of = es ∙ sharer_words f g.job_in_lem.bare

    pub totals_count : (CountIn f.grocers f.grocer_owner sharers) × ((f.boxes ≤ 16) × (f.lists ≤ 7))
    totals_count = count_ready f g.job_in_lem g.job_long sharers sharers_of

    -- The words of the packed tables, by the sharer words.
    abbrev packed_by : ℕ
    packed_by = start_by f.grocers f.grocer_owner sharers f.boxes * suc f.lists

    pub totals_told : (x : Bool) → x ≡ (ltb (length t.working) packed_by || ltb (length t.total_transit) packed_by) → x ≡ totals_short (evening_of f) (state_lengths t)
    unfolding totals_short state_lengths
    totals_told x e = e ∙ ap (λ (n : ℕ). ltb (length t.working) n || ltb (length t.total_transit) n) (packed_words f g.job_in_lem g.job_long sharers sharers_of)

  module _ (needs : List ℕ) (en : needs ≡ tabulate 500 (holder_word f.boxes f.tallies f.tally_box f.tally_offer)) where
    begins_prices : Owned f.offers f.offer_owner needs
    begins_prices = owned_offers f g.job_in_lem job_parts needs _ en

    -- The need words are the job's, and so are the words of receivers and waits.
    pub needs_of : needs ≡ tabulate 500 (need_word (job_of f))
    needs_of = en ∙ need_words f g.job_in_lem.bare

    pub of_job : OfJob f.boxes (by_owner f.offers f.offer_owner needs) (wait_table f.boxes lists f.tallies) (job_of f)
    unfolding job_of
    of_job = record {
      boxes_are = refl;
      boxes_in = (range f g.job_in_lem.inside).boxes≤;
      some = some_box f g.job_in_lem;
      receivers_are = receivers_of f g.job_in_lem needs needs_of _ refl;
      waits_are = waits_of f g.job_in_lem _ refl;
    }

    -- Its order may be picked.
    pub order_in : OrderIn f.boxes f.offers f.tallies lists needs t.done
    order_in = record { needs_in = begins_prices; lists_in = begins_waits; done_in_lem = begins_walk; some_job = record { job = _; of_it = of_job } }

  -- There is room for the count of words sent.
  pub sent_room : 1 ≤ length t.sent
  unfolding state_lengths
  sent_room = (state_long f (state_lengths t) g.state_long).sent

  -- All steps of the order may be done.
  module _ (packed : totals_short (evening_of f) (state_lengths t) ≡ false) (needs sharers cs done order : List ℕ) (n : ℕ)
      (en : needs ≡ tabulate 500 (need_word (job_of f))) (es : sharers ≡ tabulate 255 (sharer_word (job_of f))) (w : Ordered (job_of f) cs done order n) where
    pub all_in : AllIn f (without_marks t.known t.price_transit t.working t.total_transit t.statement) needs sharers order n
    all_in = steps_may f t g packed needs sharers done order n en es (picked_so_far (job_of f) done order n [] w.picked)

    -- Where they are done the run has ended.
    module _ (t' : StateTables) (words messages : ℕ)
        (r : AllOut (evening_of f) (without_marks t.known t.price_transit t.working t.total_transit t.statement)
        (without_marks t'.known t'.price_transit t'.working t'.total_transit t'.statement) order n words messages)
        (m : MarksFrom f.boxes t.done done) (ed : t'.done ≡ done) (es' : t'.sent ≡ set t.sent 0 words) where
      -- The state at the end.
      abbrev end : State
      end = run_state (evening_of f) cs

      -- The steps of the order are those of the run on every price list.
      steps_of : steps_in f.boxes n order ≡ run (evening_of f) cs
      unfolding job_of
      steps_of = w.steps_are ∙ sym ((same_steps_lem f).picks cs)

      -- What doing its steps comes to.
      abbrev so_far : SoFar (job_of f) done order n
      so_far = picked_so_far (job_of f) done order n [] w.picked

      words_is : words ≡ end.sent
      unfolding run_state
      words_is = words_done f t g packed needs sharers done order n en es so_far (run (evening_of f) cs) steps_of t' words messages r m ed es'

      pub tables_are : t' ≡ store (evening_of f) end t
      unfolding run_state
      tables_are = tables_done f t g packed needs sharers done order n en es so_far (run (evening_of f) cs) steps_of t' words messages r m ed es'

      messages_is : messages ≡ over messages_of (run (evening_of f) cs)
      messages_is = messages_done f t g packed needs sharers done order n en es so_far (run (evening_of f) cs) steps_of t' words messages r m ed es'

      steps_is : n ≡ length (run (evening_of f) cs)
      steps_is = number_done f t g packed needs sharers done order n en es so_far (run (evening_of f) cs) steps_of t' words messages r m ed es'

      -- The words of the order are the places of the steps picked.
      places_are : take n order ≡ picked_places (evening_of f) cs
      unfolding picked_places
      places_are = places_done f t g packed needs sharers done order n en es so_far (run (evening_of f) cs) steps_of t' words messages r m ed es'

      -- What is answered, the tables, and the places of the steps picked.
      pub run_ended : (p p' : List ℕ) → p' ≡ lay_over (take n order) p → given (finished words messages n) t' p'
          ≡ given (finished end.sent (over messages_of (run (evening_of f) cs)) (length (run (evening_of f) cs))) (store (evening_of f) end t) (lay_over (picked_places (evening_of f) cs) p)
      run_ended p p' e = λ i. given (finished (words_is i) (messages_is i) (steps_is i)) (tables_are i) ((e ∙ ap (λ (l : List ℕ). lay_over l p) places_are) i)

-- A number that is not 0 is a refusal.
refused_said : (n : ℕ) (a : RunAnswer) → (n ≡ 0 → ⊥) → refused n ≡ reported n a
unfolding reported
refused_said zero a h = absurd (h refl)
refused_said (suc n) a h = refl

-- Behind the refusals of the job's tables stands one more: it is met where those are not.
met_before : (a b c d : Bool) (n : ℕ) → n ≡ first_met ((a, 20) ∷ (b, 21) ∷ (c, 9) ∷ []) → (n ≡ 0 → ⊥) → first_met ((a, 20) ∷ (b, 21) ∷ (c, 9) ∷ (d, 20) ∷ []) ≡ n
met_before a b c d n e h = met_first a b c ((d, 20) ∷ []) n e h

met_last : (a b c d : Bool) → first_met ((a, 20) ∷ (b, 21) ∷ (c, 9) ∷ []) ≡ 0 → d ≡ true → first_met ((a, 20) ∷ (b, 21) ∷ (c, 9) ∷ (d, 20) ∷ []) ≡ 20
met_last a b c d e h = met_behind a b c ((d, 20) ∷ []) e ∙ one_met d 20 h

-- The refusals of a run: 20 on the state's tables, those of the job's, and 20 on the packed tables.
module _ (f : JobTables) (t : StateTables) (c : Bool) (e : c ≡ state_short (sizes f.boxes f.grocers f.offers f.lists) (state_lengths t)) where
  pub state_is : c ≡ state_short f (state_lengths t)
  state_is = e ∙ short_sizes f (state_lengths t)

  -- A table of the state is short: no word is changed.
  pub run_short : (cs p : List ℕ) → c ≡ true → given (refused 20) t p ≡ ran f t cs p
  unfolding ran run_refusals first_met lent_short
  run_short cs p h = rw (sym state_is ∙ h, or_true (job_short f (job_lengths f) || bags_short f (job_lengths f))) (ap (λ (a : RunAnswer). given a t p) (refused_said 20 _ (λ q. omega arith)))

  -- None is: the refusals are those of the job's tables, and 20 on the packed tables.
  module _ (h : c ≡ false) where
    -- A number that is met is the run's refusal.
    said : (cs p : List ℕ) (n : ℕ) → first_met (run_refusals f t) ≡ n → (n ≡ 0 → ⊥) → given (refused n) t p ≡ ran f t cs p
    unfolding ran
    said cs p n q k = rw (q, ne_eqb n 0 k) (ap (λ (a : RunAnswer). given a t p) (refused_said n _ k))

    else_is : lent_short f t ≡ (job_short f (job_lengths f) || bags_short f (job_lengths f))
    unfolding lent_short
    else_is = rw (sym state_is ∙ h, or_false (job_short f (job_lengths f) || bags_short f (job_lengths f)))

    pub run_refused : (cs p : List ℕ) (n : ℕ) → n ≡ first_met (job_refusals f) → (n ≡ 0 → ⊥) → given (refused n) t p ≡ ran f t cs p
    unfolding run_refusals job_refusals
    run_refused cs p n q k =
        said cs p n (rw else_is (met_before (job_short f (job_lengths f) || bags_short f (job_lengths f)) (not (job_in_range f)) (counted_twice (counted_of f)) (totals_short (evening_of f) (state_lengths t)) n q k)) k

    -- No refusal of the job's tables: with the boxes of the tallies that stand the run may begin.
    module _ (z : first_met (job_refusals f) ≡ 0) (standing : List ℕ) (s : Standing f standing) where
      settled : Settles f
      settled = accepted f z

      pub begins : Begins (handed_tables f standing) t
      unfolding state_short
      begins = record {
        job_in_lem = handed_in f standing s settled.in_range;
        job_long = handed-whole f standing s settled.whole;
        state_long = sym state_is ∙ h;
      }

      -- The packed tables of the job as handed are those of the tables as lent.
      pub packed_is : (x : Bool) → x ≡ totals_short (evening_of (handed_tables f standing)) (state_lengths t) → x ≡ totals_short (evening_of f) (state_lengths t)
      packed_is x q = q ∙ ap (λ (j : Job). totals_short j (state_lengths t)) (handed_evening f standing s)

      pub run_packed : (cs p : List ℕ) (x : Bool) → x ≡ totals_short (evening_of (handed_tables f standing)) (state_lengths t) → x ≡ true → given (refused 20) t p ≡ ran f t cs p
      unfolding run_refusals job_refusals
      run_packed cs p x q k =
          said cs p 20 (rw else_is (met_last (job_short f (job_lengths f) || bags_short f (job_lengths f)) (not (job_in_range f)) (counted_twice (counted_of f)) (totals_short (evening_of f) (state_lengths t)) z (sym (packed_is x q) ∙ k)))
          (λ q. omega arith)

      -- Nor is a packed table short: what the run comes to is the run of the tables as lent.
      pub run_finished : (cs p : List ℕ) → totals_short (evening_of (handed_tables f standing)) (state_lengths t) ≡ false →
          given (finished (run_state (evening_of (handed_tables f standing)) cs).sent (over messages_of (run (evening_of (handed_tables f standing)) cs)) (length (run (evening_of (handed_tables f standing)) cs)))
          (store (evening_of (handed_tables f standing)) (run_state (evening_of (handed_tables f standing)) cs) t)
          (lay_over (picked_places (evening_of (handed_tables f standing)) cs) p) ≡ ran f t cs p
      unfolding lent_short
      run_finished cs p k =
          sym (handed_run f standing s t cs p (rw (settled.whole, settled.bags, sym state_is ∙ h)) settled.in_range settled.once (sym (packed_is (totals_short (evening_of (handed_tables f standing)) (state_lengths t)) refl) ∙ k))
