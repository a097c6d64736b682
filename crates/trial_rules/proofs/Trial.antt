-- What the call of a trial gives, of a job that settles: an evening. Assumes nothing.
use mathlib.Core.Path.{◌≡◌, refl, sym, ap, ◌∙◌}
use mathlib.Core.List.{List, []}
use mathlib.Core.Bool.{true, false, cond, ◌||◌}
use Prim.Native.Nat.{ℕ, ◌≤◌, zero, suc}
use native.Mathlib.Omega.{arith}
use lib.ListN.{length, length-map}
use lib.Dec.{eqb}
use borrow.Author.Tests.{ne_eqb, leb-true}
use Rattle.laws.specs.Checks.{first_met}
use Rattle.laws.proofs.Bools.{split, and_l, and_r, or_off}
use Rattle.laws.proofs.Tables.{get_d_overwrite, get_d_past, lay_in, lay_past}
use Rattle.laws.specs.Tables.{overwrite, lay_over}
use Rattle.model.specs.Job.{Job}
use Rattle.model.specs.Run.{ran, placed}
use Rattle.model.specs.Words.{step_count}
use Rattle.model.specs.Steps.{State, has_step, fresh}
use Rattle.model.specs.Tables.{JobTables, StateTables, store, lent_short, evening_of, state_lengths, totals_short, any_short}
use Rattle.model.specs.Ranges.{sizes_in_range, job_in_range, Settles}
use Rattle.model.specs.Boxes.{state_by_rules}
use Rattle.trial_rules.specs.Rounds.{is_preference, trial, taken_steps, idle_rounds, TrialEnds, taken_places, trial_state}
use Rattle.trial_rules.specs.Trial.{trial_answer, trial_short, trial_refusals, trial_number, tried_on, TrialIsEvening, TrialOutcome, trial_outcome, tried_all, trial_requests, refused}
use Rattle.model.specs.Demand3.{AllDone}
use Rattle.model.specs.Requests.{tables_after, accepted_in, done_in}
use Rattle.model.proofs.Range.{InRange}
use Rattle.model.proofs.Machine.{taken}
use Rattle.model.proofs.Step.{evening_range}
use Rattle.model.proofs.Served.{settles_in}
use Rattle.model.proofs.Demand3.{accepted_is, asks_whole, run_all, ran_tables, run_statement, left_is, done_is, demand3}
use Rattle.model.proofs.Lists.{all_reached}
use Rattle.model.proofs.EveningJob.{at_sizes}
use Rattle.trial_rules.proofs.Rounds.{trial_ends, all_done_lem, trial_state_lem, trial_is, every_kind}

module _ (f : JobTables) (z : Settles f) (t : StateTables) (prefs idle picked : List ℕ) where
  number_is : first_met (trial_refusals f t prefs idle) ≡ trial_number f t prefs idle
  unfolding trial_refusals trial_number first_met
  number_is =
      rw (z.in_range, z.once) (split (trial_short f t prefs idle) (λ s. rw s)
      (λ s. rw s (split (totals_short (evening_of f) (state_lengths t)) (λ p. rw p) (λ p. rw p (split (is_preference prefs) (λ e. rw e) (λ e. rw e))))))

  -- What is not refused is lent whole, with a preference list.
  module _ (none : trial_number f t prefs idle ≡ 0) where
    all_lent : (trial_short f t prefs idle || totals_short (evening_of f) (state_lengths t)) ≡ false
    unfolding trial_number
    all_lent = split (trial_short f t prefs idle || totals_short (evening_of f) (state_lengths t)) (λ e. absurd (let n : 20 ≡ 0 = rw e at none in omega arith)) (λ e. e)

    a_list : is_preference prefs ≡ true
    unfolding trial_number
    a_list = split (is_preference prefs) (λ e. e) (λ e. absurd (let n : 33 ≡ 0 = rw (all_lent, e) at none in omega arith))

    run_whole : any_short f t ≡ false
    unfolding any_short trial_short
    run_whole = let (s, p) = or_off (trial_short f t prefs idle) _ all_lent in rw ((or_off (lent_short f t) _ s).0, p)

    none_met : eqb (first_met (trial_refusals f t prefs idle)) 0 ≡ true
    none_met = rw (number_is, none)

    -- It is the trial of the evening's job.
    given : tried_on f t prefs idle picked ≡ tried_all (evening_of f) t prefs idle picked
    unfolding tried_on
    given = rw none_met

  module _ (p : is_preference prefs ≡ true) where
    abbrev j : Job
    j = evening_of f

    range : InRange j
    range = evening_range f (settles_in f z)

    steps_taken : taken j (fresh j) (taken_steps (trial j prefs)) ≡ taken_steps (trial j prefs)
    steps_taken = (trial_ends j range prefs (every_kind prefs p)).goes.takes

    accepted : accepted_in f t (trial_requests f prefs) ≡ taken_steps (trial j prefs)
    accepted = accepted_is f z t (trial_requests f prefs) ∙ rw (asks_whole f (taken_steps (trial j prefs))) steps_taken

    done : AllDone j (done_in f t (trial_requests f prefs))
    done = rw (done_is f z t (trial_requests f prefs), asks_whole f (taken_steps (trial j prefs))) (all_done_lem j range prefs (every_kind prefs p))

    state_is : trial_state j prefs ≡ state_by_rules j (has_step j)
    state_is = trial_state_lem j range prefs (every_kind prefs p)

    left : tables_after f t (trial_requests f prefs) ≡ store j (trial_state j prefs) t
    left =
        left_is f z t (trial_requests f prefs)
        ∙ rw (asks_whole f (taken_steps (trial j prefs)))
        (ap (λ (s : State). store j s t) (all_reached j range (taken_steps (trial j prefs)) (all_done_lem j range prefs (every_kind prefs p)) ∙ sym state_is))

    some_box : 1 ≤ j.boxes
    unfolding job_in_range sizes_in_range
    some_box = at_sizes f.lists f (λ k m n. 1 ≤ k) (leb-true 1 f.boxes (let w = z.in_range in search (and_l, and_r) depth 12))

    ends_is : TrialEnds j prefs
    ends_is = trial_is j range prefs (every_kind prefs p) some_box

    places-length : length (taken_places j prefs) ≡ step_count j
    unfolding taken_places
    places-length = length-map (taken_steps (trial j prefs)) (placed j) ∙ ends_is.steps

  answer_is : (tried_on f t prefs idle picked).answer ≡ trial_answer (trial_number f t prefs idle) (length (trial (evening_of f) prefs))
  unfolding tried_on tried_all trial_answer
  answer_is = rw number_is (by_number (trial_number f t prefs idle))
    where
      by_number : (n : ℕ) → (cond (eqb n 0) (tried_all (evening_of f) t prefs idle picked) (trial_outcome (refused n) t idle picked)).answer ≡ trial_answer n (length (trial (evening_of f) prefs))
      by_number zero = refl
      by_number (suc n) = rw (ne_eqb (suc n) 0 (λ q. omega arith))

  kept_is : (trial_number f t prefs idle ≡ 0 → ⊥) → tried_on f t prefs idle picked ≡ trial_outcome (refused (trial_number f t prefs idle)) t idle picked
  unfolding tried_on
  kept_is h = rw (number_is, ne_eqb (trial_number f t prefs idle) 0 h)

  tables_is : (n : trial_number f t prefs idle ≡ 0) → (tried_on f t prefs idle picked).tables ≡ store (evening_of f) (trial_state (evening_of f) prefs) t
  unfolding tried_all
  tables_is n = ap (λ (o : TrialOutcome). o.tables) (given n)

  same_end_lem : trial_number f t prefs idle ≡ 0 → (cs ps : List ℕ) → (tried_on f t prefs idle picked).tables ≡ (ran f t cs ps).tables
  same_end_lem n cs ps =
      tables_is n
      ∙ ap (λ (s : State). store (evening_of f) s t) (state_is (a_list n) ∙ sym (run_all f (settles_in f z) cs))
      ∙ sym (ran_tables f z t cs ps (run_whole n))

  idle_is : trial_number f t prefs idle ≡ 0 → (tried_on f t prefs idle picked).idle ≡ overwrite f.boxes (λ b. idle_rounds b (trial (evening_of f) prefs)) idle
  unfolding tried_all
  idle_is n = ap (λ (o : TrialOutcome). o.idle) (given n) ∙ at_sizes f.lists f (λ k m n. overwrite k (λ b. idle_rounds b (trial (evening_of f) prefs)) idle ≡ overwrite f.boxes (λ b. idle_rounds b (trial (evening_of f) prefs)) idle) refl

  picked_is : trial_number f t prefs idle ≡ 0 → (tried_on f t prefs idle picked).picked ≡ lay_over (taken_places (evening_of f) prefs) picked
  unfolding tried_all
  picked_is n = ap (λ (o : TrialOutcome). o.picked) (given n)

  -- A trial of a job that settles is an evening.
  pub trial_is_evening : TrialIsEvening f t prefs idle picked
  trial_is_evening = record {
    answer = answer_is;
    keeps = kept_is;
    same_end = same_end_lem;
    statements = λ n g l. rw (same_end_lem n [] []) (run_statement f z t [] [] (run_whole n) g l);
    idle_told = λ n b l. rw (idle_is n) (get_d_overwrite f.boxes (λ b. idle_rounds b (trial (evening_of f) prefs)) idle b 0 l);
    idle_past = λ n b l. rw (idle_is n) (get_d_past f.boxes (λ b. idle_rounds b (trial (evening_of f) prefs)) idle b 0 l);
    places = λ n i l m. rw (picked_is n) (lay_in 0 (taken_places (evening_of f) prefs) picked i (omega (arith, l, places-length (a_list n))) m);
    past = λ n i l. rw (picked_is n) (lay_past 0 (taken_places (evening_of f) prefs) picked i (omega (arith, l, places-length (a_list n))));
    accepted = accepted;
    all_done = done;
    tables = λ n. tables_is n ∙ sym (left (a_list n));
    list = demand3 f z t (trial_requests f prefs);
    ends = ends_is;
  }
